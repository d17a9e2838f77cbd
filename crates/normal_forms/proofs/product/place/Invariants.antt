use Rattle.std.proofs.Common.{◌≡◌, ◌-◌, ◌≤◌, ◌++◌, take, drop, length, vec_len}
use Rattle.normal_forms.specs.Sums.{placed}
use Rattle.normal_forms.proofs.product.place.Given as goal

-- what is passed stays before the factor
abbrev pub invariant-loop-at : goal.invariant-loop-at
invariant-loop-at l =
    record {
      passed : take l.at l.factors.items ++ placed l.factor (drop l.at l.factors.items) ≡ placed l.factor l.factors.items;
      within : l.at ≤ length l.factors.items;
    }

abbrev pub decreases-loop-at : goal.decreases-loop-at
decreases-loop-at l = vec_len l.factors - l.at
