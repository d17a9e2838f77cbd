use Rattle.std.proofs.Common.{◌≡◌, ◌++◌, take}
use Rattle.normal_forms.proofs.expansion.push_factors.Given as goal

abbrev pub invariant-loop-factor : goal.invariant-loop-factor
invariant-loop-factor l = l.product ≡ l.initial.product ++ take l.factor-index l.factors
