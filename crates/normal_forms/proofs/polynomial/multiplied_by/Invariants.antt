use Rattle.std.proofs.Common.{◌≡◌, drop}
use Rattle.normal_forms.specs.Sums.{multiplied_by}
use Rattle.normal_forms.proofs.polynomial.multiplied_by.Given as goal

-- the factors to come are multiplied by the product so far
abbrev pub invariant-loop-factor : goal.invariant-loop-factor
invariant-loop-factor l = multiplied_by l.total (drop l.factor-index l.factors) ≡ multiplied_by l.fn.term l.factors
