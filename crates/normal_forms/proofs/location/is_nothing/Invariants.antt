use Rattle.std.proofs.Common.{◌≡◌}
use Rattle.normal_forms.specs.Sums.{present}
use Rattle.normal_forms.proofs.location.is_nothing.Given as goal

-- the entries so far are left out
abbrev pub invariant-loop-product : goal.invariant-loop-product
invariant-loop-product l = present l._product-iterator ≡ present l.polynomial.entries
