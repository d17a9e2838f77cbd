use Rattle.std.proofs.Common.{◌≡◌}
use Rattle.normal_forms.specs.Sums.{present, summed}
use Rattle.normal_forms.specs.Scanning.{plus_rest}
use Rattle.normal_forms.specs.Widths.{is_wide}
use Rattle.normal_forms.proofs.polynomial.summed.Given as goal

-- the entries to come are added to the sum so far, and decide whether a factor is wide
abbrev pub invariant-loop-product : goal.invariant-loop-product
invariant-loop-product l =
    record {
      sum : plus_rest l.sum l.product-iterator ≡ summed (present l.polynomial.entries);
      wide : is_wide (present l.product-iterator) ≡ is_wide (present l.polynomial.entries);
    }
