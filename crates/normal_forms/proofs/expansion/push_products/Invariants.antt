use Rattle.std.proofs.Common.{◌≡◌, ◌++◌, drop}
use Rattle.normal_forms.specs.Polynomials.{products}
use Rattle.normal_forms.proofs.expansion.push_products.Given as goal

-- the products of the summands to come are still to be written
abbrev pub invariant-loop-summand : goal.invariant-loop-summand
invariant-loop-summand l = l.summands ++ products (drop l.summand-index l.first) l.second ≡ l.initial.summands ++ products l.first l.second
