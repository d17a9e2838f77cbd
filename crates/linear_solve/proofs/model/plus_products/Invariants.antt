use Rattle.std.proofs.Common.{◌≡◌, drop}
use Rattle.linear_solve.specs.Models.{plus_products}
use Rattle.linear_solve.proofs.model.plus_products.Given as goal

abbrev pub invariant-loop-factor : goal.invariant-loop-factor
invariant-loop-factor l =
    plus_products l.values l.sum (drop l.factor-index l.factors) ≡ plus_products l.values l.fn.start l.factors
