use Rattle.std.proofs.Common.{refl}
use Rattle.std.proofs.lemmas.Result.{err_from_is_err_and}
use Rattle.linear_solve.proofs.TakenLemmas.{OnLimit-weaker}
use Rattle.linear_solve.proofs.ModelLemmas.{products_next, products_limit}
use Rattle.linear_solve.proofs.model.plus_products.Goals as goal

pub returns-in_err-sum-clause-limit : goal.returns-in_err-sum-clause-limit
returns-in_err-sum-clause-limit c =
    let p = err_from_is_err_and c.from_residual.result c.from_residual.ensures.1 in
    rw (p.1, p.2) (OnLimit-weaker c.in_err-sum.field-0.0 _ _
    (λ l passes. products_limit c.args.values.now c.loop-factor.sum c.args.factors.now c.loop-factor.factor-index _ _ _
    l c.loop-factor-test.true c.loop-factor.invariant refl passes)
    c.in_err-sum.ensures.limit)

pub loop-factor-preserved : goal.loop-factor-preserved
loop-factor-preserved c =
    products_next c.args.values.now c.loop-factor.sum _ c.args.factors.now c.loop-factor.factor-index _ _ _
    c.loop-factor-test.true c.loop-factor.invariant refl c.in_ok-sum.ensures.ok
