use Rattle.std.proofs.lemmas.Result.{err_from_is_err_and}
use Rattle.linear_solve.proofs.TakenLemmas.{OnLimit-weaker}
use Rattle.linear_solve.proofs.ModelLemmas.{step_limit}
use Rattle.linear_solve.proofs.model.values_of.Goals as goal

pub returns-in_err-value-clause-limit : goal.returns-in_err-value-clause-limit
returns-in_err-value-clause-limit c =
    let p = err_from_is_err_and c.from_residual.result c.from_residual.ensures.1 in
    let limit = rw c.as_slice.ensures.value at c.in_err-value.ensures.limit in
    rw (p.1, p.2) (OnLimit-weaker c.in_err-value.field-0.0 _ _
    (λ l passes. step_limit c.args.steps.now c.loop-left.left _ c.index-steps-left.result c.loop-left.values.items l
    c.loop-left-test.true c.loop-left.invariant.0 c.loop-left.invariant.1 c.index-steps-left.is passes)
    limit)
