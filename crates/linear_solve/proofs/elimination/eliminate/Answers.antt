use Rattle.std.proofs.lemmas.Result.{err_from_is_err_and}
use Rattle.linear_solve.proofs.TakenLemmas.{OnLimit-weaker}
use Rattle.linear_solve.proofs.StepLemmas.{limit_turn, refuted_turn, step_turn, last_turn}
use Rattle.linear_solve.proofs.elimination.eliminate.Goals as goal

pub returns-in_err-failing-2-clause-limit : goal.returns-in_err-failing-2-clause-limit
returns-in_err-failing-2-clause-limit c =
    let p = err_from_is_err_and c.from_residual-in_err-failing-2.result c.from_residual-in_err-failing-2.ensures.1 in
    let outcome = rw c.deref.ensures.value at c.in_err-failing-2.ensures.limit in
    rw (p.1, p.2) (OnLimit-weaker c.in_err-failing-2.field-0.0 _ _
    (λ l passes. limit_turn c.loop-unknown.steps.items c.args.unknowns.now c.loop-unknown.unknown-index 0
    c.loop-unknown.level.rows c.loop-unknown.level.count _ _ _ l c.loop-unknown-test.true
    c.loop-unknown.invariant c.in_ok-with.ensures.with c.in_ok-with.ensures.without passes)
    outcome)

pub returns-in-Some-2-clause-ok : goal.returns-in-Some-2-clause-ok
returns-in-Some-2-clause-ok c =
    let outcome = rw c.deref.ensures.value at (rw c.in-Some-2.is at c.in_ok-failing-2.ensures.ok) in
    refuted_turn c.loop-unknown.steps.items c.args.unknowns.now c.loop-unknown.unknown-index 0
    c.loop-unknown.level.rows c.loop-unknown.level.count _ _ _ c.in-Some-2.failing c.loop-unknown-test.true
    c.loop-unknown.invariant c.in_ok-with.ensures.with c.in_ok-with.ensures.without outcome

pub loop-unknown-preserved : goal.loop-unknown-preserved
loop-unknown-preserved c =
    let outcome = rw c.deref.ensures.value at (rw c.in_default-2.is at c.in_ok-failing-2.ensures.ok) in
    rw (c.in_ok-push.ensures.items, c.from_vec.ensures)
    (step_turn c.loop-unknown.steps.items c.args.unknowns.now c.loop-unknown.unknown-index 0
    c.loop-unknown.level.rows c.loop-unknown.level.count _ _ _ _ _ c.loop-unknown-test.true
    c.loop-unknown.invariant c.in_ok-with.ensures.with c.in_ok-with.ensures.without outcome)

pub returns-clause-ok : goal.returns-clause-ok
returns-clause-ok c =
    rw c.from_vec-2.ensures (last_turn c.loop-unknown.steps.items c.args.unknowns.now c.loop-unknown.unknown-index
    c.loop-unknown.level.rows c.loop-unknown.level.count _ c.loop-unknown-test.false c.loop-unknown.invariant)
