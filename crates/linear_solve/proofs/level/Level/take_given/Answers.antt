use Rattle.std.proofs.Common.{◌+◌, drop, sym, ap, ◌∙◌}
use Rattle.std.proofs.lemmas.Result.{err_from_is_err_and}
use Rattle.linear_solve.specs.declared.limit.Limit.TheVariants as limits
use Rattle.linear_solve.specs.Derived.{given}
use Rattle.linear_solve.specs.Levels.{taken, kept, numbered}
use Rattle.linear_solve.proofs.TakenLemmas.{run_failing, run_passed, given_turn, OnLimit-weaker, wide_passes}
use Rattle.linear_solve.proofs.level.Level.take_given.Goals as goal

pub returns-then-is_wide_row-clause-limit : goal.returns-then-is_wide_row-clause-limit
returns-then-is_wide_row-clause-limit c =
    let n = c.loop-row.self.count in
    let state = kept c.loop-row.self.rows n in
    let turn = given_turn state n c.args.rows.now c.loop-row.row-index _ c.row-item.result _ c.loop-row-test.true
    c.loop-row.invariant c.row-item.is in
    run_passed state (given n c.row-item.result) (numbered (n + 1) (drop (c.loop-row.row-index + 1) c.args.rows.now)) _
    limits.Width turn
    (wide_passes c.loop-row.self.rows n (given n c.row-item.result)
    (sym c.is_wide_row.ensures ∙ c.if-is_wide_row.true))

pub returns-in_err-failing-clause-limit : goal.returns-in_err-failing-clause-limit
returns-in_err-failing-clause-limit c =
    let p = err_from_is_err_and c.from_residual-in_err-failing.result c.from_residual-in_err-failing.ensures.1 in
    let n = c.loop-row.self.count in
    let state = kept c.loop-row.self.rows n in
    let turn = given_turn state n c.args.rows.now c.loop-row.row-index _ c.row-item.result _ c.loop-row-test.true
    c.loop-row.invariant c.row-item.is in
    rw (p.1, p.2) (OnLimit-weaker c.in_err-failing.field-0.0 _ _
    (λ l passes. run_passed state (given n c.row-item.result)
    (numbered (n + 1) (drop (c.loop-row.row-index + 1) c.args.rows.now)) _ l turn
    (ap (taken state) (sym c.in_ok-derived.ensures) ∙ passes))
    c.in_err-failing.ensures.limit)

pub returns-in-Some-clause-ok : goal.returns-in-Some-clause-ok
returns-in-Some-clause-ok c =
    let n = c.loop-row.self.count in
    let state = kept c.loop-row.self.rows n in
    let turn = given_turn state n c.args.rows.now c.loop-row.row-index _ c.row-item.result _ c.loop-row-test.true
    c.loop-row.invariant c.row-item.is in
    run_failing state (given n c.row-item.result) (numbered (n + 1) (drop (c.loop-row.row-index + 1) c.args.rows.now)) _
    c.in-Some.failing turn
    (ap (taken state) (sym c.in_ok-derived.ensures) ∙ rw c.in-Some.is at c.in_ok-failing.ensures.ok)
