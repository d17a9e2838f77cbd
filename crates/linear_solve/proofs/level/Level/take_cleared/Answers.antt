use Rattle.std.proofs.Common.{sym, ap, ◌∙◌}
use Rattle.std.proofs.lemmas.Result.{err_from_is_err_and}
use Rattle.linear_solve.specs.declared.derived.Derived.{Derived}
use Rattle.linear_solve.specs.Derived.{cleared}
use Rattle.linear_solve.specs.Levels.{kept, passed}
use Rattle.linear_solve.proofs.TakenLemmas.{formed_failing, formed_passed, OnLimit-weaker, wide_passes}
use Rattle.linear_solve.proofs.level.Level.take_cleared.Goals as goal

pub returns-in_err-derived-clause-limit : goal.returns-in_err-derived-clause-limit
returns-in_err-derived-clause-limit c =
    let p = err_from_is_err_and c.from_residual.result c.from_residual.ensures.1 in
    let form = λ (row : Derived). cleared c.args.unknown row c.args.equation.now in
    let state = kept c.loop-row.self.rows c.loop-row.self.count in
    rw (p.1, p.2) (OnLimit-weaker c.in_err-derived.field-0.0 _ _
    (λ l wide. formed_passed form state c.args.rows.now c.loop-row.row-index _ _ _ l c.loop-row-test.true
    c.loop-row.invariant (ap form c.row-item.is)
    (wide_passes c.loop-row.self.rows c.loop-row.self.count (form c.row-item.result) wide.1
    ∙ ap passed (sym wide.0)))
    c.in_err-derived.ensures.wide)

pub returns-in_err-failing-clause-limit : goal.returns-in_err-failing-clause-limit
returns-in_err-failing-clause-limit c =
    let p = err_from_is_err_and c.from_residual-in_err-failing.result c.from_residual-in_err-failing.ensures.1 in
    let form = λ (row : Derived). cleared c.args.unknown row c.args.equation.now in
    let state = kept c.loop-row.self.rows c.loop-row.self.count in
    rw (p.1, p.2) (OnLimit-weaker c.in_err-failing.field-0.0 _ _
    (λ l passes. formed_passed form state c.args.rows.now c.loop-row.row-index _ _ c.in_ok-derived.derived l
    c.loop-row-test.true c.loop-row.invariant (c.in_ok-derived.ensures.ok ∙ ap form c.row-item.is) passes)
    c.in_err-failing.ensures.limit)

pub returns-in-Some-clause-ok : goal.returns-in-Some-clause-ok
returns-in-Some-clause-ok c =
    let form = λ (row : Derived). cleared c.args.unknown row c.args.equation.now in
    let state = kept c.loop-row.self.rows c.loop-row.self.count in
    formed_failing form state c.args.rows.now c.loop-row.row-index _ _ c.in_ok-derived.derived c.in-Some.failing
    c.loop-row-test.true c.loop-row.invariant (c.in_ok-derived.ensures.ok ∙ ap form c.row-item.is)
    (rw c.in-Some.is at c.in_ok-failing.ensures.ok)
