use Rattle.std.proofs.Common.{fold, pos, int_lt, sym, ap, ◌∙◌}
use Rattle.std.proofs.lemmas.Result.{err_from_is_err_and}
use Rattle.linear_solve.specs.declared.derived.Derived.{Derived}
use Rattle.linear_solve.specs.Derived.{factor_of}
use Rattle.linear_solve.specs.Levels.{taken, kept, paired, negative_rows}
use Rattle.linear_solve.proofs.TakenLemmas.{grouped_failing, grouped_passed, OnLimit-weaker}
use Rattle.linear_solve.proofs.level.Level.take_pairs.Goals as goal

pub returns-in_err-failing-clause-limit : goal.returns-in_err-failing-clause-limit
returns-in_err-failing-clause-limit c =
    let p = err_from_is_err_and c.from_residual.result c.from_residual.ensures.1 in
    let test = λ (row : Derived). int_lt (pos 0) (factor_of c.args.unknown row) in
    let group = λ (row : Derived). paired c.args.unknown row (negative_rows c.args.unknown c.args.rows.now) in
    let state = kept c.loop-row.self.rows c.loop-row.self.count in
    rw (p.1, p.2) (OnLimit-weaker c.in_err-failing.field-0.0 _ _
    (λ l passes. grouped_passed test group state c.args.rows.now c.loop-row.row-index _ _ l
    c.loop-row-test.true (ap test (sym c.row-item.is) ∙ sym c.is_positive.ensures ∙ c.if-is_positive.true)
    c.loop-row.invariant (ap (λ r. fold taken state (group r)) (sym c.row-item.is) ∙ passes))
    c.in_err-failing.ensures.limit)

pub returns-in-Some-clause-ok : goal.returns-in-Some-clause-ok
returns-in-Some-clause-ok c =
    let test = λ (row : Derived). int_lt (pos 0) (factor_of c.args.unknown row) in
    let group = λ (row : Derived). paired c.args.unknown row (negative_rows c.args.unknown c.args.rows.now) in
    let state = kept c.loop-row.self.rows c.loop-row.self.count in
    grouped_failing test group state c.args.rows.now c.loop-row.row-index _ _ c.in-Some.failing
    c.loop-row-test.true (ap test (sym c.row-item.is) ∙ sym c.is_positive.ensures ∙ c.if-is_positive.true)
    c.loop-row.invariant
    (ap (λ r. fold taken state (group r)) (sym c.row-item.is) ∙ rw c.in-Some.is at c.in_ok-failing.ensures.ok)
