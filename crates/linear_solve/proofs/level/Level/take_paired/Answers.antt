use Rattle.std.proofs.Common.{◌≡◌, ◌+◌, map, filter, subst, drop, fold, pos, int_lt, sym, ap, ◌∙◌}
use Rattle.std.proofs.lemmas.Result.{err_from_is_err_and}
use Rattle.linear_solve.specs.declared.derived.Derived.{Derived}
use Rattle.linear_solve.specs.Derived.{cleared, factor_of}
use Rattle.linear_solve.specs.Levels.{taken, kept, passed}
use Rattle.linear_solve.proofs.TakenLemmas.{tested_failing, tested_passed, tested_step, tested_skip}
use Rattle.linear_solve.proofs.TakenLemmas.{OnLimit-weaker, wide_passes}
use Rattle.linear_solve.specs.declared.level.Level.{Level}
use Rattle.linear_solve.proofs.level.Level.take_paired.Goals as goal
use Rattle.linear_solve.proofs.level.Level.take_paired.Goals.{then-is_negative+in_ok-derived+in_ok-failing+in_default}
use Rattle.linear_solve.proofs.level.Level.take_paired.Goals.{else-is_negative}

pub returns-in_err-derived-clause-limit : goal.returns-in_err-derived-clause-limit
returns-in_err-derived-clause-limit c =
    let p = err_from_is_err_and c.from_residual.result c.from_residual.ensures.1 in
    let test = λ (row : Derived). int_lt (factor_of c.args.unknown row) (pos 0) in
    let form = λ (other : Derived). cleared c.args.unknown c.args.row.now other in
    let state = kept c.loop-other.self.rows c.loop-other.self.count in
    rw (p.1, p.2) (OnLimit-weaker c.in_err-derived.field-0.0 _ _
    (λ l wide. tested_passed test form state c.args.rows.now c.loop-other.other-index _ _ _ l c.loop-other-test.true
    (ap test (sym c.other-item.is) ∙ sym c.is_negative.ensures ∙ c.if-is_negative.true) c.loop-other.invariant
    (ap form c.other-item.is)
    (wide_passes c.loop-other.self.rows c.loop-other.self.count (form c.other-item.result) wide.1
    ∙ ap passed (sym wide.0)))
    c.in_err-derived.ensures.wide)

pub returns-in_err-failing-clause-limit : goal.returns-in_err-failing-clause-limit
returns-in_err-failing-clause-limit c =
    let p = err_from_is_err_and c.from_residual-in_err-failing.result c.from_residual-in_err-failing.ensures.1 in
    let test = λ (row : Derived). int_lt (factor_of c.args.unknown row) (pos 0) in
    let form = λ (other : Derived). cleared c.args.unknown c.args.row.now other in
    let state = kept c.loop-other.self.rows c.loop-other.self.count in
    rw (p.1, p.2) (OnLimit-weaker c.in_err-failing.field-0.0 _ _
    (λ l passes. tested_passed test form state c.args.rows.now c.loop-other.other-index _ _ c.in_ok-derived.derived l
    c.loop-other-test.true (ap test (sym c.other-item.is) ∙ sym c.is_negative.ensures ∙ c.if-is_negative.true)
    c.loop-other.invariant (c.in_ok-derived.ensures.ok ∙ ap form c.other-item.is) passes)
    c.in_err-failing.ensures.limit)

pub returns-in-Some-clause-ok : goal.returns-in-Some-clause-ok
returns-in-Some-clause-ok c =
    let test = λ (row : Derived). int_lt (factor_of c.args.unknown row) (pos 0) in
    let form = λ (other : Derived). cleared c.args.unknown c.args.row.now other in
    let state = kept c.loop-other.self.rows c.loop-other.self.count in
    tested_failing test form state c.args.rows.now c.loop-other.other-index _ _ c.in_ok-derived.derived
    c.in-Some.failing c.loop-other-test.true
    (ap test (sym c.other-item.is) ∙ sym c.is_negative.ensures ∙ c.if-is_negative.true)
    c.loop-other.invariant (c.in_ok-derived.ensures.ok ∙ ap form c.other-item.is)
    (rw c.in-Some.is at c.in_ok-failing.ensures.ok)

pub loop-other-preserved : goal.loop-other-preserved
loop-other-preserved c =
    let test = λ (row : Derived). int_lt (factor_of c.args.unknown row) (pos 0) in
    let form = λ (other : Derived). cleared c.args.unknown c.args.row.now other in
    let state = kept c.loop-other.self.rows c.loop-other.self.count in
    let rows = c.args.rows.now in
    let i = c.loop-other.other-index in
    elim c.if-is_negative.branch [
      | then-is_negative+in_ok-derived+in_ok-failing+in_default w ↦
          subst (λ (s : Level). fold taken (kept s.rows s.count) (map form (filter test (drop (i + 1) rows)))
          ≡ fold taken (kept c.args.self.now.rows c.args.self.now.count) (map form (filter test rows)))
          (sym w.self-is)
          (tested_step test form state _ rows i _ _ w.in_ok-derived.derived c.loop-other-test.true
          (ap test (sym c.other-item.is) ∙ sym c.is_negative.ensures ∙ w.if-is_negative.true)
          c.loop-other.invariant (w.in_ok-derived.ensures.ok ∙ ap form c.other-item.is)
          (rw w.in_default.is at w.in_ok-failing.ensures.ok))
      | else-is_negative w ↦
          subst (λ (s : Level). fold taken (kept s.rows s.count) (map form (filter test (drop (i + 1) rows)))
          ≡ fold taken (kept c.args.self.now.rows c.args.self.now.count) (map form (filter test rows)))
          (sym w.self-is)
          (tested_skip test form state rows i _ _ c.loop-other-test.true
          (ap test (sym c.other-item.is) ∙ sym c.is_negative.ensures ∙ w.if-is_negative.false)
          c.loop-other.invariant)
    ]
