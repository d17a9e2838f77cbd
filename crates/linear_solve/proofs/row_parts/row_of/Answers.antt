use Rattle.std.proofs.Common.{◌≡◌, IsTrue, T, FitsSigned, int_div, sym, ap, ◌∙◌, subst, rules}
use Rattle.std.specs.Ordering.{nat_cmp}
use Rattle.std.specs.FinMap.{entries_sorted, is_sorted}
use Rattle.std.proofs.lemmas.Int.{to_z-of_z}
use Rattle.std.proofs.lemmas.Result.{err_from_is_err_and}
use mir.Syntax.{w128}
use Rattle.linear_solve.specs.declared.limit.Limit.TheVariants as limits
use Rattle.linear_solve.specs.Limits.{is_wide, OnLimit}
use Rattle.linear_solve.proofs.RowLemmas.{partial_start, partial_step, row_made, row_narrow, row_wide}
use Rattle.linear_solve.proofs.row_parts.row_of.Goals as goal

pub loop-unknown-init : goal.loop-unknown-init
loop-unknown-init c = partial_start _ _ _ c.new-factors.ensures

pub loop-unknown-preserved : goal.loop-unknown-preserved
loop-unknown-preserved c =
    let es = c.as_slice-unknown-items.result.now in
    let sorted = subst (λ l. T (is_sorted nat_cmp l)) (sym c.as_slice-unknown-items.ensures)
    (entries_sorted c.args.sums.now) in
    let fits : FitsSigned w128 c.in_ok-factor.factor = search rules in
    let divided = ap (λ e. int_div e.1 c.args.divisor.now) c.loop-unknown-item.is in
    partial_step c.loop-unknown.factors _ c.args.divisor.now es c.loop-unknown.unknown-index _ _ _ sorted
    c.loop-unknown-test.true c.loop-unknown.invariant (ap (λ e. e.0) c.loop-unknown-item.is)
    (c.in_ok-factor.ensures.ok ∙ divided) (ap is_wide c.in_ok-factor.ensures.ok ∙ c.in_ok-factor.ensures.narrow)
    (simp to_z-of_z at c.in_ok-insert_unless_zero.ensures.kept)
    (simp to_z-of_z at c.in_ok-insert_unless_zero.ensures.left_out)

pub returns-in_err-factor-clause-wide : goal.returns-in_err-factor-clause-wide
returns-in_err-factor-clause-wide c =
    let p = err_from_is_err_and c.from_residual-in_err-factor.result c.from_residual-in_err-factor.ensures.1 in
    let wide = subst (λ e. OnLimit c.in_err-factor.field-0.0 (λ limit. (limit ≡ limits.Width)
    × IsTrue (is_wide (int_div e.1 c.args.divisor.now)))) c.loop-unknown-item.is c.in_err-factor.ensures.wide in
    rw (p.1, p.2) (row_wide c.args.kind c.args.constant.now c.args.divisor.now c.as_slice-unknown-items.result.now
    c.args.sums.now c.loop-unknown.unknown-index _ _ c.loop-unknown-test.true c.as_slice-unknown-items.ensures wide)

pub returns-clause-ok : goal.returns-clause-ok
returns-clause-ok c =
    let fits : FitsSigned w128 c.in_ok-constant.constant = search rules in
    let factors = row_made c.loop-unknown.factors c.args.divisor.now _ _ _ c.loop-unknown.invariant
    c.loop-unknown-test.false c.as_slice-unknown-items.ensures in
    let constant = to_z-of_z _ _ fits ∙ c.in_ok-constant.ensures.ok in
    λ i. record { kind = c.args.kind; constant = constant i; factors = factors i }

pub returns-clause-narrow : goal.returns-clause-narrow
returns-clause-narrow c =
    row_narrow c.args.kind c.args.constant.now c.loop-unknown.factors c.args.divisor.now _ c.args.sums.now _
    c.loop-unknown.invariant c.loop-unknown-test.false c.as_slice-unknown-items.ensures c.in_ok-constant.ensures.narrow
