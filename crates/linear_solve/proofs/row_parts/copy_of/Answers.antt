use Rattle.std.proofs.Common.{T, FitsSigned, pos, get_or, refl, sym, ap, ◌∙◌, subst, rules}
use Rattle.std.specs.Ordering.{nat_cmp}
use Rattle.std.specs.FinMap.{entries, entries_sorted, is_sorted}
use Rattle.std.proofs.lemmas.Int.{to_z-of_z}
use mir.Syntax.{w128}
use Rattle.linear_solve.proofs.NumberLemmas.{entries-empty}
use Rattle.linear_solve.proofs.RowLemmas.{copy_step, copy_end}
use Rattle.linear_solve.proofs.row_parts.copy_of.Goals as goal

pub loop-unknown-init : goal.loop-unknown-init
loop-unknown-init c = ap entries c.new-factors.ensures ∙ entries-empty

pub loop-unknown-preserved : goal.loop-unknown-preserved
loop-unknown-preserved c =
    let es = c.as_slice-unknown-items.result.now in
    let sorted = subst (λ l. T (is_sorted nat_cmp l)) (sym c.as_slice-unknown-items.ensures.value)
    (entries_sorted c.args.row.now.factors) in
    let fits : FitsSigned w128 (get_or es c.loop-unknown.unknown-index (0, pos 0)).1 = search rules in
    let made = simp to_z-of_z at c.in_ok-insert.ensures.ok in
    copy_step c.loop-unknown.factors _ es c.loop-unknown.unknown-index _ _ (0, pos 0) sorted c.loop-unknown-test.true
    c.loop-unknown.invariant refl refl made

pub returns : goal.returns
returns c =
    let fits : FitsSigned w128 c.args.row.now.constant = search rules in
    let factors = copy_end c.loop-unknown.factors c.args.row.now.factors _ _ c.loop-unknown.invariant
    c.as_slice-unknown-items.ensures.value c.loop-unknown-test.false in
    λ i. record {
      kind = c.args.row.now.kind;
      constant = to_z-of_z _ _ fits i;
      factors = factors i;
    }
