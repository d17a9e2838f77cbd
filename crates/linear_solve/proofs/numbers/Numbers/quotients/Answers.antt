use Rattle.std.proofs.Common.{int_div, sym, ap, ◌∙◌, subst, T}
use Rattle.std.specs.Ordering.{nat_cmp}
use Rattle.linear_solve.proofs.NumberLemmas.{entries-empty, from_entries_list, quotient_step}
use Rattle.linear_solve.specs.Numbers.{quotients}
use Rattle.std.proofs.lemmas.List.{take_all}
use Rattle.std.specs.FinMap.{entries, entries_sorted, is_sorted}
use Rattle.linear_solve.proofs.numbers.Numbers.quotients.Goals as goal

pub loop-index-init : goal.loop-index-init
loop-index-init c = ap entries c.new-kept.ensures ∙ entries-empty

pub loop-index-preserved : goal.loop-index-preserved
loop-index-preserved c =
    let sorted = subst (λ l. T (is_sorted nat_cmp l)) (sym c.as_slice-index-items.ensures)
    (entries_sorted c.args.self.now) in
    quotient_step c.loop-index.kept _ c.args.divisor.now c.as_slice-index-items.result.now c.loop-index.index-index _ _ _
    sorted c.loop-index-test.true c.loop-index.invariant (ap (λ e. e.0) c.loop-index-item.is)
    (c.in_ok-quotient.ensures ∙ ap (λ e. int_div e.1 c.args.divisor.now) c.loop-index-item.is)
    c.in_ok-insert_unless_zero.ensures.kept c.in_ok-insert_unless_zero.ensures.left_out

pub returns : goal.returns
returns c =
    from_entries_list _ _ (c.loop-index.invariant
    ∙ ap (quotients c.args.divisor.now)
    (take_all c.loop-index.index-index _ c.loop-index-test.false ∙ c.as_slice-index-items.ensures))
