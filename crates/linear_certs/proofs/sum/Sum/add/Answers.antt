use Rattle.std.proofs.Common.{FitsSigned, T, pos, get_or, Err, subst, sym, ap, ◌∙◌, rules}
use Rattle.std.specs.FinMap.{is_sorted, entries_sorted}
use Rattle.std.specs.Ordering.{nat_cmp}
use Rattle.std.proofs.lemmas.Int.{to_z-of_z}
use Rattle.std.proofs.lemmas.Result.{err_from_is_err_and}
use mir.Syntax.{w128}
use Rattle.linear_certs.specs.Certificate.{constants, factors}
use Rattle.linear_certs.proofs.SumSteps.{start_factors, more_factors, all_factors, wide_factor}
use Rattle.linear_certs.proofs.sum.Sum.add.Goals as goal

pub plus_multiple-requires : goal.plus_multiple-requires
plus_multiple-requires c =
    let fits : FitsSigned w128 c.args.self.now.constant = search rules in
    rw (to_z-of_z w128 c.args.self.now.constant fits) (c.requires constants)

pub loop-unknown-init : goal.loop-unknown-init
loop-unknown-init c =
    let read_old : FitsSigned w128 c.args.self.now.constant = search rules in
    let read_row : FitsSigned w128 c.args.row.now.constant = search rules in
    let read_new : FitsSigned w128 c.in_ok-self.field-0 = search rules in
    let read_multiplier = c.ranges.multiplier in
    let is = simp to_z-of_z at c.in_ok-self.ensures.0 in
    simp to_z-of_z (start_factors _ _ _ _ _ is c.in_ok-self.ensures.1 (λ u. c.requires (factors u)))

pub loop-unknown-preserved : goal.loop-unknown-preserved
loop-unknown-preserved c =
    let read_multiplier = c.ranges.multiplier in
    let es = c.as_slice-unknown-items.result.now in
    let sorted : T (is_sorted nat_cmp es) =
    subst (λ l. T (is_sorted nat_cmp l)) (sym c.as_slice-unknown-items.ensures.value)
    (entries_sorted c.args.row.now.factors) in
    let read_factor : FitsSigned w128 (get_or es c.loop-unknown.unknown-index (0, pos 0)).1 = search rules in
    let has = simp to_z-of_z at c.loop-unknown.invariant in
    let here = simp to_z-of_z at c.in_ok-add_factor.ensures.here in
    simp to_z-of_z (more_factors _ _ _ _ es c.loop-unknown.unknown-index
    (0, pos 0) _ sorted c.loop-unknown-test.true has here
    c.in_ok-add_factor.ensures.narrow c.in_ok-add_factor.ensures.others)

pub returns-clause-sum : goal.returns-clause-sum
returns-clause-sum c =
    let read_multiplier = c.ranges.multiplier in
    let has = simp to_z-of_z at c.loop-unknown.invariant in
    all_factors _ _ _ _ _ _ c.as_slice-unknown-items.ensures.value c.loop-unknown-test.false has

pub returns-in_err-add_factor-clause-wide : goal.returns-in_err-add_factor-clause-wide
returns-in_err-add_factor-clause-wide c =
    let read_multiplier = c.ranges.multiplier in
    let es = c.as_slice-unknown-items.result.now in
    let sorted : T (is_sorted nat_cmp es) =
    subst (λ l. T (is_sorted nat_cmp l)) (sym c.as_slice-unknown-items.ensures.value)
    (entries_sorted c.args.row.now.factors) in
    let read_factor : FitsSigned w128 (get_or es c.loop-unknown.unknown-index (0, pos 0)).1 = search rules in
    let has = simp to_z-of_z at c.loop-unknown.invariant in
    let p = err_from_is_err_and c.from_residual-in_err-add_factor.result c.from_residual-in_err-add_factor.ensures.1 in
    λ is_width.
    let wide = simp to_z-of_z at (c.in_err-add_factor.ensures.wide (ap Err (sym p.2) ∙ sym p.1 ∙ is_width)) in
    wide_factor _ _ _ _ es c.loop-unknown.unknown-index
    (0, pos 0) sorted c.as_slice-unknown-items.ensures.value c.loop-unknown-test.true has wide
