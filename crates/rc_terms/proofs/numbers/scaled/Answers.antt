use Rattle.std.proofs.Common.{FitsSigned, sym, ◌∙◌, rules, arith}
use Rattle.std.proofs.lemmas.Int.{to_z-of_z}
use mir.Syntax.{w128}
use Rattle.rc_terms.proofs.Shifts.{scaled_is}
use Rattle.rc_terms.proofs.numbers.scaled.Goals as goal

pub returns : goal.returns
returns c =
    let a_fits : FitsSigned w128 c.args.a = c.ranges.a in
    let half_fits : FitsSigned w128 c.in_ok-half.half = search rules in
    let number_fits : FitsSigned w128 c.in_ok-product.field-0 = search rules in
    let half_is = simp to_z-of_z at c.product.ensures in
    let result_is = simp to_z-of_z at c.product-2.ensures in
    scaled_is c.args.a c.args.places c.in_ok-half.half c.in_ok-product.field-0 _ (omega arith)
    (sym c.power_of_two.ensures ∙ c.in_ok-half.was) (sym half_is ∙ c.in_ok-product.was) result_is
