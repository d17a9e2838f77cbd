use Rattle.std.proofs.Common.{◌≡◌, false, ap, sym, ◌∙◌, rules, FitsSigned, Ok}
use Rattle.std.proofs.Common.{pos, negsuc}
use Rattle.std.proofs.lemmas.Int.{to_z-of_z, quot_is}
use Rattle.std.specs.Prelude.{◌&&◌}
use Rattle.std.specs.Int.{w128}
use Rattle.std.specs.Ordering.{int_eq}
use Rattle.layouts.specs.IntType.{least_of}
use Rattle.int_ops.specs.Arithmetic.{wrapped}
use Rattle.int_ops.proofs.Ranges.{small, div_fits}
use Rattle.int_ops.proofs.arithmetic.quotient.Goals as goal

pub returns-clause-value : goal.returns-clause-value
returns-clause-value c =
    let divides : int_eq c.args.b (pos 0) ≡ false = search rules in
    let other : (int_eq c.args.a (least_of c.args.t) && int_eq c.args.b (negsuc 0)) ≡ false =
    (rw (to_z-of_z w128 c.args.a c.ranges.a, to_z-of_z w128 c.args.b c.ranges.b)
    at (sym c.is_least_by_minus_one.ensures)) ∙ c.if-is_least_by_minus_one.false
    in
    let fits : FitsSigned w128 c.convert.result = search rules in
    rw (divides, other, to_z-of_z w128 c.convert.result fits)
    (ap Ok (c.convert.ensures.value ∙ ap (wrapped c.args.t)
    (quot_is w128 c.args.a c.args.b c.ranges.a c.ranges.b (div_fits c.args.a c.args.b
    (small c.args.t c.args.a c.requires.left)))))
