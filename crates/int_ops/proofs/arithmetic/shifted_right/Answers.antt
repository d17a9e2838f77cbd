use Rattle.std.proofs.Common.{◌≡◌, false, ap, ◌∙◌, rules, FitsSigned, Ok, unsigned_abs}
use Rattle.std.proofs.Common.{pos}
use Rattle.std.proofs.lemmas.Int.{to_z-of_z}
use Rattle.std.specs.Prelude.{int_lt, int_le}
use Rattle.std.specs.Int.{w128}
use Rattle.int_ops.specs.Arithmetic.{wrapped}
use Rattle.int_ops.proofs.Ranges.{small}
use Rattle.std.specs.Int.{int_shr}
use Rattle.int_ops.specs.Arithmetic.{width_of}
use Rattle.int_ops.proofs.Shifts.{shr_fits, shr_value}
use Rattle.int_ops.proofs.arithmetic.shifted_right.Goals as goal

pub returns-clause-value : goal.returns-clause-value
returns-clause-value c =
    let width : FitsSigned w128 c.from.result = search rules in
    let fits : FitsSigned w128 c.convert.result = search rules in
    let shifted : FitsSigned w128 (int_shr c.args.a (unsigned_abs c.args.amount)) =
    shr_fits c.args.a (unsigned_abs c.args.amount) (small c.args.t c.args.a c.requires)
    in
    let right : int_lt c.args.amount (pos 0) ≡ false = rw (to_z-of_z w128 c.args.amount c.ranges.amount)
    at c.if-amount-lt0.false in
    let near : int_le (pos (width_of c.args.t)) c.args.amount ≡ false =
    rw (
      to_z-of_z w128 c.from.result width,
      to_z-of_z w128 c.args.amount c.ranges.amount,
      c.from.ensures,
      c.width.ensures,
    ) at c.if-amount-from.false
    in
    let value : c.convert.result ≡ wrapped c.args.t (int_shr c.args.a (unsigned_abs c.args.amount)) =
    rw (
      to_z-of_z w128 c.args.a c.ranges.a,
      to_z-of_z w128 c.args.amount c.ranges.amount,
      to_z-of_z w128 (int_shr c.args.a (unsigned_abs c.args.amount)) shifted,
    ) at c.convert.ensures.value
    in
    rw (right, near, to_z-of_z w128 c.convert.result fits)
    (ap Ok (value ∙ ap (wrapped c.args.t) (shr_value c.args.a c.args.amount right)))
