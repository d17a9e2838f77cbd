use Rattle.std.proofs.Common.{◌≡◌, true, false, rules, FitsSigned}
use Rattle.std.proofs.Common.{pos}
use Rattle.std.proofs.lemmas.Int.{to_z-of_z}
use Rattle.std.specs.Prelude.{int_lt, int_le}
use Rattle.std.specs.Int.{w128}
use Rattle.int_ops.proofs.Ranges.{small}
use Rattle.int_ops.specs.Arithmetic.{width_of}
use Rattle.int_ops.proofs.Shifts.{shl_value, shl_result, far_result}
use Rattle.int_ops.proofs.arithmetic.shifted_left.Goals as goal

pub returns-then-amount-from-clause-value : goal.returns-then-amount-from-clause-value
returns-then-amount-from-clause-value c =
    let width : FitsSigned w128 c.from.result = search rules in
    let far : int_le (pos (width_of c.args.t)) c.args.amount ≡ true =
    rw (
      to_z-of_z w128 c.from.result width,
      to_z-of_z w128 c.args.amount c.ranges.amount,
      c.from.ensures,
      c.width.ensures,
    ) at c.if-amount-from.true
    in
    far_result c.args.t c.args.a c.args.amount c.too_far.result
    (rw (to_z-of_z w128 c.args.a c.ranges.a) at c.if-a-lt0.false)
    (rw (to_z-of_z w128 c.args.amount c.ranges.amount) at c.if-amount-lt0.false)
    far
    (rw (to_z-of_z w128 c.args.a c.ranges.a) at c.too_far.ensures)

pub returns-clause-value : goal.returns-clause-value
returns-clause-value c =
    let width : FitsSigned w128 c.from.result = search rules in
    let left : int_lt c.args.a (pos 0) ≡ false = rw (to_z-of_z w128 c.args.a c.ranges.a) at c.if-a-lt0.false in
    let right : int_lt c.args.amount (pos 0) ≡ false = rw (to_z-of_z w128 c.args.amount c.ranges.amount)
    at c.if-amount-lt0.false in
    let near : int_le (pos (width_of c.args.t)) c.args.amount ≡ false =
    rw (
      to_z-of_z w128 c.from.result width,
      to_z-of_z w128 c.args.amount c.ranges.amount,
      c.from.ensures,
      c.width.ensures,
    ) at c.if-amount-from.false
    in
    shl_result c.args.t c.args.a c.args.amount _ c.fitted.result left right near
    (shl_value c.args.t c.args.a c.args.amount (small c.args.t c.args.a c.requires) left right near)
    (rw (to_z-of_z w128 c.args.amount c.ranges.amount) at c.fitted.ensures.value)
