use Rattle.std.proofs.Common.{◌≡◌, true, sym, ◌∙◌}
use Rattle.std.proofs.Common.{◌*ℤ◌}
use Rattle.std.proofs.lemmas.Int.{to_z-of_z}
use Rattle.std.specs.Int.{w128}
use Rattle.layouts.specs.IntType.{is_signed}
use Rattle.int_ops.proofs.Ranges.{small, abs_small, product_fits, mul_fits}
use Rattle.int_ops.proofs.arithmetic.product.Goals as goal

pub overflow_mul-a : goal.overflow_mul-a
overflow_mul-a c =
    let signed : is_signed c.args.t ≡ true = sym c.is_signed.ensures ∙ c.if-is_signed.true in
    rw (to_z-of_z w128 c.args.a c.ranges.a, to_z-of_z w128 c.args.b c.ranges.b)
    (mul_fits c.args.t c.args.a c.args.b signed c.requires.left c.requires.right)

pub overflow_mul-low : goal.overflow_mul-low
overflow_mul-low c =
    rw (to_z-of_z w128 c.args.a c.ranges.a, to_z-of_z w128 c.args.b c.ranges.b)
    (product_fits _ _ (abs_small c.args.a (small c.args.t c.args.a c.requires.left)) (abs_small c.args.b
    (small c.args.t c.args.b c.requires.right)))

pub returns-then-is_signed-clause-value : goal.returns-then-is_signed-clause-value
returns-then-is_signed-clause-value c =
    let signed : is_signed c.args.t ≡ true = sym c.is_signed.ensures ∙ c.if-is_signed.true in
    let fits = mul_fits c.args.t c.args.a c.args.b signed c.requires.left c.requires.right in
    rw (
      to_z-of_z w128 c.args.a c.ranges.a,
      to_z-of_z w128 c.args.b c.ranges.b,
      to_z-of_z w128 (c.args.a *ℤ c.args.b) fits,
    ) at c.fitted.ensures.value
