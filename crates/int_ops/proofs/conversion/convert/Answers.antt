use Rattle.std.proofs.Common.{rules, ◌≡◌, false, pos, ◌-ℤ◌, ap, ◌∙◌, FitsSigned}
use Rattle.std.proofs.lemmas.Int.{to_z-of_z}
use Rattle.std.specs.Int.{w128}
use Rattle.std.specs.Prelude.{int_le}
use Rattle.layouts.specs.IntType.{greatest_of}
use Rattle.int_ops.specs.Arithmetic.{low_bits}
use Rattle.int_ops.proofs.Ranges.{IsUpper, wrapped_upper}
use Rattle.int_ops.proofs.conversion.convert.Goals as goal

upper : (c : goal.After-modulus) → IsUpper c.args.to c.args.n (c.from-low.result -ℤ c.modulus.result)
upper c =
    let low : FitsSigned w128 c.from-low.result = search rules in
    let greatest : FitsSigned w128 c.int_range-greatest.result.1 = search rules in
    let past : int_le c.from-low.result (greatest_of c.args.to) ≡ false =
    rw (
      to_z-of_z w128 c.from-low.result low,
      to_z-of_z w128 c.int_range-greatest.result.1 greatest,
      c.int_range-greatest.ensures.greatest,
    ) at c.if-low-greatest.false
    in
    let bits : c.low_bits.result ≡ low_bits c.args.to c.args.n = rw (to_z-of_z w128 c.args.n c.ranges.n)
    at c.low_bits.ensures in
    wrapped_upper c.args.to c.args.n c.from-low.result c.modulus.result
    (c.from-low.ensures ∙ ap pos bits) c.modulus.ensures past

pub returns-else-low-greatest-clause-value : goal.returns-else-low-greatest-clause-value
returns-else-low-greatest-clause-value c =
    let low : FitsSigned w128 c.from-low.result = search rules in
    let modulus : FitsSigned w128 c.modulus.result = search rules in
    rw (
      to_z-of_z w128 c.from-low.result low,
      to_z-of_z w128 c.modulus.result modulus,
      to_z-of_z w128 (c.from-low.result -ℤ c.modulus.result) ((upper c).fits),
    )
    ((upper c).value)

pub returns-else-low-greatest-clause-in_range : goal.returns-else-low-greatest-clause-in_range
returns-else-low-greatest-clause-in_range c =
    let low : FitsSigned w128 c.from-low.result = search rules in
    let modulus : FitsSigned w128 c.modulus.result = search rules in
    rw (
      to_z-of_z w128 c.from-low.result low,
      to_z-of_z w128 c.modulus.result modulus,
      to_z-of_z w128 (c.from-low.result -ℤ c.modulus.result) ((upper c).fits),
    )
    ((upper c).in_range)
