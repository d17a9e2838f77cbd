use Rattle.std.proofs.Common.{◌≡◌, rules, FitsSigned, pos, neg_ℤ, ◌-ℤ◌}
use Rattle.std.proofs.lemmas.Int.{to_z-of_z}
use Rattle.std.specs.Int.{w128}
use Rattle.int_ops.specs.Arithmetic.{wrapped}
use Rattle.int_ops.proofs.Ranges.{IsSmall, small, neg_fits, zero_less}
use Rattle.c_types.proofs.constant.negated.Goals as goal

pub returns-clause-value : goal.returns-clause-value
returns-clause-value c =
    let number : IsSmall c.args.number = small c.args.t c.args.number c.requires in
    let fits : FitsSigned w128 c.convert.result = search rules in
    let value : c.convert.result ≡ wrapped c.args.t (neg_ℤ c.args.number) =
    rw (
      to_z-of_z w128 c.args.number c.ranges.number,
      to_z-of_z w128 (pos 0 -ℤ c.args.number) (neg_fits c.args.number number),
      zero_less c.args.number,
    )
    at c.convert.ensures.value
    in
    rw (to_z-of_z w128 c.convert.result fits) value
