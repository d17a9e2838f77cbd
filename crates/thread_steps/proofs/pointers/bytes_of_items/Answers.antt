use Rattle.std.proofs.Common.{◌≡◌, ◌<◌, ◌^◌, pos, ◌*ℤ◌, subst, sym, ap, ◌∙◌, rules, FitsSigned, arith}
use Rattle.std.proofs.lemmas.Int.{to_z-of_z}
use Rattle.std.specs.Int.{w128}
use Rattle.thread_steps.proofs.Numbers.{moves_fit}
use Rattle.thread_steps.proofs.pointers.bytes_of_items.Goals as goal

pub overflow_mul-result : goal.overflow_mul-result
overflow_mul-result c =
    let from : FitsSigned w128 c.from.result = search rules in
    rw (to_z-of_z w128 c.from.result from, to_z-of_z w128 c.args.count c.ranges.count, c.from.ensures)
    (moves_fit c.args.t c.args.size c.args.count (omega arith) c.requires)

pub returns : goal.returns
returns c =
    let from : FitsSigned w128 c.from.result = search rules in
    let fits = moves_fit c.args.t c.args.size c.args.count (omega arith) c.requires in
    rw (
      to_z-of_z w128 c.from.result from,
      to_z-of_z w128 c.args.count c.ranges.count,
      c.from.ensures,
      to_z-of_z w128 (pos c.args.size *ℤ c.args.count) fits,
    )
