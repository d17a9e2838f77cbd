use Rattle.std.proofs.Common.{◌≡◌, pos, ◌+ℤ◌, subst, sym, ap, ◌∙◌, rules, FitsSigned, arith}
use Rattle.std.proofs.lemmas.Int.{to_z-of_z}
use Rattle.std.specs.Int.{w128}
use Rattle.thread_steps.proofs.Numbers.{out_of_block, moved_out}
use Rattle.thread_steps.proofs.operands.moved.Goals as goal

pub returns-in_default-checked_add : goal.returns-in_default-checked_add
returns-in_default-checked_add c =
    let offset : FitsSigned w128 c.in-At.offset = search rules in
    let wide = rw (to_z-of_z w128 c.in-At.offset offset, to_z-of_z w128 c.args.by c.ranges.by)
    at c.in_default-checked_add.ensures in
    let out = out_of_block (c.in-At.offset +ℤ c.args.by) c.length-length.result (omega arith) wide in
    moved_out c.args.memory.now c.in-At.block c.length-length.result c.args.at c.in-At.offset c.args.by c.in-At.is
    c.length-length.ensures out
