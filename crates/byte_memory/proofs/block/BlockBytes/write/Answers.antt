use Rattle.std.proofs.Common.{arith, ◌∙◌}
use Rattle.byte_memory.proofs.CellLemmas.{seen_length}
use Rattle.byte_memory.proofs.RangeLemmas.{write_more}
use Rattle.byte_memory.proofs.block.BlockBytes.write.Goals as goal

pub overflow_add-offset : goal.overflow_add-offset
overflow_add-offset c =
    let long = seen_length c.self.inside.wide.items c.self.inside.cells.items c.args.self.now c.self.view_is in
    record { fits = omega arith }

pub loop-i-preserved : goal.loop-i-preserved
loop-i-preserved c =
    c.set.ensures ∙ write_more c.args.self.now c.loop-i.self c.args.value.now c.args.offset c.loop-i.i _
    c.loop-i.invariant c.loop-i-test.true (omega arith)
