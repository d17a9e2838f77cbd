use Rattle.std.proofs.Common.{arith, ◌∙◌}
use Rattle.byte_memory.proofs.CellLemmas.{seen_length}
use Rattle.byte_memory.proofs.RangeLemmas.{read_more}
use Rattle.byte_memory.proofs.block.BlockBytes.read.Goals as goal

pub overflow_add-offset : goal.overflow_add-offset
overflow_add-offset c =
    let long = seen_length c.self.inside.wide.items c.self.inside.cells.items c.args.self.now c.self.view_is in
    record { fits = omega arith }

pub loop-i-preserved : goal.loop-i-preserved
loop-i-preserved c =
    c.in_ok-push.ensures.ok
    ∙ read_more c.args.self.now c.loop-i.value c.args.offset c.loop-i.i c.get.result c.loop-i.invariant (omega arith)
    c.get.ensures
