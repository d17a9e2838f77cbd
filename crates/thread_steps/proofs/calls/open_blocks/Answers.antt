use Rattle.std.proofs.Common.{length}
use Rattle.thread_steps.proofs.Blocks.{opened_blocks}
use Rattle.thread_steps.proofs.calls.open_blocks.Goals as goal

pub returns-clause-blocks : goal.returns-clause-blocks
returns-clause-blocks c =
    let parameters = c.in_ok-open_parameters.ensures in
    let function = c.args.function.now in
    opened_blocks (length c.args.memory.now) (length c.open_parameters.new.memory) function.parameters function.locals
    c.as_slice.result.now c.as_slice-2.result.now c.new-blocks.result c.open_parameters.new.blocks
    c.open_locals.new.blocks c.as_slice.ensures c.as_slice-2.ensures c.new-blocks.ensures parameters.blocks
    parameters.length c.in_ok-open_locals.ensures.blocks
