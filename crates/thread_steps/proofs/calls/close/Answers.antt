use Rattle.std.proofs.Common.{◌≡◌, true, ◌∙◌}
use Rattle.thread_steps.proofs.Blocks.{closed_stays}
use Rattle.thread_steps.proofs.calls.close.Goals as goal

pub returns-else-is_alive : goal.returns-else-is_alive
returns-else-is_alive c =
    closed_stays c.args.memory.now c.args.block (λ alive. cc (c.if-is_alive.false, c.is_alive.ensures.1 alive))
