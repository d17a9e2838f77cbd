use Rattle.std.proofs.Common.{◌≡◌, drop}
use Rattle.thread_steps.specs.Calls.{without_blocks}
use Rattle.thread_steps.proofs.calls.close_blocks.Given as goal

-- without the rest, memory is what it is to be
abbrev pub invariant-loop-block : goal.invariant-loop-block
invariant-loop-block l =
    without_blocks (drop l.block-index l.blocks) l.memory ≡ without_blocks l.blocks l.fn.memory
