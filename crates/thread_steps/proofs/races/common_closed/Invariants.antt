use Rattle.std.proofs.Common.{take, map}
use Rattle.thread_steps.specs.Access.{closes}
use Rattle.thread_steps.specs.FindRace.{IsLeast, MeetsOne}
use Rattle.thread_steps.proofs.races.common_closed.Given as goal

-- of the blocks so far
abbrev pub invariant-loop-block : goal.invariant-loop-block
invariant-loop-block l = IsLeast (MeetsOne l.memory l.one (map closes (take l.block-index l.blocks))) l.least
