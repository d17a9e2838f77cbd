use Rattle.std.proofs.Common.{take, map}
use Rattle.thread_steps.specs.Access.{closes}
use Rattle.thread_steps.specs.Accesses.{listed}
use Rattle.thread_steps.specs.FindRace.{IsLeast, Meet}
use Rattle.thread_steps.proofs.races.least_closed.Given as goal

-- of the blocks so far
abbrev pub invariant-loop-block : goal.invariant-loop-block
invariant-loop-block l =
    IsLeast (Meet l.memory (map closes (take l.block-index l.blocks)) (listed l.others)) l.least
