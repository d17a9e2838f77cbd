use Rattle.std.proofs.Common.{◌≡◌, take, drop}
use Rattle.byte_memory.proofs.block.BlockBytes.read.Given as goal

abbrev pub invariant-loop-i : goal.invariant-loop-i
invariant-loop-i l = l.value ≡ take l.i (drop l.offset l.self)
