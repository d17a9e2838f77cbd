use Rattle.std.proofs.Common.{◌≡◌, ◌+◌, ◌++◌, take, drop}
use Rattle.byte_memory.proofs.block.BlockBytes.write.Given as goal

abbrev pub invariant-loop-i : goal.invariant-loop-i
invariant-loop-i l = l.self ≡ take l.offset l.fn.self ++ (take l.i l.value ++ drop (l.offset + l.i) l.fn.self)
