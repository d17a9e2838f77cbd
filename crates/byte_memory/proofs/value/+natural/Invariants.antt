use Rattle.std.proofs.Common.{length}
use Rattle.byte_memory.proofs.value.+natural.Given as goal

abbrev pub decreases-natural : goal.decreases-natural
decreases-natural l = length l.bytes.now
