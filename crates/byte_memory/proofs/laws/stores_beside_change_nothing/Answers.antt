use Rattle.byte_memory.proofs.MemoryLemmas.{stored_beside}
use Rattle.byte_memory.proofs.laws.stores_beside_change_nothing.Goals as goal

pub returns : goal.returns
returns c memory at other value align size divisor defined other_defined apart =
    stored_beside memory at other value align size divisor defined other_defined apart
