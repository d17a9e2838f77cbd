use Rattle.byte_memory.proofs.MemoryLemmas.{stored_faults}
use Rattle.byte_memory.proofs.laws.stores_keep_faults.Goals as goal

pub returns : goal.returns
returns c memory at other value align size divisor defined = stored_faults memory at other value align size divisor
    defined
