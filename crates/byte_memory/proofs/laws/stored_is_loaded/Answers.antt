use Rattle.byte_memory.proofs.MemoryLemmas.{stored_loaded}
use Rattle.byte_memory.proofs.laws.stored_is_loaded.Goals as goal

pub returns-clause-loaded : goal.returns-clause-loaded
returns-clause-loaded c memory at value align defined = stored_loaded memory at value align defined
