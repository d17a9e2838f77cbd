use Rattle.byte_memory.proofs.MemoryLemmas.{closed_dead, closed_length, slice_get-set_other}
use Rattle.byte_memory.specs.declared.block.Block.TheVariants.{Closed}
use Rattle.byte_memory.specs.Memory.{length_at}
use Rattle.byte_memory.proofs.laws.closing_touches_no_other_block.Goals as goal

pub returns-clause-dead : goal.returns-clause-dead
returns-clause-dead c memory block = closed_dead memory block

pub returns-clause-length : goal.returns-clause-length
returns-clause-length c memory block = closed_length memory block

pub returns-clause-others : goal.returns-clause-others
returns-clause-others c memory block other apart =
    slice_get-set_other memory block other (Closed (length_at memory block)) apart
