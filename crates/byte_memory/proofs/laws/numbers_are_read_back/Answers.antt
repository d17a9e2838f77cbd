use Rattle.byte_memory.proofs.NumberLemmas.{int_back}
use Rattle.byte_memory.proofs.laws.numbers_are_read_back.Goals as goal

pub returns : goal.returns
returns c t n range = int_back t n range
