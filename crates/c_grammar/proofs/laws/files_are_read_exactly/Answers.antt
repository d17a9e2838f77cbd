use Rattle.c_grammar.proofs.FilesRead.{unit-read}
use Rattle.c_grammar.proofs.FilesSound.{unit-sound}
use Rattle.c_grammar.proofs.laws.files_are_read_exactly.Goals as goal

pub returns : goal.returns
returns c = record { complete = unit-read; sound = unit-sound }
