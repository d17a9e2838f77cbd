-- How a command ends.
use Rattle.std.specs.Prelude.{ℕ}
use Rattle.refinedc_cli.specs.declared.status.Status.{Status}
use Rattle.refinedc_cli.specs.declared.status.Status.TheVariants.{Accepted, Refused, FileRefused, Usage, ReadFault}
use Rattle.refinedc_cli.specs.declared.status.Status.TheVariants.{WriteFault, Limit, NoMemory}

-- the exit status that goes with an answer
abbrev pub code_of : Status → ℕ
code_of Accepted = 0
code_of Refused = 1
code_of FileRefused = 2
code_of Usage = 3
code_of ReadFault = 4
code_of WriteFault = 5
code_of Limit = 6
code_of NoMemory = 7
