-- What the answer of `find_next` says (this project's own).
use Rattle.std.specs.Prelude.{ℕ, ◌+◌, ◌^◌, ◌<◌}
use Rattle.thread_steps.specs.declared.next.Next.{Next}
use Rattle.thread_steps.specs.declared.next.Next.TheVariants.{Operation, Ending}
use Rattle.caesium_ir.specs.declared.program.Program.{Program}
use Rattle.caesium_ir.specs.WellFormed.{IsWellFormedFunction, IsWellFormedOp}
use Rattle.thread_steps.specs.Next.{NextOf, Runs, Ends}

-- what it means: the operation or the end, and the function, that the references lead to
abbrev pub meaning_of : Next → NextOf
meaning_of (Operation function op) = Runs function.now op.now
meaning_of (Ending function end) = Ends function.now end.now

-- after an operation there is a number for what follows
abbrev pub HasRoom : Next → ℕ → Type 0
HasRoom (Operation function op) number = number + 1 < 2 ^ 64
HasRoom (Ending function end) number = Unit {0}

-- what is next in a well-formed program is well formed
abbrev pub IsWellFormedNext : Program → Next → Type 0
IsWellFormedNext program (Operation function op) = IsWellFormedOp program function.now op.now
IsWellFormedNext program (Ending function end) = IsWellFormedFunction program function.now
