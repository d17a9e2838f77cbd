-- How a call begins and ends: each call has blocks of its own for its parameters and further locals, which live until
-- it returns (Caesium, RefinedC, PLDI 2021).
use Rattle.std.specs.Prelude.{ℕ, ◌+◌, ◌==◌, Bool, true, false, ◌&&◌, if◌then◌else◌, pos, List, [], ◌∷◌, length}
use Rattle.std.specs.Prelude.{Option, Some, None, Result, Ok, Err}
use Rattle.layouts.specs.declared.table.Declaration.{Declaration}
use Rattle.layouts.specs.Table.{bytes_of}
use Rattle.rc_terms.specs.declared.location.Loc.TheVariants.{At}
use Rattle.rc_terms.specs.declared.byte.MByte.{MByte}
use Rattle.byte_memory.specs.declared.memory.Memory.{Memory}
use Rattle.byte_memory.specs.Memory.{opened, stored, closed}
use Rattle.caesium_ir.specs.declared.function.Local.{Local}
use Rattle.caesium_ir.specs.declared.function.Function.{Function}
use Rattle.caesium_ir.specs.Function.{locals_of}
use Rattle.thread_steps.specs.declared.answer.Ub.{Ub}
use Rattle.thread_steps.specs.declared.answer.Ub.TheVariants.{PoisonUsed}
use Rattle.thread_steps.specs.declared.frame.Frame.{Frame}
use Rattle.thread_steps.specs.Frame.{entering_frame}

-- whether there are as many arguments as parameters, and each is as long as the layout of its own
abbrev pub are_arguments : List Declaration → List Local → List (List MByte) → Bool
are_arguments table [] [] = true
are_arguments table (parameter ∷ parameters) (argument ∷ arguments) =
    (length argument == bytes_of table parameter.layout) && are_arguments table parameters arguments
are_arguments table parameters arguments = false

-- the memory after a block was opened for each parameter, and the argument stored in it
abbrev pub with_arguments : List Declaration → List Local → List (List MByte) → Memory → Memory
with_arguments table (parameter ∷ parameters) (argument ∷ arguments) memory =
    with_arguments table parameters arguments
    (stored (opened memory (bytes_of table parameter.layout)) (At (length memory) (pos 0)) argument)
with_arguments table parameters arguments memory = memory

-- the memory after a block was opened for each further local, which stays poison
abbrev pub with_locals : List Declaration → List Local → Memory → Memory
with_locals table [] memory = memory
with_locals table (local ∷ locals) memory = with_locals table locals (opened memory (bytes_of table local.layout))

-- the numbers of the blocks of these locals, where the first has this one
abbrev pub blocks_from : ℕ → List Local → List ℕ
blocks_from first [] = []
blocks_from first (local ∷ locals) = first ∷ blocks_from (first + 1) locals

-- a call that has done nothing, and the memory with its blocks
pub record Entered : Type 0 where
  pub frame : Frame
  pub memory : Memory

-- what a call of a function under this name begins with
abbrev pub entering : List Declaration → List ℕ → Function → List (List MByte) → Memory → Entered
entering table name function arguments memory = record {
  frame = entering_frame name (blocks_from (length memory) (locals_of function));
  memory = with_locals table function.locals (with_arguments table function.parameters arguments memory);
}

-- the same where the program has the function, and the arguments fit its parameters
abbrev pub enter : List Declaration → List ℕ → Option Function → List (List MByte) → Memory → Result Entered Ub
enter table name None arguments memory = Err PoisonUsed
enter table name (Some function) arguments memory =
    if are_arguments table function.parameters arguments then Ok (entering table name function arguments memory)
    else Err PoisonUsed

-- the memory after the blocks of a call were closed
abbrev pub without_blocks : List ℕ → Memory → Memory
without_blocks [] memory = memory
without_blocks (block ∷ blocks) memory = without_blocks blocks (closed memory block)
