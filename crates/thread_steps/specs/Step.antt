-- One step of a thread: Caesium (RefinedC, PLDI 2021), as this project's own machine with a row of operands.
-- By cases on what the innermost frame does next.
use Rattle.std.specs.Prelude.{ℕ, ◌≡◌, Bool, if◌then◌else◌, ℤ, pos, List, [], ◌∷◌, Option, Some, None, Result, Ok, Err}
use Rattle.std.specs.Prelude.{slice_get, drop}
use Rattle.std.specs.Option.{option_map}
use Rattle.std.specs.Ordering.{int_eq}
use Rattle.layouts.specs.declared.int_type.IntType.{IntType}
use Rattle.layouts.specs.declared.layout.Layout.{Layout}
use Rattle.layouts.specs.declared.table.Declaration.{Declaration}
use Rattle.layouts.specs.Table.{bytes_of}
use Rattle.rc_terms.specs.declared.location.Loc.TheVariants.{At}
use Rattle.rc_terms.specs.declared.byte.MByte.{MByte}
use Rattle.byte_memory.specs.declared.memory.Memory.{Memory}
use Rattle.byte_memory.specs.Values.{ptr}
use Rattle.caesium_ir.specs.declared.operation.Op.{Op}
use Rattle.caesium_ir.specs.declared.operation.Op.TheVariants.{Local, Call, Fork}
use Rattle.caesium_ir.specs.declared.block.Case.{Case}
use Rattle.caesium_ir.specs.declared.block.End.{End}
use Rattle.caesium_ir.specs.declared.block.End.TheVariants.{Goto, If, Switch, Return}
use Rattle.caesium_ir.specs.declared.function.Function.{Function}
use Rattle.caesium_ir.specs.declared.program.Program.{Program}
use Rattle.caesium_ir.specs.Function.{function_named}
use Rattle.thread_steps.specs.declared.answer.Ub.{Ub}
use Rattle.thread_steps.specs.declared.answer.Ub.TheVariants.{PoisonUsed}
use Rattle.thread_steps.specs.declared.frame.Frame.{Frame}
use Rattle.thread_steps.specs.declared.thread.Thread.{Thread}
use Rattle.thread_steps.specs.declared.thread.Thread.TheVariants.{Running, Finished}
use Rattle.thread_steps.specs.Operands.{or_poison, and_then, is_nonzero, integer, sized}
use Rattle.thread_steps.specs.Operations.{Made, operand_count, result_of}
use Rattle.thread_steps.specs.Frame.{entered, operands_on, operated}
use Rattle.thread_steps.specs.Calls.{Entered, enter, without_blocks}
use Rattle.thread_steps.specs.Next.{NextOf, Runs, Ends, next_of}
use Rattle.thread_steps.specs.Thread.{returned}

-- what a step leaves: the thread and the memory after it, and the threads that it started
pub record After : Type 0 where
  pub thread : Thread
  pub memory : Memory
  pub started : List Thread

-- this thread and this memory, and no thread started
abbrev pub becomes : Thread → Memory → After
becomes thread memory = record { thread = thread; memory = memory; started = [] }

-- after an operation: its operands are off the row, and what it made is pushed
abbrev pub after_op : ℕ → Frame → List Frame → Made → After
after_op count frame callers made = becomes (Running (operated count made.value frame) callers) made.memory

-- `local x`: pushes the location of the local with this number
abbrev pub address : Option ℕ → Memory → Result Made Ub
address found memory =
    and_then (or_poison found) (λ block. Ok (record { value = Some (ptr (At block (pos 0))); memory = memory }))

-- what a call of the function of this name begins with, on so many arguments from the top of the row
abbrev pub entered_on : Program → List ℕ → ℕ → Frame → Memory → Result Entered Ub
entered_on program name count frame memory =
    enter program.table name (function_named program.functions name) (operands_on count frame) memory

-- a call: the arguments are off the row, and the function's frame lies over the caller's
abbrev pub called : ℕ → Frame → List Frame → Entered → After
called count frame callers made =
    becomes (Running made.frame (operated count None frame ∷ callers)) made.memory

-- a fork: the arguments are off the row, and a new thread has the function's frame
abbrev pub forked : ℕ → Frame → List Frame → Entered → After
forked count frame callers made = record {
  thread = Running (operated count None frame) callers;
  memory = made.memory;
  started = Running made.frame [] ∷ [];
}

-- an operation that needs no frame and no program: what it makes of the top of the row
abbrev pub step_plain : List Declaration → Op → Frame → List Frame → Memory → Result After Ub
step_plain table op frame callers memory =
    and_then (result_of table op (operands_on (operand_count op) frame) memory)
    (λ made. Ok (after_op (operand_count op) frame callers made))

-- an operation
abbrev pub step_op : Program → Op → Frame → List Frame → Memory → Result After Ub
step_op program (Local number) frame callers memory =
    and_then (address (slice_get frame.locals number) memory) (λ made. Ok (after_op 0 frame callers made))
step_op program (Call name count) frame callers memory =
    and_then (entered_on program name count frame memory) (λ made. Ok (called count frame callers made))
step_op program (Fork name count) frame callers memory =
    and_then (entered_on program name count frame memory) (λ made. Ok (forked count frame callers made))
step_op program op frame callers memory = step_plain program.table op frame callers memory

-- the block of the label, with this row
abbrev pub goes_to : List ℕ → List (List MByte) → Frame → List Frame → Memory → After
goes_to label row frame callers memory = becomes (Running (entered label row frame) callers) memory

-- the top of a row
abbrev pub top_of : List (List MByte) → Result (List MByte) Ub
top_of row = or_poison (slice_get row 0)

-- whether the top of a row isn't zero
abbrev pub condition : List (List MByte) → Result Bool Ub
condition row = and_then (top_of row) (λ value. or_poison (is_nonzero value))

-- an `if`: the first label where the operand isn't zero, else the second
abbrev pub step_if : List ℕ → List ℕ → Frame → List Frame → Memory → Result After Ub
step_if nonzero zero frame callers memory =
    and_then (condition frame.row) (λ holds.
    Ok (goes_to (if holds then nonzero else zero) (drop 1 frame.row) frame callers memory))

-- the label of the first case of the number, else the last label
abbrev pub label_for : ℤ → List Case → List ℕ → List ℕ
label_for n [] otherwise = otherwise
label_for n (case ∷ cases) otherwise = if int_eq case.value n then case.label else label_for n cases otherwise

-- the number of the type that the top of a row is
abbrev pub selector : IntType → List (List MByte) → Result ℤ Ub
selector t row = and_then (top_of row) (λ value. integer t value)

-- a `switch` on an integer of the type
abbrev pub step_switch : IntType → List Case → List ℕ → Frame → List Frame → Memory → Result After Ub
step_switch t cases otherwise frame callers memory =
    and_then (selector t frame.row) (λ n.
    Ok (goes_to (label_for n cases otherwise) (drop 1 frame.row) frame callers memory))

-- the value of a return: none from a void function, else the top of the row
abbrev pub result_on : Option Layout → List (List MByte) → Option (List MByte)
result_on None row = None
result_on (Some layout) row = slice_get row 0

-- what a return hands on: that value, which has the size of the result
abbrev pub handed_on : List Declaration → Option Layout → List (List MByte) → Result (Option (List MByte)) Ub
handed_on table None row = Ok None
handed_on table (Some layout) row =
    and_then (top_of row) (λ value. and_then (sized (bytes_of table layout) value) (λ value. Ok (Some value)))

-- a return: the blocks of the frame are closed, and the caller goes on
abbrev pub step_return : List Declaration → Option Layout → Frame → List Frame → Memory → Result After Ub
step_return table result frame callers memory =
    and_then (handed_on table result frame.row) (λ value.
    Ok (becomes (returned value callers) (without_blocks frame.locals memory)))

-- the end of a block
abbrev pub step_end : List Declaration → Function → End → Frame → List Frame → Memory → Result After Ub
step_end table function (Goto label) frame callers memory = Ok (goes_to label frame.row frame callers memory)
step_end table function (If nonzero zero) frame callers memory = step_if nonzero zero frame callers memory
step_end table function (Switch of cases otherwise) frame callers memory =
    step_switch of cases otherwise frame callers memory
step_end table function Return frame callers memory = step_return table function.result frame callers memory

-- what comes of what the frame does next; a frame that stands nowhere counts as poison used
abbrev pub step_next : Program → Option NextOf → Frame → List Frame → Memory → Result After Ub
step_next program None frame callers memory = Err PoisonUsed
step_next program (Some (Runs function op)) frame callers memory = step_op program op frame callers memory
step_next program (Some (Ends function end)) frame callers memory =
    step_end program.table function end frame callers memory

-- what comes of a running thread: what its next step leaves, or the kind of undefined behaviour by which it has none
abbrev pub step_of : Program → Frame → List Frame → Memory → Result After Ub
step_of program top callers memory = step_next program (next_of program top) top callers memory

-- from a thread and a memory to what the step leaves; a finished thread has no step
abbrev pub Step : Program → Thread → Memory → After → Type 0
Step program (Running top callers) memory after = step_of program top callers memory ≡ Ok after
Step program (Finished value) memory after = ⊥
