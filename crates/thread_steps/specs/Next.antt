-- What a frame does next (this project's own).
use Rattle.std.specs.Prelude.{ℕ, ◌==◌, if◌then◌else◌, length, Option, Some, slice_get, option_and_then}
use Rattle.std.specs.Option.{option_map}
use Rattle.caesium_ir.specs.declared.operation.Op.{Op}
use Rattle.caesium_ir.specs.declared.operation.PlacedOp.{PlacedOp}
use Rattle.caesium_ir.specs.declared.block.End.{End}
use Rattle.caesium_ir.specs.declared.block.Block.{Block}
use Rattle.caesium_ir.specs.declared.function.Function.{Function}
use Rattle.caesium_ir.specs.declared.program.Program.{Program}
use Rattle.caesium_ir.specs.Block.{block_labelled}
use Rattle.caesium_ir.specs.Function.{function_named}
use Rattle.thread_steps.specs.declared.frame.Frame.{Frame}

-- an operation, or the end of a block, of this function
pub data NextOf : Type 0 where
  Runs : Function → Op → NextOf
  Ends : Function → End → NextOf

-- what stands at a number in a block: the operation of that number, or the end where that is the number of all
abbrev pub next_in : Function → Block → ℕ → Option NextOf
next_in function block number =
    if number == length block.operations then Some (Ends function block.end)
    else option_map (λ (placed : PlacedOp). Runs function placed.op) (slice_get block.operations number)

-- the same at the label of a function's block
abbrev pub next_in_function : Frame → Function → Option NextOf
next_in_function frame function =
    option_and_then (λ block. next_in function block frame.operation) (block_labelled function.blocks frame.label)

-- what a frame does next: nothing where a name is not found, or the number is past the block's end
abbrev pub next_of : Program → Frame → Option NextOf
next_of program frame = option_and_then (next_in_function frame) (function_named program.functions frame.function)
