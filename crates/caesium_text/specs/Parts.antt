-- The parts of a program's text that are one operation's or block end's (this project's own).
use Rattle.std.specs.Prelude.{ℕ, List, ◌==◌, if◌then◌else◌, length, slice_get, Option, Some, option_and_then}
use Rattle.std.specs.Option.{option_map}
use Rattle.layouts.specs.declared.table.Declaration.{Declaration}
use Rattle.caesium_ir.specs.declared.operation.PlacedOp.{PlacedOp}
use Rattle.caesium_ir.specs.declared.block.Block.{Block}
use Rattle.caesium_ir.specs.declared.function.Local.{Local}
use Rattle.caesium_ir.specs.declared.function.Function.{Function}
use Rattle.caesium_ir.specs.declared.program.Program.{Program}
use Rattle.caesium_ir.specs.Block.{block_labelled}
use Rattle.caesium_ir.specs.Function.{function_named, locals_of}
use Rattle.caesium_lines.specs.Operation.{op_text}
use Rattle.caesium_lines.specs.End.{end_text}
use Rattle.caesium_text.specs.Naming.{named_op, named_end}

-- in a block of a function with these locals, the operation of a number, or the end where that is the number of all
abbrev pub block_part_text : List Declaration → List Local → ℕ → Block → Option (List ℕ)
block_part_text table locals number block =
    if number == length block.operations then Some (end_text (named_end block.end))
    else option_map (λ (placed : PlacedOp). op_text (named_op table locals placed.op))
    (slice_get block.operations number)

-- the same at the label of a block of a function
abbrev pub function_part_text : List Declaration → List ℕ → ℕ → Function → Option (List ℕ)
function_part_text table label number function =
    option_and_then (block_part_text table (locals_of function) number) (block_labelled function.blocks label)

-- the same in the function of a name; none where the program hasn't got the function, the label or the number
abbrev pub part_text : Program → List ℕ → List ℕ → ℕ → Option (List ℕ)
part_text program name label number =
    option_and_then (function_part_text program.table label number) (function_named program.functions name)
