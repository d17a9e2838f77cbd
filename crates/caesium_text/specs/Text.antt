-- The text of a program, which is its lines (this project's own).
use Rattle.std.specs.Prelude.{ℕ, List, [], ◌∷◌, ◌++◌, map}
use Rattle.std.specs.List.{flat_map}
use Rattle.layouts.specs.declared.layout.Layout.{Layout}
use Rattle.layouts.specs.declared.table.Kind.{Kind}
use Rattle.layouts.specs.declared.table.Kind.TheVariants as kinds
use Rattle.layouts.specs.declared.table.Declaration.{Declaration}
use Rattle.layouts.specs.declared.aggregate.StructLayout.{StructLayout}
use Rattle.layouts.specs.Table.{declared_layout}
use Rattle.caesium_ir.specs.declared.operation.PlacedOp.{PlacedOp}
use Rattle.caesium_ir.specs.declared.block.Block.{Block}
use Rattle.caesium_ir.specs.declared.function.Local.{Local as LocalOf}
use Rattle.caesium_ir.specs.declared.function.Function.{Function as FunctionOf}
use Rattle.caesium_ir.specs.declared.program.Program.{Program}
use Rattle.caesium_ir.specs.Function.{locals_of}
use Rattle.caesium_lines.specs.declared.layout.NamedMember.{NamedMember}
use Rattle.caesium_lines.specs.declared.line.Line.{Line}
use Rattle.caesium_lines.specs.declared.line.Line.TheVariants.{Struct, Union, Function, Local, Label, Operation, End}
use Rattle.caesium_lines.specs.Line.{line_text}
use Rattle.caesium_text.specs.Naming.{named_layout, named_result, named_local, named_op, named_end}

-- the members of a struct, which stand at these offsets
abbrev pub named_members : List Declaration → List ℕ → List Layout → List NamedMember
named_members table offsets [] = []
named_members table [] (member ∷ members) = []
named_members table (offset ∷ offsets) (member ∷ members) =
    record { offset = offset; layout = named_layout table member } ∷ named_members table offsets members

-- the line of a struct or union of this kind, name and layout
abbrev pub aggregate_line : List Declaration → Kind → List ℕ → StructLayout → Line
aggregate_line table kinds.Struct name layout =
    Struct name layout.size layout.align (named_members table layout.offsets layout.members)
aggregate_line table kinds.Union name layout =
    Union name layout.size layout.align (map (named_layout table) layout.members)

-- the line of a struct or union of the table
abbrev pub declaration_line : List Declaration → Declaration → Line
declaration_line table d = aggregate_line table d.kind d.name (declared_layout table d)

-- the line of an operation
abbrev pub op_line : List Declaration → List LocalOf → PlacedOp → Line
op_line table locals placed = Operation (named_op table locals placed.op)

-- the lines of a block: its label, its operations and its end
abbrev pub block_lines : List Declaration → List LocalOf → Block → List Line
block_lines table locals block =
    Label block.label ∷ (map (op_line table locals) block.operations ++ End (named_end block.end) ∷ [])

-- the line of a further local
abbrev pub local_line : List Declaration → LocalOf → Line
local_line table local = Local (named_local table local)

-- what a function begins with
abbrev pub function_line : List Declaration → FunctionOf → Line
function_line table function =
    Function function.name (map (named_local table) function.parameters) (named_result table function.result)

-- the lines of a function: its beginning, its further locals and its blocks
abbrev pub function_lines : List Declaration → FunctionOf → List Line
function_lines table function = function_line table function
    ∷ (map (local_line table) function.locals ++ flat_map (block_lines table (locals_of function)) function.blocks)

-- the lines of a program: its structs and unions, then its functions
abbrev pub program_lines : Program → List Line
program_lines program = map (declaration_line program.table) program.table
    ++ flat_map (function_lines program.table) program.functions

-- a line with its line feed
unfoldable pub whole_line : Line → List ℕ
whole_line line = line_text line ++ 10 ∷ []

-- lines as a text
unfoldable pub lines_text : List Line → List ℕ
lines_text [] = []
lines_text (line ∷ lines) = whole_line line ++ lines_text lines

-- the text of a program
abbrev pub program_text : Program → List ℕ
program_text program = lines_text (program_lines program)
