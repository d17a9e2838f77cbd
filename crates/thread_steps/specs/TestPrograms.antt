-- Programs for tests: a function that calls itself as often as its argument says, and functions of one operation.
use Rattle.std.specs.Prelude.{ℕ, pos, List, [], ◌∷◌, codes, Some, None}
use Rattle.rc_text.specs.declared.place.Place.{Place}
use Rattle.layouts.specs.declared.int_type.IntType.TheVariants as int_types
use Rattle.layouts.specs.declared.layout.Layout.TheVariants as layouts
use Rattle.caesium_ir.specs.declared.operation.BinaryOperator.TheVariants as operators
use Rattle.caesium_ir.specs.declared.operation.Op.{Op}
use Rattle.caesium_ir.specs.declared.operation.Op.TheVariants.{Const, Local, Load, Binary, Call, Fork}
use Rattle.caesium_ir.specs.declared.operation.PlacedOp.{PlacedOp}
use Rattle.caesium_ir.specs.declared.block.End.{End}
use Rattle.caesium_ir.specs.declared.block.End.TheVariants.{If, Return}
use Rattle.caesium_ir.specs.declared.block.Block.{Block}
use Rattle.caesium_ir.specs.declared.function.Local.{Local as LocalOf}
use Rattle.caesium_ir.specs.declared.function.Function.{Function}
use Rattle.caesium_ir.specs.declared.program.Program.{Program}

-- where everything stands
abbrev pub start : Place
start = record { byte = 0; line = 1; column = 1 }

-- an operation there
abbrev pub placed : Op → PlacedOp
placed op = record { op = op; place = start }

-- a block there
abbrev pub block_of : List ℕ → List PlacedOp → End → Block
block_of label operations end = record { label = label; operations = operations; end = end; end_place = start }

-- a function there, whose result is an `int`
abbrev pub function_of : List ℕ → List LocalOf → List Block → Function
function_of name parameters blocks = record {
  name = name;
  result = Some (layouts.Int int_types.Int);
  parameters = parameters;
  locals = [];
  blocks = blocks;
  place = start;
}

-- its test of the argument
abbrev pub test_block : Block
test_block = block_of (codes ".") (placed (Local 0) ∷ placed (Load (layouts.Int int_types.Int)) ∷ [])
    (If (codes ".0") (codes ".1"))

-- the call of itself with one less
abbrev pub call_block : Block
call_block = block_of (codes ".0") (placed (Local 0) ∷ placed (Load (layouts.Int int_types.Int))
    ∷ placed (Const int_types.Int (pos 1)) ∷ placed (Binary operators.Sub int_types.Int)
    ∷ placed (Call (codes "down") 1) ∷ []) Return

-- the end, at 0
abbrev pub last_block : Block
last_block = block_of (codes ".1") (placed (Const int_types.Int (pos 0)) ∷ []) Return

-- it has one parameter
abbrev pub down : Function
down = function_of (codes "down") (record { name = codes "n"; layout = layouts.Int int_types.Int } ∷ [])
    (test_block ∷ call_block ∷ last_block ∷ [])

-- a call of it with this argument
abbrev pub main : ℕ → Function
main depth = function_of (codes "main") []
    (block_of (codes ".") (placed (Const int_types.Int (pos depth)) ∷ placed (Call (codes "down") 1) ∷ []) Return ∷ [])

-- both
abbrev pub down_program : ℕ → Program
down_program depth = record { table = []; functions = main depth ∷ down ∷ [] }

-- a void function of one block, which does one operation and returns
abbrev pub operation_function : List ℕ → Op → Function
operation_function name op = record {
  name = name;
  result = None;
  parameters = [];
  locals = [];
  blocks = block_of (codes ".") (placed op ∷ []) Return ∷ [];
  place = start;
}

-- two of them, `a` and `b`
abbrev pub operations_program : Op → Op → Program
operations_program first second = record {
  table = [];
  functions = operation_function (codes "a") first ∷ operation_function (codes "b") second ∷ [];
}
