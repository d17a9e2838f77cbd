-- The table of operators by types: this project's own.
use Rattle.std.specs.Prelude.{List, [], ◌∷◌, map}
use Rattle.std.specs.List.{flat_map}
use Rattle.layouts.specs.declared.int_type.IntType.{IntType}
use Rattle.layouts.specs.declared.int_type.IntType.TheVariants as types
use Rattle.layouts.specs.declared.operator.Operator.{Operator}
use Rattle.layouts.specs.declared.operator.Operator.TheVariants.{Neg, Compl, Add, Sub, Mul, Div, Rem, Shl, Shr}
use Rattle.layouts.specs.declared.operator.Operator.TheVariants.{And, Or, Xor, Eq, Ne, Lt, Le, Gt, Ge}
use Rattle.int_ops.specs.declared.cell.Cell.{Cell}
use Rattle.int_ops.specs.Arithmetic.{result_type}

-- the operators
abbrev pub operators : List Operator
operators =
    Neg ∷ Compl ∷ Add ∷ Sub ∷ Mul ∷ Div ∷ Rem ∷ Shl ∷ Shr ∷ And ∷ Or ∷ Xor ∷ Eq ∷ Ne ∷ Lt ∷ Le ∷ Gt ∷ Ge ∷ []

-- the integer types
abbrev pub int_types : List IntType
int_types =
    types.Char ∷ types.SChar ∷ types.UChar ∷ types.Short ∷ types.UShort ∷ types.Int ∷ types.UInt ∷ types.Long
    ∷ types.ULong ∷ types.LLong ∷ types.ULLong ∷ []

-- the cell of an operator at a type
abbrev pub cell_of : Operator → IntType → Cell
cell_of operator t = record { operator = operator; operands = t; result = result_type operator t }

-- for each operator a cell at each type
abbrev pub cells : List Cell
cells = flat_map (λ operator. map (cell_of operator) int_types) operators
