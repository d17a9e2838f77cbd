-- The types of expressions with two operands or three (C11 6.5.2.1, 6.5.5 to 6.5.15), as far as the profile has them:
-- no difference of two pointers, and no order of pointers.
use Rattle.std.specs.Prelude.{◌&&◌, if◌then◌else◌, List, Option, Err}
use Rattle.std.specs.Option.{option_map_or}
use Rattle.layouts.specs.declared.layout.Layout.{Layout}
use Rattle.c_syntax.specs.declared.operator.BinaryOperator.{BinaryOperator}
use Rattle.c_syntax.specs.declared.operator.BinaryOperator.TheVariants as operators
use Rattle.c_types.specs.declared.ctype.CType.{CType}
use Rattle.c_types.specs.Arithmetic.{promoted_type, arithmetic_type}
use Rattle.c_types.specs.CType.{is_integer, is_pointer, is_scalar}
use Rattle.c_types.specs.Conversions.{are_integers, are_comparable, conditional_type}
use Rattle.c_operators.specs.declared.operand.Operand.{Operand}
use Rattle.c_operators.specs.declared.operand.OperandFault.TheVariants.{Clash}
use Rattle.c_operators.specs.Operands.{Typing, integer_if, type_if, truth_if, pointed_type, moved_type}
use Rattle.c_operators.specs.Operands.{pointer_beside_integer}

-- `p[i]`, by the types of its two parts (C11 6.5.2.1p1)
abbrev pub subscript_type : List (Option Layout) → CType → CType → Typing
subscript_type records one other =
    option_map_or (pointed_type records) (pointer_beside_integer one other) (Err Clash)

-- `* / % & ^ |`: integers (C11 6.5.5p2, 6.5.10p2 to 6.5.12p2)
abbrev pub number_type : CType → CType → Typing
number_type left right = integer_if (arithmetic_type left right)

-- `<<` and `>>`: integers, and the promoted type of the left one (C11 6.5.7p2, p3)
abbrev pub shift_type : CType → CType → Typing
shift_type left right = if is_integer right then integer_if (promoted_type left) else Err Clash

-- `+`: integers, or a pointer and an integer (C11 6.5.6p2)
abbrev pub sum_type : List (Option Layout) → CType → CType → Typing
sum_type records left right =
    if are_integers left right then number_type left right
    else option_map_or (moved_type records) (pointer_beside_integer left right) (Err Clash)

-- `-`: integers, or a pointer less an integer (C11 6.5.6p3)
abbrev pub difference_type : List (Option Layout) → CType → CType → Typing
difference_type records left right =
    if are_integers left right then number_type left right
    else (if is_pointer left && is_integer right then moved_type records left else Err Clash)

-- `< > <= >=`: integers (C11 6.5.8p2, p6)
abbrev pub order_type : CType → CType → Typing
order_type left right = truth_if (are_integers left right)

-- `==` and `!=`: of two values that may be compared (C11 6.5.9p2, p3)
abbrev pub equality_type : Operand → Operand → Typing
equality_type left right = truth_if (are_comparable left.null left.of right.null right.of)

-- the operators between two operands that are both evaluated, each by its rule (C11 6.5.5 to 6.5.12)
abbrev pub binary_type : BinaryOperator → List (Option Layout) → Operand → Operand → Typing
binary_type operators.Multiply records left right = number_type left.of right.of
binary_type operators.Divide records left right = number_type left.of right.of
binary_type operators.Remainder records left right = number_type left.of right.of
binary_type operators.Add records left right = sum_type records left.of right.of
binary_type operators.Subtract records left right = difference_type records left.of right.of
binary_type operators.LeftShift records left right = shift_type left.of right.of
binary_type operators.RightShift records left right = shift_type left.of right.of
binary_type operators.Less records left right = order_type left.of right.of
binary_type operators.Greater records left right = order_type left.of right.of
binary_type operators.LessOrEqual records left right = order_type left.of right.of
binary_type operators.GreaterOrEqual records left right = order_type left.of right.of
binary_type operators.Equal records left right = equality_type left right
binary_type operators.NotEqual records left right = equality_type left right
binary_type operators.And records left right = number_type left.of right.of
binary_type operators.Xor records left right = number_type left.of right.of
binary_type operators.Or records left right = number_type left.of right.of

-- `&&` and `||`: of scalars (C11 6.5.13p2, p3, 6.5.14p2, p3)
abbrev pub logical_type : CType → CType → Typing
logical_type left right = truth_if (is_scalar left && is_scalar right)

-- `test ? then : otherwise`: the test is a scalar, and the branches go together (C11 6.5.15p2 to p6)
abbrev pub choice_type : CType → Operand → Operand → Typing
choice_type test then_branch else_branch =
    if is_scalar test
    then type_if (conditional_type then_branch.null then_branch.of else_branch.null else_branch.of)
    else Err Clash
