-- The types of assignments, by the type of the object that is assigned to (C11 6.5.16), and of what is converted as
-- by assignment: arguments, initial values and returned ones (C11 6.5.2.2p7, 6.7.9p11, 6.8.6.4p3).
use Rattle.std.specs.Prelude.{if◌then◌else◌, List, Option, Ok, Err}
use Rattle.std.specs.Option.{option_map_or}
use Rattle.layouts.specs.declared.layout.Layout.{Layout}
use Rattle.c_syntax.specs.declared.operator.AssignmentOperator.{AssignmentOperator}
use Rattle.c_syntax.specs.declared.operator.AssignmentOperator.TheVariants as operators
use Rattle.c_types.specs.declared.ctype.CType.{CType}
use Rattle.c_types.specs.CType.{is_integer}
use Rattle.c_types.specs.Conversions.{are_integers, converts}
use Rattle.c_operators.specs.declared.operand.Operand.{Operand}
use Rattle.c_operators.specs.declared.operand.OperandFault.TheVariants.{Clash}
use Rattle.c_operators.specs.Operands.{Typing, moved_type}
use Rattle.c_operators.specs.Unary.{given_type}

-- a value that is converted to a type without a cast (C11 6.5.16.1p1)
abbrev pub converted_type : Operand → CType → Typing
converted_type value to = if converts value.null value.of to then Ok to else Err Clash

-- `=`, arguments and initial values, by the type of the object (C11 6.5.16.1p1, p2)
abbrev pub assigned_type : CType → Operand → Typing
assigned_type object value = option_map_or (converted_type value) (given_type object) (Err Clash)

-- `*= /= %= <<= >>= &= ^= |=`: integers (C11 6.5.16.2p2)
abbrev pub number_change : CType → CType → Typing
number_change held right = if are_integers held right then Ok held else Err Clash

-- `+=` and `-=`: integers, or a pointer and an integer (C11 6.5.16.2p1)
abbrev pub sum_change : List (Option Layout) → CType → CType → Typing
sum_change records held right =
    if is_integer held then number_change held right
    else (if is_integer right then moved_type records held else Err Clash)

-- what each compound operator gives, by the type of the value that the object holds
abbrev pub change_type : AssignmentOperator → List (Option Layout) → Operand → CType → Typing
change_type operators.Assign records value held = converted_type value held
change_type operators.Add records value held = sum_change records held value.of
change_type operators.Subtract records value held = sum_change records held value.of
change_type _ records value held = number_change held value.of

-- an assignment by its operator and the type of its object, which is no array (C11 6.5.16p2)
abbrev pub assignment_type : AssignmentOperator → List (Option Layout) → CType → Operand → Typing
assignment_type operator records object value =
    option_map_or (change_type operator records value) (given_type object) (Err Clash)
