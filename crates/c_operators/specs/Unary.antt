-- The types of expressions with one operand (C11 6.5.2.4, 6.5.3, 6.5.4).
use Rattle.std.specs.Prelude.{if◌then◌else◌, List, Option, Some, None, Ok, Err}
use Rattle.std.specs.Option.{option_map_or}
use Rattle.layouts.specs.declared.layout.Layout.{Layout}
use Rattle.c_types.specs.declared.ctype.CType.{CType, out-CType}
use Rattle.c_types.specs.declared.ctype.CType.TheOpen.{CType-F}
use Rattle.c_types.specs.Arithmetic.{promoted_type}
use Rattle.c_types.specs.CType.{is_integer, is_scalar, value_type}
use Rattle.c_types.specs.Conversions.{casts}
use Rattle.c_operators.specs.declared.operand.Operand.{Operand}
use Rattle.c_operators.specs.declared.operand.OperandFault.TheVariants.{Clash}
use Rattle.c_operators.specs.Operands.{Typing, integer_if, truth_if, provided, sized_type, moved_type, size_type}

-- `+e`, `-e` and `~e`: an integer, promoted (C11 6.5.3.3p1 to p4)
abbrev pub sign_type : CType → Typing
sign_type operand = integer_if (promoted_type operand)

-- `!e`: a truth value, of a scalar (C11 6.5.3.3p1, p5)
abbrev pub not_type : CType → Typing
not_type operand = truth_if (is_scalar operand)

-- `sizeof e`, `sizeof (T)`, `_Alignof (T)`: of an object whose size is known (C11 6.5.3.4p1, p5)
abbrev pub measure_type : List (Option Layout) → CType → Typing
measure_type records t = provided size_type (sized_type records t)

-- what an object of this layer may be given: nothing where it is an array
abbrev pub given_by : CType → CType-F CType → Option CType
given_by t (CType-F.Array element length) = None
given_by t _ = Some (value_type t)

-- the type of the values that an object may be given, none for an array (C11 6.3.2.1p1)
abbrev pub given_type : CType → Option CType
given_type object = given_by object (out-CType object)

-- a value under a cast to a type that values have
abbrev pub cast_to : Operand → CType → Typing
cast_to operand to = if casts operand.null operand.of to then Ok to else Err Clash

-- `(T) e`: what an object of the named type may be given, none for an array (C11 6.5.4p2, p5)
abbrev pub cast_type : Operand → CType → Typing
cast_type operand to = option_map_or (cast_to operand) (given_type to) (Err Clash)

-- a number as it is, and a pointer that moves by one
abbrev pub step_of : List (Option Layout) → CType → Typing
step_of records t = if is_integer t then Ok t else moved_type records t

-- `++e`, `--e`, `e++` and `e--`, by the type of the object (C11 6.5.2.4p1, 6.5.3.1p1)
abbrev pub step_type : List (Option Layout) → CType → Typing
step_type records object = option_map_or (step_of records) (given_type object) (Err Clash)
