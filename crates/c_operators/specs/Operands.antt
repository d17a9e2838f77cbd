-- What operators ask of the types of their operands (C11 6.2.5, 6.3.2.1, 6.5.2.1, 6.5.3.2, 6.5.6). `records` has the
-- layout of each struct and union by its number, none while it is incomplete. A type is said where the operands fit,
-- else what is wrong with them.
use Rattle.std.specs.Prelude.{ℕ, Bool, ◌&&◌, if◌then◌else◌, List, Option, Some, None, Result, Ok, Err}
use Rattle.std.specs.Option.{option_map_or}
use Rattle.layouts.specs.declared.int_type.IntType.{IntType}
use Rattle.layouts.specs.declared.int_type.IntType.TheVariants as ints
use Rattle.layouts.specs.declared.layout.Layout.{Layout}
use Rattle.c_types.specs.declared.ctype.CType.{CType}
use Rattle.c_types.specs.declared.ctype.CType.TheVariants as types
use Rattle.c_types.specs.CType.{is_integer, is_pointer, is_void, pointee}
use Rattle.c_types.specs.Layouts.{missing_record}
use Rattle.c_operators.specs.declared.operand.OperandFault.{OperandFault}
use Rattle.c_operators.specs.declared.operand.OperandFault.TheVariants.{Clash, Incomplete}

-- the type that an operator gives, or what is wrong with its operands
abbrev pub Typing : Type 0
Typing = Result CType OperandFault

-- `int`, the type of truth values (C11 6.5.8p6)
abbrev pub int : CType
int = types.Integer ints.Int

-- `size_t`, the type of sizes (C11 6.5.3.4p5; System V ABI, AMD64)
abbrev pub size_type : CType
size_type = types.Integer ints.ULong

-- `int`, where the operands fit
abbrev pub truth_if : Bool → Typing
truth_if fits = if fits then Ok int else Err Clash

-- an integer type, where there is one
abbrev pub integer_if : Option IntType → Typing
integer_if (Some t) = Ok (types.Integer t)
integer_if None = Err Clash

-- a type, where there is one
abbrev pub type_if : Option CType → Typing
type_if (Some t) = Ok t
type_if None = Err Clash

-- a type, unless a struct or union lacks its members
abbrev pub unless_missing : CType → Option ℕ → Typing
unless_missing t (Some number) = Err (Incomplete number)
unless_missing t None = Ok t

-- the type of an object whose size is known: void has none (C11 6.2.5p19, p22)
abbrev pub sized_type : List (Option Layout) → CType → Typing
sized_type records t = if is_void t then Err Clash else unless_missing t (missing_record records t)

-- the object that a pointer points to, whose size is known (C11 6.5.3.2p2, p4)
abbrev pub pointed_type : List (Option Layout) → CType → Typing
pointed_type records pointer = option_map_or (sized_type records) (pointee pointer) (Err Clash)

-- the first type where the second is one, else what is wrong there
abbrev pub provided : CType → Typing → Typing
provided t (Ok other) = Ok t
provided t (Err fault) = Err fault

-- a pointer that an integer moves: it points to an object whose size is known (C11 6.5.6p2, p8)
abbrev pub moved_type : List (Option Layout) → CType → Typing
moved_type records pointer = provided pointer (pointed_type records pointer)

-- the one of two types that is a pointer, where the other is an integer; the order of the text doesn't matter
abbrev pub pointer_beside_integer : CType → CType → Option CType
pointer_beside_integer one other =
    if is_pointer one && is_integer other then Some one
    else (if is_integer one && is_pointer other then Some other else None)
