-- What the bytes of an operand are, and how a pointer moves (Caesium, RefinedC, PLDI 2021).
use Rattle.std.specs.Prelude.{ℕ, suc, ◌==◌, Bool, true, false, not, ◌&&◌, if◌then◌else◌, ℤ, pos, ◌+ℤ◌, int_lt, int_le}
use Rattle.std.specs.Prelude.{List, [], ◌∷◌, length, Option, Some, None, option_map, option_and_then, Result, Ok, Err}
use Rattle.std.specs.Ordering.{int_eq}
use Rattle.layouts.specs.declared.int_type.IntType.{IntType}
use Rattle.rc_terms.specs.declared.location.Loc.{Loc}
use Rattle.rc_terms.specs.declared.location.Loc.TheVariants.{Null, At}
use Rattle.rc_terms.specs.declared.byte.MByte.{MByte}
use Rattle.rc_terms.specs.declared.byte.MByte.TheVariants.{Byte, Frag, Poison}
use Rattle.byte_memory.specs.declared.memory.Memory.{Memory}
use Rattle.byte_memory.specs.Encoding.{natural_of}
use Rattle.byte_memory.specs.Memory.{length_at}
use Rattle.byte_memory.specs.Values.{int_of, plain_bytes}
use Rattle.thread_steps.specs.declared.answer.Ub.{Ub}
use Rattle.thread_steps.specs.declared.answer.Ub.TheVariants.{PoisonUsed, BadBool, PtrBounds}

-- the value, where there is one; else poison was used
abbrev pub or_poison : {A : Type 0} → Option A → Result A Ub
or_poison None = Err PoisonUsed
or_poison (Some value) = Ok value

-- what comes of the value of a first judgement, where it gave one
abbrev pub and_then : {A B : Type 0} → Result A Ub → (A → Result B Ub) → Result B Ub
and_then (Ok value) next = next value
and_then (Err ub) next = Err ub

-- whether two locations are the same
abbrev pub same_location : Loc → Loc → Bool
same_location Null Null = true
same_location (At block offset) (At other at) = (block == other) && int_eq offset at
same_location one other = false

-- whether the byte is the fragment of the location with this number
abbrev pub is_fragment : Loc → ℕ → MByte → Bool
is_fragment at n (Frag of m) = same_location of at && (m == n)
is_fragment at n byte = false

-- whether the bytes are the fragments of the location from this number on up to the last, which is 7
abbrev pub are_fragments : Loc → ℕ → List MByte → Bool
are_fragments at n [] = n == 8
are_fragments at n (byte ∷ bytes) = is_fragment at n byte && are_fragments at (suc n) bytes

-- the location that a byte is a fragment of
abbrev pub location_in : List MByte → Option Loc
location_in (Frag at n ∷ bytes) = Some at
location_in bytes = None

-- a pointer operand: the location whose eight fragments the bytes are
abbrev pub pointer_of : List MByte → Option Loc
pointer_of bytes = option_and_then (λ at. if are_fragments at 0 bytes then Some at else None) (location_in bytes)

abbrev pub pointer : List MByte → Result Loc Ub
pointer bytes = or_poison (pointer_of bytes)

-- an integer operand: the number of the type that the plain bytes are
abbrev pub integer : IntType → List MByte → Result ℤ Ub
integer t bytes = or_poison (int_of t bytes)

-- a bool operand: one plain byte, which is 0 or 1
abbrev pub boolean : List MByte → Result Bool Ub
boolean (Byte n ∷ []) = if n == 0 then Ok false else if n == 1 then Ok true else Err BadBool
boolean bytes = Err PoisonUsed

-- the operand of an `if`: whether the number that its plain bytes are isn't zero
abbrev pub is_nonzero : List MByte → Option Bool
is_nonzero bytes = option_map (λ (plain : List ℕ). not (natural_of plain == 0)) (plain_bytes bytes)

-- an operand of so many bytes, whatever they are
abbrev pub sized : ℕ → List MByte → Result (List MByte) Ub
sized size bytes = if length bytes == size then Ok bytes else Err PoisonUsed

-- the pointer moved by so many bytes: from null nowhere, and else up to the end of its block, which keeps its length
-- when it is closed
abbrev pub moved : Memory → Loc → ℤ → Result Loc Ub
moved memory Null by = Err PtrBounds
moved memory (At block offset) by =
    let to = offset +ℤ by in
    if int_le (pos 0) to && int_le to (pos (length_at memory block)) then Ok (At block to) else Err PtrBounds
