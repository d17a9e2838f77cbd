-- What the bytes of a value stand for: System V ABI, AMD64, for numbers and booleans; the fragments of a pointer after
-- Caesium (RefinedC, PLDI 2021).
use Rattle.std.specs.Prelude.{ℕ, Bool, ◌==◌, if◌then◌else◌, ℤ, List, [], ◌∷◌, length, Option, Some, None, option_map}
use Rattle.std.specs.Prelude.{option_and_then}
use Rattle.layouts.specs.declared.int_type.IntType.{IntType}
use Rattle.layouts.specs.IntType.{int_bytes_of}
use Rattle.rc_terms.specs.declared.location.Loc.{Loc}
use Rattle.rc_terms.specs.declared.byte.MByte.{MByte}
use Rattle.rc_terms.specs.declared.byte.MByte.TheVariants.{Byte, Frag, Poison}
use Rattle.byte_memory.specs.Encoding.{natural_of, number_from}

-- a byte of memory, where it is plain
abbrev pub plain_byte : MByte → Option ℕ
plain_byte (Byte b) = Some b
plain_byte (Frag at n) = None
plain_byte Poison = None

-- the plain bytes of a value, if all of its bytes are plain
abbrev pub plain_bytes : List MByte → Option (List ℕ)
plain_bytes [] = Some []
plain_bytes (byte ∷ bytes) = option_and_then (λ b. option_map (λ (bs : List ℕ). b ∷ bs) (plain_bytes bytes))
    (plain_byte byte)

-- the number of the type that the bytes are, if they are plain and as many as the type has
abbrev pub int_of : IntType → List MByte → Option ℤ
int_of t bytes = if length bytes == int_bytes_of t then option_map (λ (bs : List ℕ). number_from t (natural_of bs))
    (plain_bytes bytes) else None

-- the byte of a boolean
abbrev pub bool_bytes : Bool → List MByte
bool_bytes b = Byte (if b then 1 else 0) ∷ []

-- the eight fragments of a location, the least significant first
abbrev pub ptr : Loc → List MByte
ptr at = Frag at 0 ∷ Frag at 1 ∷ Frag at 2 ∷ Frag at 3 ∷ Frag at 4 ∷ Frag at 5 ∷ Frag at 6 ∷ Frag at 7 ∷ []
