-- How a number lies in bytes: two's complement, the least significant byte first (System V ABI, AMD64; C11 6.2.6.2).
use Rattle.std.specs.Prelude.{ℕ, ◌+◌, ◌*◌, ◌^◌, zero, suc, List, [], ◌∷◌, map, ℤ, pos, ◌-ℤ◌, int_le, unsigned_abs}
use Rattle.std.specs.Prelude.{if◌then◌else◌}
use Rattle.std.specs.Int.{int_div_euclid, int_rem_euclid}
use Rattle.layouts.specs.declared.int_type.IntType.{IntType}
use Rattle.layouts.specs.IntType.{int_bytes_of, greatest_of}
use Rattle.rc_terms.specs.declared.byte.MByte.{MByte}
use Rattle.rc_terms.specs.declared.byte.MByte.TheVariants.{Byte}

-- the least significant byte of a number: its remainder by 256, which isn't negative
abbrev pub low_byte : ℤ → ℕ
low_byte n = unsigned_abs (int_rem_euclid n (pos 256))

-- the number without that byte: its quotient by 256, rounded down
abbrev pub upper_bytes : ℤ → ℤ
upper_bytes n = int_div_euclid n (pos 256)

-- so many bytes of the number, the least significant first
abbrev pub bytes_from_low : ℕ → ℤ → List ℕ
bytes_from_low zero n = []
bytes_from_low (suc size) n = low_byte n ∷ bytes_from_low size (upper_bytes n)

-- the bytes of the number at the type
unfoldable pub int_bytes : IntType → ℤ → List ℕ
int_bytes t n = bytes_from_low (int_bytes_of t) n

-- the same as bytes of memory
unfoldable pub enc : IntType → ℤ → List MByte
enc t n = map Byte (int_bytes t n)

-- the number without sign that has these bytes, the least significant first
abbrev pub natural_of : List ℕ → ℕ
natural_of [] = 0
natural_of (b ∷ bs) = b + 256 * natural_of bs

-- the number of the type that has the bytes of this one without sign: past the greatest it is negative
abbrev pub number_from : IntType → ℕ → ℤ
number_from t n = if int_le (pos n) (greatest_of t) then pos n else pos n -ℤ pos (2 ^ (8 * int_bytes_of t))
