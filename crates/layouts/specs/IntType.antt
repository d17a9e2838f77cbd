-- The size and the range of each integer type: System V ABI, AMD64 (3.1.2, LP64), two's complement, `char` signed.
use Rattle.std.specs.Prelude.{ℕ, ◌-◌, ◌*◌, ◌^◌, Bool, true, false, if◌then◌else◌, ℤ, pos, neg_ℤ, ◌≤ℤ◌}
use Rattle.layouts.specs.declared.int_type.IntType.{IntType}
use Rattle.layouts.specs.declared.int_type.IntType.TheVariants.{Char, SChar, UChar, Short, UShort, Int, UInt, Long}
use Rattle.layouts.specs.declared.int_type.IntType.TheVariants.{ULong, LLong, ULLong}

-- how many bytes a value of the type has
abbrev pub int_bytes_of : IntType → ℕ
int_bytes_of Char = 1
int_bytes_of SChar = 1
int_bytes_of UChar = 1
int_bytes_of Short = 2
int_bytes_of UShort = 2
int_bytes_of Int = 4
int_bytes_of UInt = 4
int_bytes_of Long = 8
int_bytes_of ULong = 8
int_bytes_of LLong = 8
int_bytes_of ULLong = 8

-- whether the type has negative numbers
abbrev pub is_signed : IntType → Bool
is_signed Char = true
is_signed SChar = true
is_signed UChar = false
is_signed Short = true
is_signed UShort = false
is_signed Int = true
is_signed UInt = false
is_signed Long = true
is_signed ULong = false
is_signed LLong = true
is_signed ULLong = false

-- the least number of the type: of n bits, -(2 ^ (n - 1)) with a sign and 0 without
abbrev pub least_of : IntType → ℤ
least_of t = if is_signed t then neg_ℤ (pos (2 ^ (8 * int_bytes_of t - 1))) else pos 0

-- the greatest number of the type: of n bits, 2 ^ (n - 1) - 1 with a sign and 2 ^ n - 1 without
abbrev pub greatest_of : IntType → ℤ
greatest_of t = if is_signed t then pos (2 ^ (8 * int_bytes_of t - 1) - 1) else pos (2 ^ (8 * int_bytes_of t) - 1)

-- the number is one of the type's
abbrev pub IsInRange : IntType → ℤ → Type 0
IsInRange t n = (least_of t ≤ℤ n) × (n ≤ℤ greatest_of t)
