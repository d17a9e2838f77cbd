-- What is found of a number at the front of some bytes.
use Rattle.std.specs.Prelude.{◌≡◌, ◌≢◌, ℕ, ◌+◌, ◌<◌, ◌≤◌, ◌==◌, ◌||◌, Bool, false, ◌&&◌, nat_lt, IsTrue, List, []}
use Rattle.std.specs.Prelude.{◌∷◌, ◌++◌, length, take, drop, slice_index, MatchBool, ◌⊎◌}
use Rattle.std.specs.List.{prefix_len}
use Rattle.c_lexer.specs.declared.token.IntegerBase.{IntegerBase}
use Rattle.c_lexer.specs.declared.floating.Significand.{Significand}
use Rattle.c_lexer.specs.declared.token.IntegerBase.TheVariants as bases
use Rattle.c_lexer.specs.Bytes.{is_digit}
use Rattle.c_lexer.specs.Integers.{is_digit_of}
use Rattle.c_lexer.specs.Floating.{is_floating_suffix, IsScaled}

-- the longest front of which a property holds is n bytes long, or none is where n is 0
abbrev pub IsLongest : (List ℕ → Type 0) → List ℕ → ℕ → Type 0
IsLongest P bytes n = (n ≤ length bytes) × (0 < n → P (take n bytes))
    × ((front rest : List ℕ) → bytes ≡ front ++ rest → P front → length front ≤ n)

-- `0x` or `0X` begins the bytes
abbrev pub begins_hexadecimal : List ℕ → Bool
begins_hexadecimal bytes = (slice_index bytes 0 == 48) && ((slice_index bytes 1 == 120) || (slice_index bytes 1 == 88))

-- a zero and a further digit begin the bytes
abbrev pub begins_octal : List ℕ → Bool
begins_octal bytes = (slice_index bytes 0 == 48) && is_digit (slice_index bytes 1)

-- the base of what begins like a number, and the length of its prefix
abbrev pub IsBase : List ℕ → IntegerBase → ℕ → Type 0
IsBase bytes bases.Hexadecimal n = (n ≡ 2) × IsTrue (begins_hexadecimal bytes)
IsBase bytes bases.Octal n = (n ≡ 0) × (begins_hexadecimal bytes ≡ false) × IsTrue (begins_octal bytes)
IsBase bytes bases.Decimal n = (n ≡ 0) × (begins_hexadecimal bytes ≡ false) × (begins_octal bytes ≡ false)

-- a floating constant's suffix begins the bytes
abbrev pub is_suffixed : List ℕ → Bool
is_suffixed [] = false
is_suffixed (b ∷ bs) = is_floating_suffix b

-- the digits and the point that begin the bytes, as many as there are
abbrev pub IsSignificand : IntegerBase → List ℕ → Significand → Type 0
IsSignificand base bytes significand =
    (significand.length ≤ length bytes)
    × MatchBool significand.pointed
    ((prefix_len (is_digit_of base) bytes < length bytes)
    × (slice_index bytes (prefix_len (is_digit_of base) bytes) ≡ 46)
    × (significand.digits ≡ prefix_len (is_digit_of base) bytes + prefix_len (is_digit_of base)
    (drop (prefix_len (is_digit_of base) bytes + 1) bytes))
    × (significand.length ≡ significand.digits + 1))
    ((prefix_len (is_digit_of base) bytes < length bytes → slice_index bytes (prefix_len (is_digit_of base) bytes) ≢ 46)
    × (significand.digits ≡ prefix_len (is_digit_of base) bytes) × (significand.length ≡ significand.digits))

-- digits that an exponent of this length makes a floating constant
abbrev pub is_marked : IntegerBase → Significand → ℕ → Bool
is_marked bases.Decimal significand exponent = nat_lt 0 significand.digits && (nat_lt 0 exponent || significand.pointed)
is_marked bases.Octal significand exponent = nat_lt 0 significand.digits && nat_lt 0 exponent
is_marked bases.Hexadecimal significand exponent = nat_lt 0 significand.digits && nat_lt 0 exponent

-- what makes digits with a point or an exponent a floating constant of the base
abbrev pub IsMarked : (base : IntegerBase) (bytes : List ℕ) → IsScaled base bytes → Type 0
IsMarked bases.Decimal bytes scaled = (scaled.point ≢ []) ⊎ (scaled.exponent ≢ [])
IsMarked bases.Octal bytes scaled = scaled.exponent ≢ []
IsMarked bases.Hexadecimal bytes scaled = scaled.exponent ≢ []

-- the longest floating constant behind its prefix
abbrev pub IsLongestScaled : IntegerBase → List ℕ → ℕ → Type 0
IsLongestScaled base bytes n = IsLongest (λ front. (scaled : IsScaled base front) × IsMarked base front scaled) bytes n
