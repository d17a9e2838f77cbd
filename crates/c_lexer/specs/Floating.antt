-- Floating constants: C11 6.4.4.2.
use Rattle.std.specs.Prelude.{◌≡◌, ◌≢◌, ℕ, ◌+◌, ◌<◌, Bool, false, ◌==◌, ◌||◌, IsTrue, List, [], ◌∷◌, ◌++◌, codes}
use Rattle.std.specs.Prelude.{length, ◌⊎◌}
use Rattle.std.specs.List.{list_all}
use Rattle.c_lexer.specs.declared.token.IntegerBase.{IntegerBase}
use Rattle.c_lexer.specs.declared.token.IntegerBase.TheVariants.{Decimal, Octal, Hexadecimal}
use Rattle.c_lexer.specs.Bytes.{is_digit}
use Rattle.c_lexer.specs.Integers.{is_digit_of}

-- what begins an exponent: `e` or `E`, and `p` or `P` behind hexadecimal digits
abbrev pub is_exponent_mark : IntegerBase → ℕ → Bool
is_exponent_mark Decimal b = (b == 101) || (b == 69)
is_exponent_mark Octal b = false
is_exponent_mark Hexadecimal b = (b == 112) || (b == 80)

-- `+` or `-`
abbrev pub is_sign : ℕ → Bool
is_sign b = (b == 43) || (b == 45)

-- `f`, `F`, `l` or `L`
abbrev pub is_floating_suffix : ℕ → Bool
is_floating_suffix b = (b == 102) || (b == 70) || (b == 108) || (b == 76)

-- an exponent: its mark, perhaps a sign, and decimal digits
pub record IsExponent (base : IntegerBase) (bytes : List ℕ) : Type 0 where
  pub mark : ℕ
  pub sign : List ℕ
  pub digits : List ℕ
  pub parts : bytes ≡ mark ∷ sign ++ digits
  pub marked : IsTrue (is_exponent_mark base mark)
  pub signed : (sign ≡ []) ⊎ ((b : ℕ) × IsTrue (is_sign b) × (sign ≡ b ∷ []))
  pub some : 0 < length digits
  pub all : IsTrue (list_all is_digit digits)

-- digits of the base, perhaps with a point before, between or behind them, perhaps an exponent, perhaps a suffix
pub record IsScaled (base : IntegerBase) (bytes : List ℕ) : Type 0 where
  pub whole : List ℕ
  pub point : List ℕ
  pub fraction : List ℕ
  pub exponent : List ℕ
  pub suffix : List ℕ
  pub parts : bytes ≡ whole ++ (point ++ (fraction ++ (exponent ++ suffix)))
  pub whole_digits : IsTrue (list_all (is_digit_of base) whole)
  pub fraction_digits : IsTrue (list_all (is_digit_of base) fraction)
  pub some : 0 < length whole + length fraction
  pub pointed : (point ≡ 46 ∷ []) ⊎ ((point ≡ []) × (fraction ≡ []))
  pub exponents : (exponent ≡ []) ⊎ IsExponent base exponent
  pub suffixed : (suffix ≡ []) ⊎ ((b : ℕ) × IsTrue (is_floating_suffix b) × (suffix ≡ b ∷ []))

-- a decimal floating constant has a point or an exponent
abbrev pub IsDecimalFloating : List ℕ → Type 0
IsDecimalFloating bytes = (scaled : IsScaled Decimal bytes) × ((scaled.point ≢ []) ⊎ (scaled.exponent ≢ []))

-- a hexadecimal one has `0x` or `0X` before, and an exponent
abbrev pub IsHexadecimalFloating : List ℕ → Type 0
IsHexadecimalFloating bytes = (rest : List ℕ) × ((bytes ≡ codes "0x" ++ rest) ⊎ (bytes ≡ codes "0X" ++ rest))
    × ((scaled : IsScaled Hexadecimal rest) × (scaled.exponent ≢ []))

-- the spelling of a floating constant
abbrev pub IsFloating : List ℕ → Type 0
IsFloating bytes = IsDecimalFloating bytes ⊎ IsHexadecimalFloating bytes
