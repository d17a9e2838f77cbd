-- Integer constants: C11 6.4.4.1.
use Rattle.std.specs.Prelude.{◌≡◌, ℕ, ◌^◌, ◌<◌, Bool, false, ◌==◌, ◌&&◌, ◌||◌, IsTrue, List, [], ◌∷◌, ◌++◌, codes}
use Rattle.std.specs.Prelude.{length, Option, Some, None, if◌then◌else◌, ◌⊎◌}
use Rattle.std.specs.List.{list_all}
use Rattle.std.specs.Str.Parse.{digits_value}
use Rattle.c_lexer.specs.declared.token.IntegerBase.{IntegerBase}
use Rattle.c_lexer.specs.declared.token.IntegerBase.TheVariants.{Decimal, Octal, Hexadecimal}
use Rattle.c_lexer.specs.declared.token.IntegerSuffix.{IntegerSuffix}
use Rattle.c_lexer.specs.declared.token.IntegerSuffix.TheVariants.{Plain, Unsigned, Long, UnsignedLong, LongLong}
use Rattle.c_lexer.specs.declared.token.IntegerSuffix.TheVariants.{UnsignedLongLong}
use Rattle.c_lexer.specs.declared.token.IntegerConstant.{IntegerConstant}
use Rattle.c_lexer.specs.Bytes.{is_digit, is_octal_digit, is_hexadecimal_digit}

-- how many digits the base has
abbrev pub radix : IntegerBase → ℕ
radix Decimal = 10
radix Octal = 8
radix Hexadecimal = 16

-- a digit of the base
abbrev pub is_digit_of : IntegerBase → ℕ → Bool
is_digit_of Decimal b = is_digit b
is_digit_of Octal b = is_octal_digit b
is_digit_of Hexadecimal b = is_hexadecimal_digit b

-- `u` or `U`
abbrev pub is_u : ℕ → Bool
is_u b = (b == 117) || (b == 85)

-- `l` or `L`
abbrev pub is_l : ℕ → Bool
is_l b = (b == 108) || (b == 76)

-- what a suffix asks for, or none where it is no suffix: `u` and `l` in either case and order, `ll` in one case
abbrev pub suffix_of : List ℕ → Option IntegerSuffix
suffix_of [] = Some Plain
suffix_of (a ∷ []) = if is_u a then Some Unsigned else if is_l a then Some Long else None
suffix_of (a ∷ b ∷ []) =
    if (is_u a && is_l b) || (is_l a && is_u b) then Some UnsignedLong
    else if is_l a && (a == b) then Some LongLong else None
suffix_of (a ∷ b ∷ c ∷ []) =
    if (is_u a && is_l b && (b == c)) || (is_l a && (a == b) && is_u c) then Some UnsignedLongLong else None
suffix_of (a ∷ b ∷ c ∷ d ∷ rest) = None

-- a zero stands before other digits
abbrev pub leads_with_zero : List ℕ → Bool
leads_with_zero [] = false
leads_with_zero (a ∷ []) = false
leads_with_zero (a ∷ b ∷ rest) = a == 48

-- What the base has before its digits, and which digit they begin with. A zero alone counts as decimal.
abbrev pub HasPrefix : IntegerBase → List ℕ → List ℕ → Type 0
HasPrefix Decimal prefix digits = (prefix ≡ []) × (leads_with_zero digits ≡ false)
HasPrefix Octal prefix digits = (prefix ≡ []) × IsTrue (leads_with_zero digits)
HasPrefix Hexadecimal prefix digits = (prefix ≡ codes "0x") ⊎ (prefix ≡ codes "0X")

-- the spelling of an integer constant: a prefix, digits of its base, a suffix
pub record IsInteger (constant : IntegerConstant) (spelling : List ℕ) : Type 0 where
  pub prefix : List ℕ
  pub digits : List ℕ
  pub suffix : List ℕ
  pub parts : spelling ≡ prefix ++ digits ++ suffix
  pub prefixed : HasPrefix constant.base prefix digits
  pub some : 0 < length digits
  pub all : IsTrue (list_all (is_digit_of constant.base) digits)
  pub suffixed : suffix_of suffix ≡ Some constant.suffix
  pub value : constant.value ≡ digits_value (radix constant.base) digits
  pub fits : constant.value < 2 ^ 128
