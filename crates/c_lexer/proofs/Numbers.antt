-- Decimal constants: their digits and values.
use Rattle.std.proofs.Common.{◌≡◌, ℕ, ◌+◌, ◌-◌, ◌*◌, ◌<◌, ◌≤◌, ◌^◌, ◌≢◌, Bool, true, false, cond, ◌&&◌, ◌||◌, eqb, List, [], ◌∷◌, ◌++◌, length, get_or, Option, Some, None, sym, refl, ap, ◌∙◌, subst, ⊎_elim, arith, rules}
use Rattle.std.specs.List.{list_all}
use Rattle.std.specs.Fmt.{decimal}
use Rattle.std.specs.Str.Parse.{digits_value}
use Rattle.std.proofs.lemmas.Bool.{false≢true, eqb-true, cases_lt, cases_Bool}
use Rattle.std.proofs.lemmas.List.{append-nil}
use Rattle.std.proofs.lemmas.Str.Parse.{IsNumeralModel, numerals_by_value}
use Rattle.std.proofs.lemmas.Fmt.{digits_decimal, digits_value-decimal, decimal-digits_value, decimal_digit, decimal_nonempty, first_decimal, decimal_injective}
use Rattle.c_lexer.specs.declared.token.IntegerConstant.{IntegerConstant}
use Rattle.c_lexer.specs.declared.token.IntegerSuffix.{IntegerSuffix}
use Rattle.c_lexer.specs.declared.token.IntegerSuffix.TheVariants as suffixes
use Rattle.c_lexer.specs.Bytes.{is_digit}
use Rattle.c_lexer.specs.Headers.{plain_decimal}
use Rattle.c_lexer.specs.Integers.{is_u, is_l, suffix_of, leads_with_zero, IsInteger}
use Rattle.c_lexer.proofs.Integers.{same_integer}

-- digits of our own, with std's value
pub digits_model : IsNumeralModel (λ ds. list_all is_digit ds ≡ true) (digits_value 10)
digits_model = numerals_by_value _ (search rules)

pub decimal_is_digits : (n : ℕ) → n < 2 ^ 31 → list_all is_digit (decimal n) ≡ true
decimal_is_digits n small = digits_decimal digits_model n (omega arith)

pub decimal_some : (n : ℕ) → n < 2 ^ 31 → 0 < length (decimal n)
decimal_some n small = decimal_nonempty n (omega arith)

pub decimal_same : (m n : ℕ) → m < 2 ^ 31 → n < 2 ^ 31 → decimal m ≡ decimal n → m ≡ n
decimal_same m n m_small n_small same = decimal_injective m n (omega arith) (omega arith) same

pub decimal_value : (n : ℕ) → n < 2 ^ 31 → digits_value 10 (decimal n) ≡ n
decimal_value n small = digits_value-decimal digits_model n (omega arith)

-- a zero that leads stands alone
pub no_leading_zero : (n : ℕ) → n < 2 ^ 31 → 1 < length (decimal n) → get_or (decimal n) 0 0 ≡ 48 → ⊥
no_leading_zero n small long zero =
    ⊎_elim
    (λ positive. omega (arith, first_decimal n positive (omega arith)))
    (λ none. let is_zero : n ≡ 0 = omega arith in omega (arith, ap (λ m. length (decimal m)) is_zero, ap length (decimal_digit 0 (omega arith))))
    (cases_lt 0 n)

-- digits with no leading zero are the decimal of their value
pub decimal_from_digits : (ds : List ℕ) → list_all is_digit ds ≡ true → 0 < length ds → (1 < length ds → get_or ds 0 0 ≢ 48) → digits_value 10 ds < 2 ^ 31 → ds ≡ decimal (digits_value 10 ds)
decimal_from_digits ds digits some no_zero small =
    sym (decimal-digits_value digits_model ds digits some (λ zero. ⊎_elim (λ long. absurd (no_zero long zero)) (λ short. omega arith) (cases_lt 1 (length ds))) (omega arith))

pub found_decimal : (spelling : List ℕ) (value : ℕ) → 0 < length spelling → (1 < length spelling → get_or spelling 0 0 ≢ 48) → list_all is_digit spelling ≡ true → value ≡ digits_value 10 spelling → value < 2 ^ 31 → spelling ≡ decimal value
found_decimal spelling value some no_zero digits value_is small =
    decimal_from_digits spelling digits some no_zero (omega arith) ∙ ap decimal (sym value_is)

-- ---- as integer constants

is_plain : Option IntegerSuffix → Bool
is_plain (Some suffixes.Plain) = true
is_plain other = false

plain_after_one : (p q : Bool) → is_plain (cond p (Some suffixes.Unsigned) (cond q (Some suffixes.Long) None)) ≡ false
unfolding is_plain
plain_after_one true q = refl
plain_after_one false true = refl
plain_after_one false false = refl

plain_after_two : (p q : Bool) → is_plain (cond p (Some suffixes.UnsignedLong) (cond q (Some suffixes.LongLong) None)) ≡ false
unfolding is_plain
plain_after_two true q = refl
plain_after_two false true = refl
plain_after_two false false = refl

plain_after_three : (p : Bool) → is_plain (cond p (Some suffixes.UnsignedLongLong) None) ≡ false
unfolding is_plain
plain_after_three true = refl
plain_after_three false = refl

-- no suffix is there where none asks for anything
no_suffix : (suffix : List ℕ) → is_plain (suffix_of suffix) ≡ true → suffix ≡ []
unfolding is_plain
no_suffix [] plain = refl
no_suffix (a ∷ []) plain = absurd (false≢true (sym (plain_after_one (is_u a) (is_l a)) ∙ plain))
no_suffix (a ∷ b ∷ []) plain = absurd (false≢true (sym (plain_after_two ((is_u a && is_l b) || (is_l a && is_u b)) (is_l a && eqb a b)) ∙ plain))
no_suffix (a ∷ b ∷ c ∷ []) plain = absurd (false≢true (sym (plain_after_three ((is_u a && is_l b && eqb b c) || (is_l a && eqb a b && is_u c))) ∙ plain))
no_suffix (a ∷ b ∷ c ∷ d ∷ rest) plain = absurd (false≢true plain)

plain_suffix : (suffix : List ℕ) → suffix_of suffix ≡ Some suffixes.Plain → suffix ≡ []
unfolding is_plain
plain_suffix suffix plain = no_suffix suffix (ap is_plain plain)

no_zero_first : (digits : List ℕ) → leads_with_zero digits ≡ false → 1 < length digits → get_or digits 0 0 ≡ 48 → ⊥
no_zero_first [] leads long zero = omega arith
no_zero_first (a ∷ []) leads long zero = omega arith
no_zero_first (a ∷ b ∷ digits) leads long zero = false≢true (sym leads ∙ ap (λ n. eqb n 48) zero)

zero_is_not_first : (digits : List ℕ) → (1 < length digits → get_or digits 0 0 ≡ 48 → ⊥) → leads_with_zero digits ≡ false
zero_is_not_first [] other = refl
zero_is_not_first (a ∷ []) other = refl
zero_is_not_first (a ∷ b ∷ digits) other = ⊎_elim (λ zero. absurd (other (omega arith) (eqb-true a 48 zero))) (λ no. no) (cases_Bool (eqb a 48))

-- a plain constant that an `int` holds is spelled as its decimal
pub plain_is_decimal : (value : ℕ) (spelling : List ℕ) → IsInteger (plain_decimal value) spelling → value < 2 ^ 31 → spelling ≡ decimal value
plain_is_decimal value spelling is small =
    let digits : spelling ≡ is.digits = is.parts ∙ ap (λ l. l ++ is.digits ++ is.suffix) is.prefixed.0 ∙ ap (λ l. is.digits ++ l) (plain_suffix is.suffix is.suffixed) ∙ append-nil is.digits in
    digits ∙ found_decimal is.digits value is.some (no_zero_first is.digits is.prefixed.1) is.all is.value small

decimal_is_plain : (value : ℕ) → value < 2 ^ 31 → IsInteger (plain_decimal value) (decimal value)
decimal_is_plain value small = record {
  prefix = [];
  digits = decimal value;
  suffix = [];
  parts = sym (append-nil (decimal value));
  prefixed = (refl, zero_is_not_first (decimal value) (no_leading_zero value small));
  some = decimal_some value small;
  all = decimal_is_digits value small;
  suffixed = refl;
  value = sym (decimal_value value small);
  fits = omega arith;
}

-- what is no integer constant is no decimal, and one that isn't plain and held by an `int` neither
pub no_integer : (spelling : List ℕ) → ((constant : IntegerConstant) → IsInteger constant spelling → ⊥) → (value : ℕ) → value < 2 ^ 31 → spelling ≡ decimal value → ⊥
no_integer spelling none value small same = none (plain_decimal value) (subst (λ l. IsInteger (plain_decimal value) l) (sym same) (decimal_is_plain value small))

pub no_plain : (spelling : List ℕ) (constant : IntegerConstant) → IsInteger constant spelling → ((value : ℕ) → constant ≡ plain_decimal value → value < 2 ^ 31 → ⊥) → (value : ℕ) → value < 2 ^ 31 → spelling ≡ decimal value → ⊥
no_plain spelling constant is other value small same =
    other value (same_integer constant (plain_decimal value) spelling is (subst (λ l. IsInteger (plain_decimal value) l) (sym same) (decimal_is_plain value small))) small
