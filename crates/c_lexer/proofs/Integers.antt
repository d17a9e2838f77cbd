-- An integer constant's base, digits and suffix are those that its bytes have.
use Rattle.std.proofs.Common.{◌≡◌, ℕ, ◌+◌, ◌*◌, ◌^◌, ◌<◌, ◌≤◌, Bool, true, false, ◌&&◌, ◌||◌, eqb, List, [], ◌∷◌, ◌++◌, length, get_or, take, drop, Some, sym, refl, ap, ◌∙◌, subst, inl, inr, ⊎_elim, arith, ◌⊎◌, append_assoc}
use Rattle.std.specs.List.{list_all, prefix_len}
use Rattle.std.specs.Char.{digit_value}
use Rattle.std.specs.Str.Parse.{digits_value}
use Rattle.std.proofs.lemmas.Bool.{and_parts, false≢true, eqb-true}
use Rattle.std.proofs.lemmas.Bool.Decides.{nat_tests}
use Rattle.std.proofs.lemmas.Int.Digits.{digits_value_more}
use Rattle.std.proofs.lemmas.Str.Parse.{digits_value-take-le}
use Rattle.std.proofs.lemmas.List.{take_at, drop_at, take-append-drop, length-take-le}
use Rattle.std.proofs.lemmas.List.Sums.{prefix_len-le-length}
use Rattle.c_lexer.specs.declared.token.IntegerBase.{IntegerBase}
use Rattle.c_lexer.specs.declared.token.IntegerBase.TheVariants as bases
use Rattle.c_lexer.specs.declared.token.IntegerConstant.{IntegerConstant}
use Rattle.c_lexer.specs.Bytes.{is_digit, is_octal_digit}
use Rattle.c_lexer.specs.Integers.{radix, is_digit_of, suffix_of, leads_with_zero, HasPrefix, IsInteger}
use Rattle.c_lexer.specs.Scanning.Numbers.{IsBase, begins_hexadecimal, begins_octal}
use Rattle.c_lexer.proofs.Lists.{prefix_len_at, list_all-take_prefix, list_all-weaker}
use Rattle.c_lexer.proofs.Lexemes.{is_suffix_byte, is_plain_byte, suffix_bytes, decimal_is_plain, octal_is_plain, octal_is_digit, suffix_is_plain, list_all_join, or_parts}

pub radix_some : (base : IntegerBase) → 1 ≤ radix base
radix_some bases.Decimal = omega arith
radix_some bases.Octal = omega arith
radix_some bases.Hexadecimal = omega arith

-- a value that is too large at one digit is too large at the end
pub too_large : (base : IntegerBase) (digits : List ℕ) (i value : ℕ) → i < length digits → value ≡ digits_value (radix base) (take i digits)
    → 2 ^ 128 ≤ value * radix base + digit_value (get_or digits i 0) → 2 ^ 128 ≤ digits_value (radix base) digits
too_large base digits i value inside is large =
    let more : digits_value (radix base) (take (i + 1) digits) ≡ value * radix base + digit_value (get_or digits i 0) =
    digits_value_more (radix base) digits i inside ∙ ap (λ v. v * radix base + digit_value (get_or digits i 0)) (sym is) in
    let below = digits_value-take-le (radix base) digits (i + 1) (radix_some base) in
    omega (arith, more, below, large)

pub one_more : (base : IntegerBase) (digits : List ℕ) (i value : ℕ) → i < length digits → value ≡ digits_value (radix base) (take i digits)
    → value * radix base + digit_value (get_or digits i 0) ≡ digits_value (radix base) (take (i + 1) digits)
one_more base digits i value inside is =
    sym (digits_value_more (radix base) digits i inside ∙ ap (λ v. v * radix base + digit_value (get_or digits i 0)) (sym is))

-- what an integer constant's bytes have
pub record Parts (constant : IntegerConstant) (word : List ℕ) : Type 0 where
  pub start : ℕ
  pub base : IsBase word constant.base start
  pub some : 0 < prefix_len (is_digit_of constant.base) (drop start word)
  pub suffix : suffix_of (drop (prefix_len (is_digit_of constant.base) (drop start word)) (drop start word)) ≡ Some constant.suffix
  pub value : constant.value ≡ digits_value (radix constant.base) (take (prefix_len (is_digit_of constant.base) (drop start word)) (drop start word))
  pub fits : constant.value < 2 ^ 128

suffix_no_digit : (base : IntegerBase) (b : ℕ) → is_suffix_byte b ≡ true → is_digit_of base b ≡ false
suffix_no_digit bases.Decimal b suffix = grind (arith, nat_tests)
suffix_no_digit bases.Octal b suffix = grind (arith, nat_tests)
suffix_no_digit bases.Hexadecimal b suffix = grind (arith, nat_tests)

zero_no_digit : (base : IntegerBase) → is_digit_of base 0 ≡ false
zero_no_digit bases.Decimal = refl
zero_no_digit bases.Octal = refl
zero_no_digit bases.Hexadecimal = refl

no_digit_behind : (base : IntegerBase) (suffix : List ℕ) → list_all is_suffix_byte suffix ≡ true → is_digit_of base (get_or suffix 0 0) ≡ false
no_digit_behind base [] all = zero_no_digit base
no_digit_behind base (b ∷ bs) all = suffix_no_digit base b (and_parts (is_suffix_byte b) (list_all is_suffix_byte bs) all).0

plain_no_x : (b : ℕ) → (is_plain_byte b ≡ true) ⊎ (b ≡ 0) → (eqb b 120 || eqb b 88) ≡ false
plain_no_x b (inl plain) = grind (arith, nat_tests)
plain_no_x b (inr zero) = ap (λ n. eqb n 120 || eqb n 88) zero

second_plain : (word : List ℕ) → list_all is_plain_byte word ≡ true → (is_plain_byte (get_or word 1 0) ≡ true) ⊎ (get_or word 1 0 ≡ 0)
second_plain [] all = inr refl
second_plain (a ∷ []) all = inr refl
second_plain (a ∷ b ∷ rest) all = inl (and_parts (is_plain_byte b) (list_all is_plain_byte rest) (and_parts (is_plain_byte a) (list_all is_plain_byte (b ∷ rest)) all).1).0

and_false : (a b : Bool) → b ≡ false → (a && b) ≡ false
and_false true b fails = fails
and_false false b fails = refl

first_of_digits : (digits suffix : List ℕ) → 0 < length digits → get_or (digits ++ suffix) 0 0 ≡ get_or digits 0 0
first_of_digits [] suffix some = absurd (omega arith)
first_of_digits (b ∷ bs) suffix some = refl

octal_plain : (digits suffix : List ℕ) → list_all (is_digit_of bases.Octal) digits ≡ true → list_all is_suffix_byte suffix ≡ true → list_all is_plain_byte (digits ++ suffix) ≡ true
octal_plain digits suffix all suffixed =
    list_all_join is_plain_byte digits suffix (list_all-weaker (is_digit_of bases.Octal) is_plain_byte digits octal_is_plain all) (list_all-weaker is_suffix_byte is_plain_byte suffix suffix_is_plain suffixed)

decimal_plain : (digits suffix : List ℕ) → list_all is_digit digits ≡ true → list_all is_suffix_byte suffix ≡ true → list_all is_plain_byte (digits ++ suffix) ≡ true
decimal_plain digits suffix all suffixed =
    list_all_join is_plain_byte digits suffix (list_all-weaker is_digit is_plain_byte digits decimal_is_plain all) (list_all-weaker is_suffix_byte is_plain_byte suffix suffix_is_plain suffixed)

and_true : (a b : Bool) → b ≡ true → (a && b) ≡ a
and_true true b holds = holds
and_true false b holds = refl

-- where no digit follows them, the bytes begin with a zero and a digit exactly where the digits do
octal_by_digits : (digits rest : List ℕ) → 0 < length digits → list_all is_digit digits ≡ true → is_digit (get_or rest 0 0) ≡ false → begins_octal (digits ++ rest) ≡ leads_with_zero digits
octal_by_digits [] rest some all behind = absurd (omega arith)
octal_by_digits (a ∷ []) rest some all behind = and_false (eqb a 48) (is_digit (get_or rest 0 0)) behind
octal_by_digits (a ∷ b ∷ more) rest some all behind =
    and_true (eqb a 48) (is_digit b) (and_parts (is_digit b) (list_all is_digit more) (and_parts (is_digit a) (list_all is_digit (b ∷ more)) all).1).0

base_of_parts : (base : IntegerBase) (prefix digits suffix : List ℕ) → HasPrefix base prefix digits → 0 < length digits → list_all (is_digit_of base) digits ≡ true → list_all is_suffix_byte suffix ≡ true
    → IsBase (prefix ++ (digits ++ suffix)) base (length prefix)
base_of_parts bases.Decimal prefix digits suffix prefixed some all suffixed =
    subst (λ l. IsBase (l ++ (digits ++ suffix)) bases.Decimal (length l)) (sym prefixed.0) (
      refl,
      and_false (eqb (get_or (digits ++ suffix) 0 0) 48) _ (plain_no_x (get_or (digits ++ suffix) 1 0) (second_plain (digits ++ suffix) (decimal_plain digits suffix all suffixed))),
      octal_by_digits digits suffix some all (no_digit_behind bases.Decimal suffix suffixed) ∙ prefixed.1,
    )
base_of_parts bases.Octal prefix digits suffix prefixed some all suffixed =
    subst (λ l. IsBase (l ++ (digits ++ suffix)) bases.Octal (length l)) (sym prefixed.0) (
      refl,
      and_false (eqb (get_or (digits ++ suffix) 0 0) 48) _ (plain_no_x (get_or (digits ++ suffix) 1 0) (second_plain (digits ++ suffix) (octal_plain digits suffix all suffixed))),
      octal_by_digits digits suffix some (list_all-weaker is_octal_digit is_digit digits octal_is_digit all) (no_digit_behind bases.Decimal suffix suffixed) ∙ prefixed.1,
    )
base_of_parts bases.Hexadecimal prefix digits suffix prefixed some all suffixed =
    ⊎_elim
    (λ small. subst (λ l. IsBase (l ++ (digits ++ suffix)) bases.Hexadecimal (length l)) (sym small) (refl, refl))
    (λ large. subst (λ l. IsBase (l ++ (digits ++ suffix)) bases.Hexadecimal (length l)) (sym large) (refl, refl))
    prefixed

pub parts_of : (constant : IntegerConstant) (word : List ℕ) → IsInteger constant word → Parts constant word
parts_of constant word is =
    let base = constant.base in
    let suffixed = suffix_bytes is.suffix constant.suffix is.suffixed in
    let split : word ≡ is.prefix ++ (is.digits ++ is.suffix) = is.parts ∙ append_assoc is.prefix is.digits is.suffix in
    let rest : drop (length is.prefix) word ≡ is.digits ++ is.suffix = ap (drop (length is.prefix)) split ∙ drop_at is.prefix (is.digits ++ is.suffix) (length is.prefix) refl in
    let count : prefix_len (is_digit_of base) (drop (length is.prefix) word) ≡ length is.digits =
    prefix_len_at (is_digit_of base) (drop (length is.prefix) word) is.digits is.suffix rest is.all (no_digit_behind base is.suffix suffixed) in
    let front : take (prefix_len (is_digit_of base) (drop (length is.prefix) word)) (drop (length is.prefix) word) ≡ is.digits =
    ap (take (prefix_len (is_digit_of base) (drop (length is.prefix) word))) rest ∙ take_at is.digits is.suffix _ (sym count) in
    let back : drop (prefix_len (is_digit_of base) (drop (length is.prefix) word)) (drop (length is.prefix) word) ≡ is.suffix =
    ap (drop (prefix_len (is_digit_of base) (drop (length is.prefix) word))) rest ∙ drop_at is.digits is.suffix _ (sym count) in
    record {
      start = length is.prefix;
      base = subst (λ l. IsBase l base (length is.prefix)) (sym split) (base_of_parts base is.prefix is.digits is.suffix is.prefixed is.some is.all suffixed);
      some = omega (arith, is.some, count);
      suffix = ap suffix_of back ∙ is.suffixed;
      value = is.value ∙ ap (digits_value (radix base)) (sym front);
      fits = is.fits;
    }

-- a base is one
pub record SameBase (a b : IntegerBase) (n m : ℕ) : Type 0 where
  pub base : a ≡ b
  pub start : n ≡ m

pub same_base : (word : List ℕ) (a b : IntegerBase) (n m : ℕ) → IsBase word a n → IsBase word b m → SameBase a b n m
same_base word bases.Decimal bases.Decimal n m left right = record { base = refl; start = left.0 ∙ sym right.0 }
same_base word bases.Decimal bases.Octal n m left right = absurd (false≢true (sym left.2 ∙ right.2))
same_base word bases.Decimal bases.Hexadecimal n m left right = absurd (false≢true (sym left.1 ∙ right.1))
same_base word bases.Octal bases.Decimal n m left right = absurd (false≢true (sym right.2 ∙ left.2))
same_base word bases.Octal bases.Octal n m left right = record { base = refl; start = left.0 ∙ sym right.0 }
same_base word bases.Octal bases.Hexadecimal n m left right = absurd (false≢true (sym left.1 ∙ right.1))
same_base word bases.Hexadecimal bases.Decimal n m left right = absurd (false≢true (sym right.1 ∙ left.1))
same_base word bases.Hexadecimal bases.Octal n m left right = absurd (false≢true (sym right.1 ∙ left.1))
same_base word bases.Hexadecimal bases.Hexadecimal n m left right = record { base = refl; start = left.0 ∙ sym right.0 }

pub same_some : {A : Type 0} {a b : A} → Some a ≡ Some b → a ≡ b
same_some e = cc

-- one constant is spelled so, at most
pub same_integer : (a b : IntegerConstant) (word : List ℕ) → IsInteger a word → IsInteger b word → a ≡ b
same_integer a b word left right =
    let l = parts_of a word left in
    let r = parts_of b word right in
    let same = same_base word a.base b.base l.start r.start l.base r.base in
    let base : a.base ≡ b.base = same.base in
    let start : l.start ≡ r.start = same.start in
    let suffix : a.suffix ≡ b.suffix =
    same_some (sym l.suffix ∙ (λ i. suffix_of (drop (prefix_len (is_digit_of (base i)) (drop (start i) word)) (drop (start i) word))) ∙ r.suffix) in
    let value : a.value ≡ b.value =
    l.value ∙ (λ i. digits_value (radix (base i)) (take (prefix_len (is_digit_of (base i)) (drop (start i) word)) (drop (start i) word))) ∙ sym r.value in
    λ i. record { value = value i; base = base i; suffix = suffix i }

-- the other way: bytes that have the parts spell the constant
no_hexadecimal_of_one : (a : ℕ) → begins_hexadecimal (a ∷ []) ≡ true → ⊥
no_hexadecimal_of_one a is = false≢true (sym (and_false (eqb a 48) false refl) ∙ is)

hexadecimal_prefix : (a b : ℕ) → (eqb a 48 && (eqb b 120 || eqb b 88)) ≡ true → (a ∷ b ∷ [] ≡ 48 ∷ 120 ∷ []) ⊎ (a ∷ b ∷ [] ≡ 48 ∷ 88 ∷ [])
hexadecimal_prefix a b is =
    let parts = and_parts (eqb a 48) (eqb b 120 || eqb b 88) is in
    let first : a ≡ 48 = eqb-true a 48 parts.0 in
    ⊎_elim
    (λ small. let second : b ≡ 120 = eqb-true b 120 small in inl (λ i. first i ∷ second i ∷ []))
    (λ large. let second : b ≡ 88 = eqb-true b 88 large in inr (λ i. first i ∷ second i ∷ []))
    (or_parts (eqb b 120) (eqb b 88) parts.1)

pub has_prefix : (word : List ℕ) (base : IntegerBase) (n : ℕ) (digits rest : List ℕ) → IsBase word base n → 0 < length digits → list_all (is_digit_of base) digits ≡ true → is_digit (get_or rest 0 0) ≡ false
    → drop n word ≡ digits ++ rest → HasPrefix base (take n word) digits
has_prefix word bases.Decimal n digits rest is some all behind split =
    let same : word ≡ digits ++ rest = ap (λ k. drop k word) (sym is.0) ∙ split in
    (ap (λ k. take k word) is.0, sym (octal_by_digits digits rest some all behind) ∙ sym (ap begins_octal same) ∙ is.2)
has_prefix word bases.Octal n digits rest is some all behind split =
    let same : word ≡ digits ++ rest = ap (λ k. drop k word) (sym is.0) ∙ split in
    (ap (λ k. take k word) is.0, sym (octal_by_digits digits rest some (list_all-weaker is_octal_digit is_digit digits octal_is_digit all) behind) ∙ sym (ap begins_octal same) ∙ is.2)
has_prefix [] bases.Hexadecimal n digits rest is some all behind split = absurd (false≢true is.1)
has_prefix (a ∷ []) bases.Hexadecimal n digits rest is some all behind split = absurd (no_hexadecimal_of_one a is.1)
has_prefix (a ∷ b ∷ more) bases.Hexadecimal n digits rest is some all behind split =
    ⊎_elim
    (λ small. inl (ap (λ k. take k (a ∷ b ∷ more)) is.0 ∙ small))
    (λ large. inr (ap (λ k. take k (a ∷ b ∷ more)) is.0 ∙ large))
    (hexadecimal_prefix a b is.1)

prefix_of : (word : List ℕ) (base : IntegerBase) (n : ℕ) → IsBase word base n → n ≤ length word
prefix_of word bases.Decimal n is = omega (arith, is.0)
prefix_of word bases.Octal n is = omega (arith, is.0)
prefix_of [] bases.Hexadecimal n is = absurd (false≢true is.1)
prefix_of (a ∷ []) bases.Hexadecimal n is = absurd (no_hexadecimal_of_one a is.1)
prefix_of (a ∷ b ∷ rest) bases.Hexadecimal n is = omega (arith, is.0)

module _ (word : List ℕ) (base : IntegerBase) (start count : ℕ) (based : IsBase word base start) (count_is : count ≡ prefix_len (is_digit_of base) (drop start word)) where
  pub integer_found : (constant : IntegerConstant) → constant.base ≡ base → 0 < count → suffix_of (drop count (drop start word)) ≡ Some constant.suffix
      → constant.value ≡ digits_value (radix base) (take count (drop start word)) → constant.value < 2 ^ 128 → IsInteger constant word
  integer_found constant base_is some suffixed value fits =
      let digits = take count (drop start word) in
      let all : list_all (is_digit_of base) digits ≡ true = ap (λ k. list_all (is_digit_of base) (take k (drop start word))) count_is ∙ list_all-take_prefix (is_digit_of base) (drop start word) in
      let size : length digits ≡ count = length-take-le count (drop start word) (omega (arith, count_is, prefix_len-le-length (is_digit_of base) (drop start word))) in
      record {
        prefix = take start word;
        digits = digits;
        suffix = drop count (drop start word);
        parts = sym (take-append-drop start word) ∙ ap (λ l. take start word ++ l) (sym (take-append-drop count (drop start word))) ∙ sym (append_assoc (take start word) digits (drop count (drop start word)));
        prefixed = subst (λ b. HasPrefix b (take start word) digits) (sym base_is) (has_prefix word base start digits (drop count (drop start word)) based (omega arith) all (no_digit_behind bases.Decimal (drop count (drop start word)) (suffix_bytes (drop count (drop start word)) constant.suffix suffixed)) (sym (take-append-drop count (drop start word))));
        some = omega arith;
        all = ap (λ b. list_all (is_digit_of b) digits) base_is ∙ all;
        suffixed = suffixed;
        value = value ∙ ap (λ b. digits_value (radix b) digits) (sym base_is);
        fits = fits;
      }

  -- what any constant that is spelled so has
  pub record Has (constant : IntegerConstant) : Type 0 where
    pub some : 0 < count
    pub suffix : suffix_of (drop count (drop start word)) ≡ Some constant.suffix
    pub small : digits_value (radix base) (take count (drop start word)) < 2 ^ 128

  pub integer_has : (constant : IntegerConstant) → IsInteger constant word → Has constant
  integer_has constant is =
      let parts = parts_of constant word is in
      let same = same_base word constant.base base parts.start start parts.base based in
      let sames : constant.base ≡ base = same.base in
      let starts : parts.start ≡ start = same.start in
      let counts : prefix_len (is_digit_of constant.base) (drop parts.start word) ≡ count = (λ i. prefix_len (is_digit_of (sames i)) (drop (starts i) word)) ∙ sym count_is in
      let value : constant.value ≡ digits_value (radix base) (take count (drop start word)) = parts.value ∙ (λ i. digits_value (radix (sames i)) (take (counts i) (drop (starts i) word))) in
      record {
        some = omega (arith, parts.some, counts);
        suffix = sym (λ i. suffix_of (drop (counts i) (drop (starts i) word))) ∙ parts.suffix;
        small = omega (arith, parts.fits, value);
      }
