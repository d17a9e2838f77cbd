-- Floating constants at the front of bytes: the longest takes all digits that there are.
use Rattle.std.proofs.Common.{◌≡◌, ℕ, suc, ◌+◌, ◌<◌, ◌≤◌, true, false, cond, List, [], ◌∷◌, ◌++◌, length, get_or, take, drop, sym, refl, ap, ◌∙◌, subst, inl, inr, ⊎_elim, arith, ◌⊎◌}
use Rattle.std.specs.List.{list_all, prefix_len}
use Rattle.std.proofs.lemmas.Bool.{cases_Bool, and_parts}
use Rattle.std.proofs.lemmas.Bool.Decides.{nat_tests}
use Rattle.std.proofs.lemmas.List.{length-take-le, length-drop}
use Rattle.std.proofs.lemmas.List.Sums.{prefix_len-le-length}
use Rattle.c_lexer.specs.declared.token.IntegerBase.{IntegerBase}
use Rattle.c_lexer.specs.Bytes.{is_digit}
use Rattle.c_lexer.specs.Floating.{is_exponent_mark, is_sign, IsExponent}
use Rattle.c_lexer.specs.Scanning.Numbers.{IsLongest}
use Rattle.c_lexer.proofs.Lists.{length-le-prefix_len, list_all-take_prefix}

-- ---- exponents

abbrev pub exponent_start : List ℕ → ℕ
exponent_start bytes = cond (is_sign (get_or bytes 1 0)) 2 1

pub sign_no_digit : (b : ℕ) → is_digit b ≡ true → is_sign b ≡ false
sign_no_digit b digit = grind (arith, nat_tests)

-- an exponent at the front of bytes
pub record ExponentFront (base : IntegerBase) (bytes front : List ℕ) : Type 0 where
  pub marked : is_exponent_mark base (get_or bytes 0 0) ≡ true
  pub some : 0 < prefix_len is_digit (drop (exponent_start bytes) bytes)
  pub size : length front ≤ exponent_start bytes + prefix_len is_digit (drop (exponent_start bytes) bytes)

digits_front : (bytes digits rest : List ℕ) → bytes ≡ digits ++ rest → list_all is_digit digits ≡ true → length digits ≤ prefix_len is_digit bytes
digits_front bytes digits rest split all = length-le-prefix_len is_digit bytes digits rest split all

front_plain : (base : IntegerBase) (m d : ℕ) (digits rest : List ℕ) → is_exponent_mark base m ≡ true → list_all is_digit (d ∷ digits) ≡ true → ExponentFront base (m ∷ d ∷ (digits ++ rest)) (m ∷ d ∷ digits)
front_plain base m d digits rest mark all =
    let fails = sign_no_digit d (and_parts (is_digit d) (list_all is_digit digits) all).0 in
    let start : exponent_start (m ∷ d ∷ (digits ++ rest)) ≡ 1 = ap {B = ℕ} (λ t. cond t 2 1) fails in
    let size = digits_front (d ∷ (digits ++ rest)) (d ∷ digits) rest refl all in
    let behind : prefix_len is_digit (drop (exponent_start (m ∷ d ∷ (digits ++ rest))) (m ∷ d ∷ (digits ++ rest))) ≡ prefix_len is_digit (d ∷ (digits ++ rest)) =
    ap (λ n. prefix_len is_digit (drop n (m ∷ d ∷ (digits ++ rest)))) start in
    record { marked = mark; some = omega (arith, size, behind); size = omega (arith, size, behind, start) }

front_signed : (base : IntegerBase) (m s d : ℕ) (digits rest : List ℕ) → is_exponent_mark base m ≡ true → is_sign s ≡ true → list_all is_digit (d ∷ digits) ≡ true → ExponentFront base (m ∷ s ∷ d ∷ (digits ++ rest)) (m ∷ s ∷ d ∷ digits)
front_signed base m s d digits rest mark sign all =
    let bytes = m ∷ s ∷ d ∷ (digits ++ rest) in
    let start : exponent_start bytes ≡ 2 = ap {B = ℕ} (λ t. cond t 2 1) sign in
    let size = digits_front (d ∷ (digits ++ rest)) (d ∷ digits) rest refl all in
    let behind : prefix_len is_digit (drop (exponent_start bytes) bytes) ≡ prefix_len is_digit (d ∷ (digits ++ rest)) = ap (λ n. prefix_len is_digit (drop n bytes)) start in
    record { marked = mark; some = omega (arith, size, behind); size = omega (arith, size, behind, start) }

front_of : (base : IntegerBase) (m : ℕ) (sign digits rest : List ℕ) → is_exponent_mark base m ≡ true → (sign ≡ []) ⊎ ((b : ℕ) × (is_sign b ≡ true) × (sign ≡ b ∷ [])) → 0 < length digits → list_all is_digit digits ≡ true
    → ExponentFront base ((m ∷ sign ++ digits) ++ rest) (m ∷ sign ++ digits)
front_of base m sign [] rest mark signed some all = absurd (omega arith)
front_of base m sign (d ∷ digits) rest mark signed some all =
    ⊎_elim
    (λ none. subst (λ l. ExponentFront base ((m ∷ l ++ (d ∷ digits)) ++ rest) (m ∷ l ++ (d ∷ digits))) (sym none) (front_plain base m d digits rest mark all))
    (λ one. subst (λ l. ExponentFront base ((m ∷ l ++ (d ∷ digits)) ++ rest) (m ∷ l ++ (d ∷ digits))) (sym one.2) (front_signed base m one.0 d digits rest mark one.1 all))
    signed

pub exponent_front : (base : IntegerBase) (bytes front rest : List ℕ) → bytes ≡ front ++ rest → IsExponent base front → ExponentFront base bytes front
exponent_front base bytes front rest split is =
    subst (λ l. ExponentFront base l front) (sym split)
    (subst (λ l. ExponentFront base (l ++ rest) l) (sym is.parts) (front_of base is.mark is.sign is.digits rest is.marked is.signed is.some is.all))

-- and the other way
exponent_made : (base : IntegerBase) (bytes : List ℕ) (n : ℕ) → is_exponent_mark base (get_or bytes 0 0) ≡ true → 0 < length bytes → n ≡ prefix_len is_digit (drop (exponent_start bytes) bytes) → 0 < n
    → IsExponent base (take (exponent_start bytes + n) bytes)
exponent_made base [] n mark nonempty size some = absurd (omega arith)
exponent_made base (m ∷ []) n mark nonempty size some = absurd (omega (arith, prefix_len-le-length is_digit (drop 1 (m ∷ [])), size))
exponent_made base (m ∷ s ∷ rest) n mark nonempty size some =
    ⊎_elim
    (λ sign.
    let start : exponent_start (m ∷ s ∷ rest) ≡ 2 = ap {B = ℕ} (λ t. cond t 2 1) sign in
    let count : n ≡ prefix_len is_digit rest = size ∙ ap (λ k. prefix_len is_digit (drop k (m ∷ s ∷ rest))) start in
    let next : exponent_start (m ∷ s ∷ rest) + n ≡ suc (suc n) = omega arith in
    record {
      mark = m;
      sign = s ∷ [];
      digits = take n rest;
      parts = ap (λ k. take k (m ∷ s ∷ rest)) next;
      marked = mark;
      signed = inr (s, sign, refl);
      some = omega (arith, length-take-le n rest (omega (arith, count, prefix_len-le-length is_digit rest)));
      all = ap (λ k. list_all is_digit (take k rest)) count ∙ list_all-take_prefix is_digit rest;
    })
    (λ none.
    let start : exponent_start (m ∷ s ∷ rest) ≡ 1 = ap {B = ℕ} (λ t. cond t 2 1) none in
    let count : n ≡ prefix_len is_digit (s ∷ rest) = size ∙ ap (λ k. prefix_len is_digit (drop k (m ∷ s ∷ rest))) start in
    let next : exponent_start (m ∷ s ∷ rest) + n ≡ suc n = omega arith in
    record {
      mark = m;
      sign = [];
      digits = take n (s ∷ rest);
      parts = ap (λ k. take k (m ∷ s ∷ rest)) next;
      marked = mark;
      signed = inl refl;
      some = omega (arith, length-take-le n (s ∷ rest) (omega (arith, count, prefix_len-le-length is_digit (s ∷ rest))));
      all = ap (λ k. list_all is_digit (take k (s ∷ rest))) count ∙ list_all-take_prefix is_digit (s ∷ rest);
    })
    (cases_Bool (is_sign s))

pub exponent_found : (base : IntegerBase) (bytes : List ℕ) (n : ℕ) → is_exponent_mark base (get_or bytes 0 0) ≡ true → 0 < length bytes → exponent_start bytes ≤ length bytes → n ≡ prefix_len is_digit (drop (exponent_start bytes) bytes) → 0 < n
    → IsLongest (IsExponent base) bytes (exponent_start bytes + n)
exponent_found base bytes n mark nonempty inside size some = (
  omega (arith, size, prefix_len-le-length is_digit (drop (exponent_start bytes) bytes), length-drop (exponent_start bytes) bytes),
  λ _. exponent_made base bytes n mark nonempty size some,
  λ front rest split is. omega (arith, (exponent_front base bytes front rest split is).size, size),
)

pub no_exponent : (base : IntegerBase) (bytes : List ℕ) → (is_exponent_mark base (get_or bytes 0 0) ≡ true → 0 < prefix_len is_digit (drop (exponent_start bytes) bytes) → ⊥) → IsLongest (IsExponent base) bytes 0
no_exponent base bytes none = (
  omega arith,
  λ positive. absurd (omega arith),
  λ front rest split is. let at = exponent_front base bytes front rest split is in absurd (none at.marked at.some),
)

pub short_start : (bytes : List ℕ) → length bytes < 2 → 1 ≡ exponent_start bytes
short_start [] short = refl
short_start (a ∷ []) short = refl
short_start (a ∷ b ∷ rest) short = absurd (omega arith)
