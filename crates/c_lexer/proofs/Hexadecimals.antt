-- Floating constants behind `0x`.
use Rattle.std.proofs.Common.{◌≡◌, ◌≢◌, ℕ, suc, ◌+◌, ◌<◌, ◌≤◌, Bool, true, false, ◌&&◌, ◌||◌, eqb, List, [], ◌∷◌, ◌++◌, length, get_or, take, drop, sym, ap, ◌∙◌, inl, inr, ⊎_elim, arith, ◌⊎◌}
use Rattle.std.specs.List.{list_all}
use Rattle.std.proofs.lemmas.Bool.{false≢true, and_parts, eqb-true}
use Rattle.std.proofs.lemmas.Bool.Decides.{nat_tests}
use Rattle.std.proofs.lemmas.List.{length-append}
use Rattle.std.proofs.lemmas.List.Prefix.{front_reads}
use Rattle.c_lexer.specs.declared.token.IntegerBase.TheVariants as bases
use Rattle.c_lexer.specs.Bytes.{is_digit}
use Rattle.c_lexer.specs.Floating.{is_exponent_mark, IsExponent, IsDecimalFloating, IsFloating}
use Rattle.c_lexer.specs.Scanning.Numbers.{IsLongestScaled, begins_hexadecimal}
use Rattle.c_lexer.proofs.Lexemes.{or_parts}

abbrev is_x : ℕ → Bool
is_x b = eqb b 120 || eqb b 88

digit_no_x : (b : ℕ) → is_digit b ≡ true → is_x b ≡ true → ⊥
digit_no_x b digit x = grind (arith, nat_tests)

mark_no_x : (b : ℕ) → is_exponent_mark bases.Decimal b ≡ true → is_x b ≡ true → ⊥
mark_no_x b mark x = grind (arith, nat_tests)

second_x : (text : List ℕ) → begins_hexadecimal text ≡ true → is_x (get_or text 1 0) ≡ true
second_x text is = (and_parts (eqb (get_or text 0 0) 48) (is_x (get_or text 1 0)) is).1

first_zero : (text : List ℕ) → begins_hexadecimal text ≡ true → get_or text 0 0 ≡ 48
first_zero text is = eqb-true (get_or text 0 0) 48 (and_parts (eqb (get_or text 0 0) 48) (is_x (get_or text 1 0)) is).0

-- digits, a point and more, by the first two bytes
no_prefix : (text whole point fraction e x : List ℕ) → text ≡ whole ++ (point ++ (fraction ++ (e ++ x))) → list_all is_digit whole ≡ true → 0 < length whole + length fraction
    → (point ≡ 46 ∷ []) ⊎ ((point ≡ []) × (fraction ≡ [])) → (e ≡ []) ⊎ IsExponent bases.Decimal e → (point ≢ []) ⊎ (e ≢ []) → begins_hexadecimal text ≡ true → ⊥
no_prefix text [] point fraction e x parts digits some pointed exponents marked hex =
    ⊎_elim
    (λ is. omega (arith, first_zero text hex, ap (λ l. get_or l 0 0) parts, ap (λ l. get_or (l ++ (fraction ++ (e ++ x))) 0 0) is))
    (λ none. omega (arith, some, ap length none.1))
    pointed
no_prefix text (a ∷ b ∷ whole) point fraction e x parts digits some pointed exponents marked hex =
    digit_no_x b (and_parts (is_digit b) (list_all is_digit whole) (and_parts (is_digit a) (list_all is_digit (b ∷ whole)) digits).1).0
    (ap (λ l. is_x (get_or l 1 0)) (sym parts) ∙ second_x text hex)
no_prefix text (a ∷ []) point fraction e x parts digits some pointed exponents marked hex =
    ⊎_elim
    (λ is. false≢true (ap (λ l. is_x (get_or (a ∷ (l ++ (fraction ++ (e ++ x)))) 1 0)) (sym is) ∙ ap (λ l. is_x (get_or l 1 0)) (sym parts) ∙ second_x text hex))
    (λ none.
    ⊎_elim
    (λ empty. ⊎_elim (λ some_point. some_point none.0) (λ some_exponent. some_exponent empty) marked)
    (λ is.
    let whole : text ≡ a ∷ ((is.mark ∷ is.sign ++ is.digits) ++ x) = parts ∙ (λ i. a ∷ ((none.0 i) ++ ((none.1 i) ++ ((is.parts i) ++ x)))) in
    mark_no_x is.mark is.marked (ap (λ l. is_x (get_or l 1 0)) (sym whole) ∙ second_x text hex))
    exponents)
    pointed

decimal_no_prefix : (text : List ℕ) → IsDecimalFloating text → begins_hexadecimal text ≡ true → ⊥
decimal_no_prefix text decimal hex =
    let s = decimal.0 in
    no_prefix text s.whole s.point s.fraction s.exponent s.suffix s.parts s.whole_digits s.some s.pointed s.exponents decimal.1 hex

decimal_long : (text : List ℕ) → IsDecimalFloating text → 1 < length text
decimal_long text decimal =
    let s = decimal.0 in
    let size : length text ≡ length s.whole + (length s.point + (length s.fraction + (length s.exponent + length s.suffix))) =
    ap length s.parts ∙ length-append s.whole (s.point ++ (s.fraction ++ (s.exponent ++ s.suffix)))
    ∙ ap (λ n. length s.whole + n) (length-append s.point (s.fraction ++ (s.exponent ++ s.suffix))
    ∙ ap (λ n. length s.point + n) (length-append s.fraction (s.exponent ++ s.suffix) ∙ ap (λ n. length s.fraction + n) (length-append s.exponent s.suffix))) in
    let one : 0 < length s.point + length s.exponent =
    ⊎_elim
    (λ point. ⊎_elim (λ is. omega (arith, ap length is)) (λ none. absurd (point none.0)) s.pointed)
    (λ exponent. ⊎_elim (λ empty. absurd (exponent empty)) (λ is. omega (arith, ap length is.parts)) s.exponents)
    decimal.1 in
    omega (arith, s.some)

front_hexadecimal : (bytes front rest : List ℕ) → bytes ≡ front ++ rest → 1 < length front → begins_hexadecimal bytes ≡ true → begins_hexadecimal front ≡ true
front_hexadecimal bytes front rest split long hex =
    ap (λ a. eqb a 48 && is_x (get_or front 1 0)) (sym (front_reads 0 bytes front rest split 0 (omega arith)))
    ∙ ap (λ b. eqb (get_or bytes 0 0) 48 && is_x b) (sym (front_reads 0 bytes front rest split 1 long)) ∙ hex

no_decimal_front : (bytes front rest : List ℕ) → bytes ≡ front ++ rest → begins_hexadecimal bytes ≡ true → IsDecimalFloating front → ⊥
no_decimal_front bytes front rest split hex decimal = decimal_no_prefix front decimal (front_hexadecimal bytes front rest split (decimal_long front decimal) hex)

-- a hexadecimal front is a prefix and a front of the rest
pub hexadecimal_size : (bytes front rest : List ℕ) (n : ℕ) → bytes ≡ front ++ rest → begins_hexadecimal bytes ≡ true → IsLongestScaled bases.Hexadecimal (drop 2 bytes) n → IsFloating front → (0 < n) × (length front ≤ n + 2)
hexadecimal_size bytes front rest n split hex longest (inl decimal) = absurd (no_decimal_front bytes front rest split hex decimal)
hexadecimal_size bytes front rest n split hex longest (inr is) =
    let tail = is.0 in
    let two : (x : ℕ) × (front ≡ 48 ∷ x ∷ tail) = ⊎_elim (λ small. (120, small)) (λ large. (88, large)) is.1 in
    let behind : drop 2 bytes ≡ tail ++ rest = ap (drop 2) (split ∙ ap (λ l. l ++ rest) two.1) in
    let size = longest.2 tail rest behind (is.2.0, is.2.1) in
    let some : 0 < length tail = omega (arith, is.2.0.some, ap length is.2.0.parts, length-append is.2.0.whole (is.2.0.point ++ (is.2.0.fraction ++ (is.2.0.exponent ++ is.2.0.suffix))), length-append is.2.0.point (is.2.0.fraction ++ (is.2.0.exponent ++ is.2.0.suffix)), length-append is.2.0.fraction (is.2.0.exponent ++ is.2.0.suffix)) in
    (omega arith, omega (arith, size, ap length two.1))

pub hexadecimal_made : (bytes : List ℕ) (n : ℕ) → begins_hexadecimal bytes ≡ true → IsLongestScaled bases.Hexadecimal (drop 2 bytes) n → 0 < n → (n + 2 ≤ length bytes) × IsFloating (take (n + 2) bytes)
hexadecimal_made [] n hex longest some = absurd (false≢true hex)
hexadecimal_made (a ∷ []) n hex longest some = absurd (false≢true (and_parts (eqb a 48) false hex).1)
hexadecimal_made (a ∷ b ∷ rest) n hex longest some =
    let next : n + 2 ≡ suc (suc n) = omega arith in
    let zero_ : a ≡ 48 = first_zero (a ∷ b ∷ rest) hex in
    let scaled = longest.1 some in (
      omega (arith, longest.0),
      inr (
        take n rest,
        ⊎_elim
            (λ small. let x : b ≡ 120 = eqb-true b 120 small in inl (ap (λ k. take k (a ∷ b ∷ rest)) next ∙ (λ i. zero_ i ∷ x i ∷ take n rest)))
            (λ large. let x : b ≡ 88 = eqb-true b 88 large in inr (ap (λ k. take k (a ∷ b ∷ rest)) next ∙ (λ i. zero_ i ∷ x i ∷ take n rest)))
            (or_parts (eqb b 120) (eqb b 88) (second_x (a ∷ b ∷ rest) hex)),
        (scaled.0, scaled.1),
      ),
    )
