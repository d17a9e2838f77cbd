-- Integer constants at the front of bytes, where no floating constant begins.
use Rattle.std.proofs.Common.{◌≡◌, ℕ, ◌<◌, ◌≤◌, Bool, true, false, ◌&&◌, ◌||◌, eqb, List, [], ◌∷◌, ◌++◌, length, get_or, take, drop, sym, refl, ap, ◌∙◌, subst, inl, inr, ⊎_elim, arith, append_assoc}
use Rattle.std.specs.List.{prefix_len}
use Rattle.std.proofs.lemmas.Bool.{false≢true}
use Rattle.std.proofs.lemmas.List.{length-take-le, take-append-drop, get_or-take}
use Rattle.c_lexer.specs.declared.token.IntegerConstant.{IntegerConstant}
use Rattle.c_lexer.specs.declared.token.TokenKind.TheVariants as kinds
use Rattle.c_lexer.specs.declared.scanner.Unread.TheVariants as unreads
use Rattle.c_lexer.specs.Bytes.{is_digit, is_word_byte}
use Rattle.c_lexer.specs.Integers.{IsInteger}
use Rattle.c_lexer.specs.Floating.{IsFloating}
use Rattle.c_lexer.specs.Spelling.{IsNumberLike, IsLexeme}
use Rattle.c_lexer.specs.LongestMatch.{Begins}
use Rattle.c_lexer.specs.Scanning.Tokens.{NoTokenBegins, begins_number, OpensAs}
use Rattle.c_lexer.proofs.Lists.{same_fronts, first_of_front, length-le-prefix_len}
use Rattle.c_lexer.proofs.Lexemes.{digit_is_word_byte, is_number_word_bytes, number_word_from, integer_bytes, looks_integer, class_is, class_of_number, digit_begins, floating_begins}
use Rattle.c_lexer.proofs.Scans.{scanned, Like, Float, Short, number_view, number_by_class, point_digit, some_number, prefix_some, word_front}

-- a point and a digit are a floating constant
point_is_floating : (d : ℕ) → is_digit d ≡ true → IsFloating (46 ∷ d ∷ [])
point_is_floating d digit = inl (
  record {
    whole = [];
    point = 46 ∷ [];
    fraction = d ∷ [];
    exponent = [];
    suffix = [];
    parts = refl;
    whole_digits = refl;
    fraction_digits = ap (λ t. t && true) digit;
    some = omega arith;
    pointed = inl refl;
    exponents = inl refl;
    suffixed = inl refl;
  },
  inl (λ e. cc),
)

decided : (b : Bool) → (b ≡ false → b ≡ true) → b ≡ true
decided true f = refl
decided false f = f refl

opens : (bytes : List ℕ) → is_digit (get_or bytes 0 0) ≡ true → 0 < length bytes → OpensAs unreads.Number bytes
opens [] digit some = absurd (omega arith)
opens (b ∷ bs) digit some = (b, bs, refl, ap (λ t. t || eqb b 39) digit)

first_is_digit : (bytes : List ℕ) → begins_number bytes ≡ true → ((front rest : List ℕ) → bytes ≡ front ++ rest → IsFloating front → ⊥) → is_digit (get_or bytes 0 0) ≡ true
first_is_digit [] number none = absurd (false≢true number)
first_is_digit (a ∷ []) number none = decided (is_digit a) (λ fails. absurd (false≢true (point_digit a 0 number fails).1))
first_is_digit (a ∷ b ∷ rest) number none =
    decided (is_digit a) (λ fails.
    let point = point_digit a b number fails in
    absurd (none (46 ∷ b ∷ []) rest (ap (λ n. n ∷ b ∷ rest) point.0) (point_is_floating b point.1)))

module _ (bytes : List ℕ) (n : ℕ) (number : begins_number bytes ≡ true) (none : (front rest : List ℕ) → bytes ≡ front ++ rest → IsFloating front → length front ≤ 0) (size : n ≡ prefix_len is_word_byte bytes) where
  no_floating : (front rest : List ℕ) → bytes ≡ front ++ rest → IsFloating front → ⊥
  no_floating front rest split floating = omega (arith, none front rest split floating, some_number front (floating_begins front floating))

  digit : is_digit (get_or bytes 0 0) ≡ true
  digit = first_is_digit bytes number no_floating

  positive : 0 < n
  positive = omega (arith, size, prefix_some is_word_byte bytes (some_number bytes number) (digit_is_word_byte (get_or bytes 0 0) digit))

  inside : n ≤ length bytes
  inside = (word_front bytes n size).inside

  number_like : IsNumberLike (take n bytes)
  number_like = (
    number_word_from (take n bytes) (omega (arith, positive, length-take-le n bytes inside)) (ap is_digit (get_or-take n bytes 0 0 positive) ∙ digit) (word_front bytes n size).all,
    λ front rest split floating.
        no_floating front (rest ++ drop n bytes) (sym (take-append-drop n bytes) ∙ ap (λ l. l ++ drop n bytes) split ∙ append_assoc front rest (drop n bytes)) floating,
  )

  longest : (other others : List ℕ) → bytes ≡ other ++ others → IsLexeme other → length other ≤ n
  longest other others split lexeme =
      elim (number_view bytes other others number split lexeme) [
        | Like like ↦ omega (arith, size, length-le-prefix_len is_word_byte bytes other others split (is_number_word_bytes other like.0))
        | Float floating ↦ omega (arith, none other others split floating)
        | Short short ↦ omega (arith, positive)
      ]

  pub integer_scanned : (constant : IntegerConstant) → IsInteger constant (take n bytes) → (n ≤ length bytes) × Begins bytes (kinds.Integer constant) (take n bytes) (drop n bytes)
  integer_scanned constant is = scanned bytes n inside (kinds.Integer constant) is longest

  pub no_number_begins : ((constant : IntegerConstant) → IsInteger constant (take n bytes) → ⊥) → NoTokenBegins bytes
  no_number_begins no_integer kind spelling rest begins =
      let long = begins.longest (take n bytes) (drop n bytes) (sym (take-append-drop n bytes)) (inr (inl number_like)) in
      let size_n = length-take-le n bytes inside in
      let some : 0 < length spelling = omega (arith, positive) in
      let begin : begins_number spelling ≡ true = digit_begins spelling (ap is_digit (first_of_front bytes spelling rest begins.front some) ∙ digit) in
      ⊎_elim
      (λ integer.
      let short = length-le-prefix_len is_word_byte bytes spelling rest begins.front (integer_bytes spelling (looks_integer integer.0 spelling integer.1)) in
      let lengths : length spelling ≡ length (take n bytes) = omega (arith, size, long, short, size_n) in
      let same = same_fronts spelling rest (take n bytes) (drop n bytes) (sym begins.front ∙ sym (take-append-drop n bytes)) lengths in
      no_integer integer.0 (subst (IsInteger integer.0) same.0 integer.1))
      (λ floating. no_floating spelling rest begins.front floating)
      (number_by_class kind spelling begins.spelled (sym (class_is kind spelling begins.spelled) ∙ class_of_number spelling begin))

  pub opens_number : OpensAs unreads.Number bytes
  opens_number = opens bytes digit (some_number bytes number)
