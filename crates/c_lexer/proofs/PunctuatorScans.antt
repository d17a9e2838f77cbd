-- Punctuators at the front of bytes.
use Rattle.std.proofs.Common.{◌≡◌, ℕ, zero, suc, ◌+◌, ◌<◌, ◌≤◌, Bool, true, false, cond, ◌&&◌, ◌||◌, eqb, leb, List, [], ◌∷◌, ◌++◌, length, get_or, take, drop, Some, None, sym, refl, ap, ◌∙◌, subst, inl, inr, ⊎_elim, arith, ◌⊎◌}
use Rattle.std.specs.Str.{bytes_eq}
use Rattle.std.proofs.lemmas.Bool.{false≢true, cases_lt, cases_eq, eqb-true, ltb-true, leb-true, and_parts}
use Rattle.std.proofs.lemmas.Bool.Decides.{nat_tests}
use Rattle.std.proofs.lemmas.Slice.Eq.{bytes_eq-Decides}
use Rattle.std.proofs.lemmas.List.{take_at}
use Rattle.std.proofs.lemmas.List.Prefix.{front_fits, front_reads}
use Rattle.c_lexer.specs.declared.punctuator.Punctuator.{Punctuator}
use Rattle.c_lexer.specs.declared.punctuator.Punctuator.TheVariants as punctuators
use Rattle.c_lexer.specs.declared.token.TokenKind.{TokenKind}
use Rattle.c_lexer.specs.declared.token.TokenKind.TheVariants as kinds
use Rattle.c_lexer.specs.declared.scanner.Unread.TheVariants as unreads
use Rattle.c_lexer.specs.Bytes.{is_letter, is_digit, is_blank, is_bad_byte}
use Rattle.c_lexer.specs.Scanning.Tokens.{NoTokenBegins, OpensAs, begins_number, begins_comment, BeginsOtherwise}
use Rattle.c_lexer.specs.Scanning.Punctuators.{IsAtFront, punctuators_from}
use Rattle.c_lexer.specs.Punctuator.{punctuator_text}
use Rattle.c_lexer.specs.LongestMatch.{Begins}
use Rattle.c_lexer.proofs.Punctuators.{all_below, all_below-at, place_of, group_of, at_place, in_group, some_text, as_long_before, punctuator_no_comment}
use Rattle.c_lexer.proofs.Lists.{first_of_front}
use Rattle.c_lexer.proofs.Classes.{class_of_text}
use Rattle.c_lexer.proofs.Lexemes.{class_is, digit_begins, or_parts}
use Rattle.c_lexer.proofs.Scans.{scanned, view, OfKind, OfNumber, OfComment, punctuator_by_class, looks_token}

-- ---- the search through all punctuators

any_default : (xs : List Punctuator) (i : ℕ) (d e : Punctuator) → i < length xs → get_or xs i d ≡ get_or xs i e
any_default [] i d e inside = absurd (omega arith)
any_default (x ∷ xs) zero d e inside = refl
any_default (x ∷ xs) (suc i) d e inside = any_default xs i d e (omega arith)

module _ (bytes : List ℕ) (items : List Punctuator) (items_are : items ≡ punctuators_from (get_or bytes 0 0)) where
  -- the group that the first byte names is that of each punctuator that begins the bytes
  group_at : (rest : List ℕ) (punctuator : Punctuator) → bytes ≡ punctuator_text punctuator ++ rest → items ≡ group_of punctuator
  group_at rest punctuator split =
      items_are ∙ ap punctuators_from (sym (first_of_front bytes (punctuator_text punctuator) rest split (ltb-true 0 (length (punctuator_text punctuator)) (some_text punctuator))))

  -- no later one is longer
  pub no_longer : (rest : List ℕ) (i : ℕ) (d other : Punctuator) → bytes ≡ punctuator_text other ++ rest → i ≤ place_of other → length (punctuator_text other) ≤ length (punctuator_text (get_or items i d))
  no_longer rest i d other split later =
      let inside = ltb-true (place_of other) (length (group_of other)) (in_group other) in
      let same : get_or items i d ≡ get_or (group_of other) i other = ap (λ l. get_or l i d) (group_at rest other split) ∙ any_default (group_of other) i d other (omega arith) in
      subst (λ p. length (punctuator_text other) ≤ length (punctuator_text p)) (sym same)
      (leb-true (length (punctuator_text other)) (length (punctuator_text (get_or (group_of other) i other)))
      (all_below-at (suc (place_of other)) (λ k. leb (length (punctuator_text other)) (length (punctuator_text (get_or (group_of other) k other)))) (as_long_before other) i (omega arith)))

  -- one that begins the bytes, and is not the one at a place, stands later
  pub passed_on : (rest : List ℕ) (i : ℕ) (d punctuator : Punctuator) → bytes ≡ punctuator_text punctuator ++ rest → ((more : List ℕ) → bytes ≡ punctuator_text (get_or items i d) ++ more → ⊥) → i ≤ place_of punctuator → i + 1 ≤ place_of punctuator
  passed_on rest i d punctuator split differs passed =
      ⊎_elim
      (λ here.
      let found : get_or items i d ≡ punctuator = ap (λ n. get_or items n d) here ∙ ap (λ l. get_or l (place_of punctuator) d) (group_at rest punctuator split) ∙ at_place punctuator d in
      absurd (differs rest (split ∙ ap (λ p. punctuator_text p ++ rest) (sym found))))
      (λ elsewhere. omega arith)
      (cases_eq i (place_of punctuator))

  -- none stands behind all
  pub none_left : (rest : List ℕ) (i : ℕ) (punctuator : Punctuator) → bytes ≡ punctuator_text punctuator ++ rest → length items ≤ i → i ≤ place_of punctuator → ⊥
  none_left rest i punctuator split all passed =
      omega (arith, all, ap length (group_at rest punctuator split), ltb-true (place_of punctuator) (length (group_of punctuator)) (in_group punctuator), passed)

-- ---- bytes that begin no word, number, string or character constant

-- a text that begins like a number makes the bytes do so
number_of_front : (bytes text rest : List ℕ) → bytes ≡ text ++ rest → begins_number text ≡ true → begins_number bytes ≡ true
number_of_front bytes [] rest split number = absurd (false≢true number)
number_of_front bytes (a ∷ []) rest split number =
    ⊎_elim
    (λ digit. digit_begins bytes (ap (λ l. is_digit (get_or l 0 0)) split ∙ digit))
    (λ point. absurd (false≢true (and_parts (eqb a 46) false point).1))
    (or_parts (is_digit a) (eqb a 46 && false) number)
number_of_front bytes (a ∷ b ∷ text) rest split number = ap begins_number split ∙ number

comment_of_front : (bytes text rest : List ℕ) → bytes ≡ text ++ rest → begins_comment text ≡ true → begins_comment bytes ≡ true
comment_of_front bytes [] rest split begins = absurd (false≢true begins)
comment_of_front bytes (a ∷ []) rest split begins = absurd (false≢true (and_parts (eqb a 47) false begins).1)
comment_of_front bytes (a ∷ b ∷ text) rest split begins = ap begins_comment split ∙ begins

undecided : (b : Bool) → (b ≡ true → ⊥) → b ≡ false
undecided true f = absurd (f refl)
undecided false f = refl

class_other : (text : List ℕ) → is_letter (get_or text 0 0) ≡ false → begins_number text ≡ false → (get_or text 0 0 ≡ 34 → ⊥) → (get_or text 0 0 ≡ 39 → ⊥) → class_of_text text ≡ 4
class_other text letter number quote character =
    ap (λ t. cond t 0 (cond (begins_number text) 1 (cond (eqb (get_or text 0 0) 34) 2 (cond (eqb (get_or text 0 0) 39) 3 4)))) letter
    ∙ ap (λ t. cond t 1 (cond (eqb (get_or text 0 0) 34) 2 (cond (eqb (get_or text 0 0) 39) 3 4))) number
    ∙ ap (λ t. cond t 2 (cond (eqb (get_or text 0 0) 39) 3 4)) (undecided (eqb (get_or text 0 0) 34) (λ e. quote (eqb-true (get_or text 0 0) 34 e)))
    ∙ ap {B = ℕ} (λ t. cond t 3 4) (undecided (eqb (get_or text 0 0) 39) (λ e. character (eqb-true (get_or text 0 0) 39 e)))

module _ (bytes : List ℕ) (begins : BeginsOtherwise bytes) where
  class_of_front : (text rest : List ℕ) → bytes ≡ text ++ rest → 0 < length text → class_of_text text ≡ 4
  class_of_front text rest split some =
      let first = first_of_front bytes text rest split some in
      class_other text (ap is_letter first ∙ begins.no_letter)
      (undecided (begins_number text) (λ number. false≢true (sym begins.no_number ∙ number_of_front bytes text rest split number)))
      (λ quote. begins.no_string (sym first ∙ quote)) (λ character. begins.no_character (sym first ∙ character))

  pub punctuator_scanned : (punctuator : Punctuator) (n : ℕ) → n ≡ length (punctuator_text punctuator) → IsAtFront bytes (Some punctuator)
      → (n ≤ length bytes) × Begins bytes (kinds.Punctuator punctuator) (take n bytes) (drop n bytes)
  punctuator_scanned punctuator n size front =
      let split = front.0.1 in
      scanned bytes n (omega (arith, front_fits bytes (punctuator_text punctuator) front.0.0 split)) (kinds.Punctuator punctuator)
      (ap (take n) split ∙ take_at (punctuator_text punctuator) front.0.0 n (sym size))
      (λ other others divided lexeme.
      ⊎_elim
      (λ some.
      let class = class_of_front other others divided some in
      elim (view other lexeme) [
        | OfKind kind spelled is ↦ let found = punctuator_by_class kind other spelled (sym is ∙ class) in
            omega (arith, front.1 found.0 others (divided ∙ ap (λ l. l ++ others) found.1), ap length found.1)
        | OfNumber number is ↦ absurd (omega arith)
        | OfComment comment length_is is ↦ absurd (false≢true (sym begins.no_comment ∙ comment_of_front bytes other others divided comment))
      ])
      (λ none. omega arith)
      (cases_lt 0 (length other)))

  no_punctuator : IsAtFront bytes None → NoTokenBegins bytes
  no_punctuator none kind spelling rest token =
      let class = class_of_front spelling rest token.front (looks_token kind spelling token.spelled).some in
      let found = punctuator_by_class kind spelling token.spelled (sym (class_is kind spelling token.spelled) ∙ class) in
      none found.0 rest (token.front ∙ ap (λ l. l ++ rest) found.1)

-- the punctuator of one byte, where there is one
abbrev single_at : ℕ → Punctuator
single_at b =
    cond (eqb b 91) punctuators.OpenBracket (cond (eqb b 93) punctuators.CloseBracket (cond (eqb b 40) punctuators.OpenParenthesis (
    cond (eqb b 41) punctuators.CloseParenthesis (cond (eqb b 123) punctuators.OpenBrace (cond (eqb b 125) punctuators.CloseBrace (
    cond (eqb b 46) punctuators.Point (cond (eqb b 38) punctuators.Ampersand (cond (eqb b 42) punctuators.Star (
    cond (eqb b 43) punctuators.Plus (cond (eqb b 45) punctuators.Minus (cond (eqb b 126) punctuators.Tilde (
    cond (eqb b 33) punctuators.Exclamation (cond (eqb b 47) punctuators.Slash (cond (eqb b 37) punctuators.Percent (
    cond (eqb b 60) punctuators.Less (cond (eqb b 62) punctuators.Greater (cond (eqb b 94) punctuators.Caret (
    cond (eqb b 124) punctuators.Bar (cond (eqb b 63) punctuators.Question (cond (eqb b 58) punctuators.Colon (
    cond (eqb b 59) punctuators.Semicolon (cond (eqb b 61) punctuators.Assign (cond (eqb b 44) punctuators.Comma punctuators.Hash)))))))))))))))))))))))

abbrev is_known : ℕ → Bool
is_known b = is_bad_byte b || (is_letter b || (is_digit b || (is_blank b || (eqb b 34 || (eqb b 39 || bytes_eq (punctuator_text (single_at b)) (b ∷ []))))))

known_below : all_below 127 is_known ≡ true
unfolding all_below
known_below = refl

large_is_bad : (b : ℕ) → 127 ≤ b → is_bad_byte b ≡ true
large_is_bad b large = grind (arith, nat_tests)

bad_or_punctuator : (b : ℕ) → is_known b ≡ true → is_letter b ≡ false → is_digit b ≡ false → is_blank b ≡ false → (b ≡ 34 → ⊥) → (b ≡ 39 → ⊥) → (is_bad_byte b ≡ true) ⊎ (bytes_eq (punctuator_text (single_at b)) (b ∷ []) ≡ true)
bad_or_punctuator b known letter digit blank quote character =
    let rest0 = or_parts (is_bad_byte b) _ known in
    ⊎_elim (λ bad. inl bad)
    (λ r1. ⊎_elim (λ yes. absurd (false≢true (sym letter ∙ yes)))
    (λ r2. ⊎_elim (λ yes. absurd (false≢true (sym digit ∙ yes)))
    (λ r3. ⊎_elim (λ yes. absurd (false≢true (sym blank ∙ yes)))
    (λ r4. ⊎_elim (λ yes. absurd (quote (eqb-true b 34 yes)))
    (λ r5. ⊎_elim (λ yes. absurd (character (eqb-true b 39 yes)))
    (λ r6. inr r6)
    (or_parts (eqb b 39) _ r5)) (or_parts (eqb b 34) _ r4)) (or_parts (is_blank b) _ r3)) (or_parts (is_digit b) _ r2)) (or_parts (is_letter b) _ r1))
    rest0

no_digit : (b : ℕ) (bs : List ℕ) → begins_number (b ∷ bs) ≡ false → is_digit b ≡ false
no_digit b bs number = undecided (is_digit b) (λ digit. false≢true (sym number ∙ digit_begins (b ∷ bs) digit))

is_bad_at : (bytes : List ℕ) → BeginsOtherwise bytes → IsAtFront bytes None → is_bad_byte (get_or bytes 0 0) ≡ true
is_bad_at [] begins none = absurd (omega (arith, begins.some))
is_bad_at (b ∷ bs) begins none =
    ⊎_elim
    (λ small.
    ⊎_elim
    (λ bad. bad)
    (λ same. absurd (none (single_at b) bs (ap (λ l. l ++ bs) (sym ((bytes_eq-Decides (punctuator_text (single_at b)) (b ∷ [])).0 same)))))
    (bad_or_punctuator b (all_below-at 127 is_known known_below b small) begins.no_letter (no_digit b bs begins.no_number) begins.no_blank begins.no_string begins.no_character))
    (λ large. large_is_bad b large)
    (cases_lt b 127)

pub no_punctuator_begins : (bytes : List ℕ) → BeginsOtherwise bytes → IsAtFront bytes None → NoTokenBegins bytes × OpensAs unreads.Byte bytes
no_punctuator_begins bytes begins none = (no_punctuator bytes begins none, (begins.some, is_bad_at bytes begins none))

-- ---- comments

class_47 : (text : List ℕ) → get_or text 0 0 ≡ 47 → class_of_text text ≡ 4
class_47 text first = ap (λ a. cond (is_letter a) 0 (cond (is_digit a || (eqb a 46 && is_digit (get_or text 1 0))) 1 (cond (eqb a 34) 2 (cond (eqb a 39) 3 4)))) first

-- the comment's first two bytes
pub opener : (bytes : List ℕ) → begins_comment bytes ≡ true → (rest : List ℕ) × ((bytes ≡ 47 ∷ 42 ∷ rest) ⊎ (bytes ≡ 47 ∷ 47 ∷ rest))
opener [] begins = absurd (false≢true begins)
opener (a ∷ []) begins = absurd (false≢true (and_parts (eqb a 47) false begins).1)
opener (a ∷ b ∷ rest) begins =
    let parts = and_parts (eqb a 47) (eqb b 42 || eqb b 47) begins in
    let first : a ≡ 47 = eqb-true a 47 parts.0 in (
      rest,
      ⊎_elim
          (λ star. let second : b ≡ 42 = eqb-true b 42 star in inl (λ i. first i ∷ second i ∷ rest))
          (λ slash. let second : b ≡ 47 = eqb-true b 47 slash in inr (λ i. first i ∷ second i ∷ rest))
          (or_parts (eqb b 42) (eqb b 47) parts.1),
    )

two_at_least : (bytes : List ℕ) (kind : TokenKind) (spelling rest : List ℕ) → begins_comment bytes ≡ true → Begins bytes kind spelling rest → 2 ≤ length spelling
two_at_least bytes kind spelling rest begins token =
    let open_ = opener bytes begins in
    ⊎_elim
    (λ block. token.longest (47 ∷ 42 ∷ []) open_.0 block (inr (inr (inl refl))))
    (λ line. token.longest (47 ∷ 47 ∷ []) open_.0 line (inr (inr (inr refl))))
    open_.1

pub no_token_at_comment : (bytes : List ℕ) → begins_comment bytes ≡ true → NoTokenBegins bytes
no_token_at_comment bytes begins kind spelling rest token =
    let long = two_at_least bytes kind spelling rest begins token in
    let first = front_reads 0 bytes spelling rest token.front 0 (omega arith) in
    let second = front_reads 0 bytes spelling rest token.front 1 (omega arith) in
    let same : begins_comment spelling ≡ true =
    ap (λ a. eqb a 47 && (eqb (get_or spelling 1 0) 42 || eqb (get_or spelling 1 0) 47)) (sym first)
    ∙ ap (λ b. eqb (get_or bytes 0 0) 47 && (eqb b 42 || eqb b 47)) (sym second) ∙ begins in
    let slash : get_or spelling 0 0 ≡ 47 = eqb-true (get_or spelling 0 0) 47 (and_parts (eqb (get_or spelling 0 0) 47) _ same).0 in
    let found = punctuator_by_class kind spelling token.spelled (sym (class_is kind spelling token.spelled) ∙ class_47 spelling slash) in
    false≢true (sym (punctuator_no_comment found.0) ∙ ap begins_comment (sym found.1) ∙ same)

pub no_token_but_comment : (bytes : List ℕ) → begins_comment bytes ≡ true → NoTokenBegins bytes × OpensAs unreads.Comment bytes
no_token_but_comment bytes begins = (no_token_at_comment bytes begins, opener bytes begins)
