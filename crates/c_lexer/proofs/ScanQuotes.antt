-- Strings and character constants at the front of bytes.
use Rattle.std.proofs.Common.{◌≡◌, ◌≢◌, ℕ, suc, ◌+◌, ◌<◌, ◌≤◌, Bool, true, false, cond, ◌&&◌, ◌||◌, eqb, List, [], ◌∷◌, ◌++◌, length, get_or, take, drop, sym, refl, ap, ◌∙◌, subst, inl, inr, ⊎_elim, arith, append_assoc}
use Rattle.std.specs.List.{prefix_len}
use Rattle.std.proofs.lemmas.Bool.{cases_lt, ne_eqb}
use Rattle.std.proofs.lemmas.Bool.Decides.{nat_tests}
use Rattle.std.proofs.lemmas.List.{length-append, length-take-le, take-append-drop, take_more, drop_more, get_or_at}
use Rattle.std.proofs.lemmas.List.Prefix.{front_reads}
use Rattle.c_lexer.specs.declared.token.CharacterConstant.{CharacterConstant}
use Rattle.c_lexer.specs.declared.token.TokenKind.TheVariants as kinds
use Rattle.c_lexer.specs.declared.scanner.Unread.TheVariants as unreads
use Rattle.c_lexer.specs.Bytes.{is_letter, is_digit, is_string_byte, is_character_byte}
use Rattle.c_lexer.specs.Characters.{IsCharacter}
use Rattle.c_lexer.specs.Strings.{IsString}
use Rattle.c_lexer.specs.Spelling.{IsLexeme}
use Rattle.c_lexer.specs.LongestMatch.{Begins}
use Rattle.c_lexer.specs.Scanning.Tokens.{NoTokenBegins, OpensAs}
use Rattle.c_lexer.proofs.Lists.{first_of_front, prefix_len_at, list_all-take_prefix}
use Rattle.c_lexer.proofs.Classes.{class_of_text}
use Rattle.c_lexer.proofs.Lexemes.{class_is}
use Rattle.c_lexer.proofs.Scans.{scanned, view, OfKind, OfNumber, OfComment, string_by_class, character_by_class, looks_token}

class_with : (text : List ℕ) (a : ℕ) → get_or text 0 0 ≡ a
    → class_of_text text ≡ cond (is_letter a) 0 (cond (is_digit a || (eqb a 46 && is_digit (get_or text 1 0))) 1 (cond (eqb a 34) 2 (cond (eqb a 39) 3 4)))
class_with text a first = ap (λ a. cond (is_letter a) 0 (cond (is_digit a || (eqb a 46 && is_digit (get_or text 1 0))) 1 (cond (eqb a 34) 2 (cond (eqb a 39) 3 4)))) first

class_34 : (text : List ℕ) → get_or text 0 0 ≡ 34 → class_of_text text ≡ 2
class_34 text first = class_with text 34 first

class_39 : (text : List ℕ) → get_or text 0 0 ≡ 39 → class_of_text text ≡ 3
class_39 text first = class_with text 39 first

-- ---- strings

-- the string behind a quote
record ClosesAt (bytes other : List ℕ) : Type 0 where
  pub size : length other ≡ prefix_len is_string_byte bytes + 2
  pub closed : prefix_len is_string_byte bytes < length bytes
  pub quote : get_or bytes (prefix_len is_string_byte bytes) 0 ≡ 34

closes_at : (bytes other others : List ℕ) → 34 ∷ bytes ≡ other ++ others → IsString other → ClosesAt bytes other
closes_at bytes other others split string =
    let inside = string.0 in
    let parts : bytes ≡ inside ++ (34 ∷ others) =
    ap (drop 1) (split ∙ ap (λ l. l ++ others) string.2) ∙ append_assoc inside (34 ∷ []) others in
    let closing = prefix_len_at is_string_byte bytes inside (34 ∷ others) parts string.1 refl in
    record {
      size = omega (arith, closing, ap length string.2, length-append inside (34 ∷ []));
      closed = omega (arith, closing, ap length parts, length-append inside (34 ∷ others));
      quote = ap (λ l. get_or l (prefix_len is_string_byte bytes) 0) parts ∙ get_or_at inside 34 others 0 (prefix_len is_string_byte bytes) (sym closing);
    }

quoted_lexeme : (text : List ℕ) → class_of_text text ≡ 2 → IsLexeme text → IsString text
quoted_lexeme text class lexeme =
    elim (view text lexeme) [
      | OfKind kind spelled is ↦ string_by_class kind text spelled (sym is ∙ class)
      | OfNumber number is ↦ absurd (omega arith)
      | OfComment begins size is ↦ absurd (omega arith)
    ]

string_longest : (bytes other others : List ℕ) → 34 ∷ bytes ≡ other ++ others → IsLexeme other → length other ≤ prefix_len is_string_byte bytes + 2
string_longest bytes other others split lexeme =
    ⊎_elim
    (λ some. omega (arith, (closes_at bytes other others split (quoted_lexeme other (class_34 other (first_of_front (34 ∷ bytes) other others split some)) lexeme)).size))
    (λ none. omega arith)
    (cases_lt 0 (length other))

string_spelled : (bytes : List ℕ) (n : ℕ) → n ≡ prefix_len is_string_byte bytes + 2 → prefix_len is_string_byte bytes < length bytes → get_or bytes (prefix_len is_string_byte bytes) 0 ≡ 34 → IsString (take n (34 ∷ bytes))
string_spelled bytes n size closed quote =
    let m = prefix_len is_string_byte bytes in
    let next : n ≡ suc (m + 1) = omega arith in (
      take m bytes,
      list_all-take_prefix is_string_byte bytes,
      ap (λ k. take k (34 ∷ bytes)) next ∙ ap (λ l. 34 ∷ l) (take_more bytes m 0 closed ∙ ap (λ b. take m bytes ++ b ∷ []) quote),
    )

string_at : (bytes : List ℕ) (n : ℕ) → n ≡ prefix_len is_string_byte bytes + 2 → prefix_len is_string_byte bytes < length bytes → get_or bytes (prefix_len is_string_byte bytes) 0 ≡ 34 → (n ≤ length (34 ∷ bytes)) × Begins (34 ∷ bytes) kinds.StringLiteral (take n (34 ∷ bytes)) (drop n (34 ∷ bytes))
string_at bytes n size closed quote =
    scanned (34 ∷ bytes) n (omega arith) kinds.StringLiteral (string_spelled bytes n size closed quote)
    (λ other others split lexeme. omega (arith, string_longest bytes other others split lexeme))

no_string_at : (bytes : List ℕ) → (prefix_len is_string_byte bytes < length bytes → get_or bytes (prefix_len is_string_byte bytes) 0 ≢ 34) → NoTokenBegins (34 ∷ bytes)
no_string_at bytes no_quote kind spelling rest begins =
    let first = first_of_front (34 ∷ bytes) spelling rest begins.front (looks_token kind spelling begins.spelled).some in
    let closes = closes_at bytes spelling rest begins.front (quoted_lexeme spelling (class_34 spelling first) (inl (kind, begins.spelled))) in
    no_quote closes.closed closes.quote

-- the same at bytes that begin with a quote, where closing is the place of the first byte after it that no string has inside
module _ (bytes : List ℕ) (closing : ℕ) (some : 0 < length bytes) (first : get_or bytes 0 0 ≡ 34) (closing_is : closing ≡ prefix_len is_string_byte (drop 1 bytes) + 1) where
  quoted : bytes ≡ 34 ∷ drop 1 bytes
  quoted = drop_more bytes 0 0 some ∙ ap (λ b. b ∷ drop 1 bytes) first

  rest_length : length bytes ≡ length (drop 1 bytes) + 1
  rest_length = omega (arith, ap length quoted)

  closing_byte : get_or bytes closing 0 ≡ get_or (drop 1 bytes) (prefix_len is_string_byte (drop 1 bytes)) 0
  closing_byte =
      let next : closing ≡ suc (prefix_len is_string_byte (drop 1 bytes)) = omega arith in
      ap (get_or bytes closing) refl ∙ ap (λ l. get_or l closing 0) quoted ∙ ap (λ n. get_or (34 ∷ drop 1 bytes) n 0) next

  pub string_scanned : closing < length bytes → get_or bytes closing 0 ≡ 34 → (closing + 1 ≤ length bytes) × Begins bytes kinds.StringLiteral (take (closing + 1) bytes) (drop (closing + 1) bytes)
  string_scanned closed quote =
      subst (λ l. (closing + 1 ≤ length l) × Begins l kinds.StringLiteral (take (closing + 1) l) (drop (closing + 1) l)) (sym quoted)
      (string_at (drop 1 bytes) (closing + 1) (omega arith) (omega (arith, rest_length)) (sym closing_byte ∙ quote))

  pub no_string_begins : (closing < length bytes → get_or bytes closing 0 ≢ 34) → NoTokenBegins bytes × OpensAs unreads.Text bytes
  no_string_begins no_quote = (
    subst NoTokenBegins (sym quoted) (no_string_at (drop 1 bytes) (λ closed quote. no_quote (omega (arith, rest_length)) (closing_byte ∙ quote))),
    (drop 1 bytes, quoted),
  )

-- ---- character constants

no_backslash : (v : ℕ) → is_character_byte v ≡ true → v ≢ 92
no_backslash v plain slash = grind (arith, nat_tests)

-- the second byte tells how long a character constant is
character_length : (constant : CharacterConstant) (text : List ℕ) → IsCharacter constant text → length text ≡ cond (eqb (get_or text 1 0) 92) 4 3
character_length constant text (inl plain) =
    subst (λ l. length l ≡ cond (eqb (get_or l 1 0) 92) 4 3) (sym plain.1) (sym (ap {B = ℕ} (λ t. cond t 4 3) (ne_eqb constant.value 92 (no_backslash constant.value plain.0))))
character_length constant text (inr escaped) = subst (λ l. length l ≡ cond (eqb (get_or l 1 0) 92) 4 3) (sym escaped.2) refl

three_at_least : (b : Bool) → 3 ≤ cond b 4 3
three_at_least true = omega arith
three_at_least false = omega arith

front_length : (constant : CharacterConstant) (bytes text rest : List ℕ) → bytes ≡ text ++ rest → IsCharacter constant text → length text ≡ cond (eqb (get_or bytes 1 0) 92) 4 3
front_length constant bytes text rest split is =
    let size = character_length constant text is in
    let low = three_at_least (eqb (get_or text 1 0) 92) in
    size ∙ ap {B = ℕ} (λ b. cond (eqb b 92) 4 3) (sym (front_reads 0 bytes text rest split 1 (omega arith)))

character_lexeme : (text : List ℕ) → class_of_text text ≡ 3 → IsLexeme text → (constant : CharacterConstant) × IsCharacter constant text
character_lexeme text class lexeme =
    elim (view text lexeme) [
      | OfKind kind spelled is ↦ character_by_class kind text spelled (sym is ∙ class)
      | OfNumber number is ↦ absurd (omega arith)
      | OfComment begins size is ↦ absurd (omega arith)
    ]

pub character_scanned : (bytes : List ℕ) (n : ℕ) (constant : CharacterConstant) → get_or bytes 0 0 ≡ 39 → n ≤ length bytes → IsCharacter constant (take n bytes) → (n ≤ length bytes) × Begins bytes (kinds.Character constant) (take n bytes) (drop n bytes)
character_scanned bytes n constant first inside is =
    scanned bytes n inside (kinds.Character constant) is
    (λ other others split lexeme.
    ⊎_elim
    (λ some.
    let found = character_lexeme other (class_39 other (first_of_front bytes other others split some ∙ first)) lexeme in
    let one = front_length found.0 bytes other others split found.1 in
    let two = front_length constant bytes (take n bytes) (drop n bytes) (sym (take-append-drop n bytes)) is in
    let three = length-take-le n bytes inside in
    omega arith)
    (λ none. omega arith)
    (cases_lt 0 (length other)))

opens_39 : (bytes : List ℕ) → get_or bytes 0 0 ≡ 39 → 0 < length bytes → OpensAs unreads.Number bytes
opens_39 [] first some = absurd (omega arith)
opens_39 (b ∷ bs) first some = (b, bs, refl, ap (λ n. is_digit n || eqb n 39) first)

pub no_character_begins : (bytes : List ℕ) → get_or bytes 0 0 ≡ 39 → 0 < length bytes → ((constant : CharacterConstant) (front rest : List ℕ) → bytes ≡ front ++ rest → IsCharacter constant front → ⊥)
    → NoTokenBegins bytes × OpensAs unreads.Number bytes
no_character_begins bytes first some none = (
  λ kind spelling rest begins.
      let at = first_of_front bytes spelling rest begins.front (looks_token kind spelling begins.spelled).some in
      let found = character_by_class kind spelling begins.spelled (sym (class_is kind spelling begins.spelled) ∙ class_39 spelling (at ∙ first)) in
      none found.0 spelling rest begins.front found.1,
  opens_39 bytes first some,
)
