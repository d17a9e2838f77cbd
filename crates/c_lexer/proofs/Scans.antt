-- What a scan finds is the token that begins the bytes.
use Rattle.std.proofs.Common.{◌≡◌, ℕ, ◌<◌, ◌≤◌, Bool, true, false, not, ◌&&◌, ◌||◌, eqb, ltb, List, [], ◌∷◌, ◌++◌, length, get_or, take, drop, sym, refl, ap, ◌∙◌, subst, inl, inr, ⊎_elim, arith, ◌⊎◌}
use Rattle.std.specs.List.{list_all, prefix_len}
use Rattle.std.proofs.lemmas.Bool.{and_from, and_parts, false≢true, cases_lt, ltb-true, eqb-true, not-true}
use Rattle.std.proofs.lemmas.Bool.Decides.{nat_tests}
use Rattle.std.proofs.lemmas.List.{length-take-le, take-append-drop, get_or-take, take-append-le}
use Rattle.std.proofs.lemmas.List.Prefix.{front_reads}
use Rattle.std.proofs.lemmas.List.Sums.{prefix_len-le-length, prefix_len_stops}
use Rattle.c_lexer.specs.declared.punctuator.Punctuator.{Punctuator}
use Rattle.c_lexer.specs.declared.token.CharacterConstant.{CharacterConstant}
use Rattle.c_lexer.specs.declared.token.IntegerConstant.{IntegerConstant}
use Rattle.c_lexer.specs.declared.token.TokenKind.{TokenKind}
use Rattle.c_lexer.specs.declared.token.TokenKind.TheVariants as kinds
use Rattle.c_lexer.specs.Bytes.{is_letter, is_digit, is_word_byte, is_blank}
use Rattle.c_lexer.specs.Punctuator.{punctuator_text}
use Rattle.c_lexer.specs.Integers.{IsInteger}
use Rattle.c_lexer.specs.Floating.{IsFloating}
use Rattle.c_lexer.specs.Characters.{IsCharacter}
use Rattle.c_lexer.specs.Strings.{IsString}
use Rattle.c_lexer.specs.Spelling.{is_word, IsNumberLike, Spells, IsLexeme}
use Rattle.c_lexer.specs.LongestMatch.{Begins}
use Rattle.c_lexer.specs.Scanning.Tokens.{begins_number, begins_comment}
use Rattle.c_lexer.specs.Scanning.Numbers.{IsLongest}
use Rattle.c_lexer.proofs.Keywords.{is_word-keyword_text}
use Rattle.c_lexer.proofs.Punctuators.{punctuator_looks}
use Rattle.c_lexer.proofs.Lists.{first_of_front, length-le-prefix_len, list_all-take_prefix}
use Rattle.c_lexer.proofs.Classes.{class_of_text}
use Rattle.c_lexer.proofs.Lexemes.{letter_is_word_byte, is_word_bytes, is_word_first, is_number_word_first, looks_integer, integer_number_like, class_of_kind, class_is, class_of_letter, class_of_number, digit_begins, floating_begins, or_parts}

-- the front of some bytes, as long as n
pub scanned : (bytes : List ℕ) (n : ℕ) → n ≤ length bytes → (kind : TokenKind) → Spells kind (take n bytes) → ((other others : List ℕ) → bytes ≡ other ++ others → IsLexeme other → length other ≤ n)
    → (n ≤ length bytes) × Begins bytes kind (take n bytes) (drop n bytes)
scanned bytes n inside kind spelled longest = (
  inside,
  record {
    front = sym (take-append-drop n bytes);
    spelled = spelled;
    longest = λ other others split lexeme. subst (λ m. length other ≤ m) (sym (length-take-le n bytes inside)) (longest other others split lexeme);
  },
)

-- what a lexeme is, by its class
pub data View (text : List ℕ) : Type 0 where
  OfKind : (kind : TokenKind) → Spells kind text → class_of_text text ≡ class_of_kind kind → View text
  OfNumber : IsNumberLike text → class_of_text text ≡ 1 → View text
  OfComment : begins_comment text ≡ true → length text ≡ 2 → class_of_text text ≡ 4 → View text

pub view : (text : List ℕ) → IsLexeme text → View text
view text (inl spelled) = OfKind spelled.0 spelled.1 (class_is spelled.0 text spelled.1)
view text (inr (inl number)) = OfNumber number (class_of_number text (digit_begins text (is_number_word_first text number.0)))
view text (inr (inr (inl block))) = OfComment (ap begins_comment block) (ap length block) (ap class_of_text block)
view text (inr (inr (inr line))) = OfComment (ap begins_comment line) (ap length line) (ap class_of_text line)

-- the kinds of each class
pub word_by_class : (kind : TokenKind) (text : List ℕ) → Spells kind text → class_of_kind kind ≡ 0 → list_all is_word_byte text ≡ true
word_by_class kinds.Identifier text spelled class = is_word_bytes text spelled.0
word_by_class (kinds.Keyword keyword) text spelled class = is_word_bytes text (ap is_word spelled ∙ is_word-keyword_text keyword)
word_by_class (kinds.Integer constant) text spelled class = absurd (omega arith)
word_by_class kinds.Floating text spelled class = absurd (omega arith)
word_by_class (kinds.Character constant) text spelled class = absurd (omega arith)
word_by_class kinds.StringLiteral text spelled class = absurd (omega arith)
word_by_class (kinds.Punctuator punctuator) text spelled class = absurd (omega arith)
word_by_class kinds.NullPointer text spelled class = absurd (omega arith)
word_by_class (kinds.HeaderType type) text spelled class = absurd (omega arith)
word_by_class (kinds.AtomicOperation operation) text spelled class = absurd (omega arith)

pub number_by_class : (kind : TokenKind) (text : List ℕ) → Spells kind text → class_of_kind kind ≡ 1 → ((constant : IntegerConstant) × IsInteger constant text) ⊎ IsFloating text
number_by_class kinds.Identifier text spelled class = absurd (omega arith)
number_by_class (kinds.Keyword keyword) text spelled class = absurd (omega arith)
number_by_class (kinds.Integer constant) text spelled class = inl (constant, spelled)
number_by_class kinds.Floating text spelled class = inr spelled
number_by_class (kinds.Character constant) text spelled class = absurd (omega arith)
number_by_class kinds.StringLiteral text spelled class = absurd (omega arith)
number_by_class (kinds.Punctuator punctuator) text spelled class = absurd (omega arith)
number_by_class kinds.NullPointer text spelled class = absurd (omega arith)
number_by_class (kinds.HeaderType type) text spelled class = absurd (omega arith)
number_by_class (kinds.AtomicOperation operation) text spelled class = absurd (omega arith)

pub string_by_class : (kind : TokenKind) (text : List ℕ) → Spells kind text → class_of_kind kind ≡ 2 → IsString text
string_by_class kinds.Identifier text spelled class = absurd (omega arith)
string_by_class (kinds.Keyword keyword) text spelled class = absurd (omega arith)
string_by_class (kinds.Integer constant) text spelled class = absurd (omega arith)
string_by_class kinds.Floating text spelled class = absurd (omega arith)
string_by_class (kinds.Character constant) text spelled class = absurd (omega arith)
string_by_class kinds.StringLiteral text spelled class = spelled
string_by_class (kinds.Punctuator punctuator) text spelled class = absurd (omega arith)
string_by_class kinds.NullPointer text spelled class = absurd (omega arith)
string_by_class (kinds.HeaderType type) text spelled class = absurd (omega arith)
string_by_class (kinds.AtomicOperation operation) text spelled class = absurd (omega arith)

pub character_by_class : (kind : TokenKind) (text : List ℕ) → Spells kind text → class_of_kind kind ≡ 3 → (constant : CharacterConstant) × IsCharacter constant text
character_by_class kinds.Identifier text spelled class = absurd (omega arith)
character_by_class (kinds.Keyword keyword) text spelled class = absurd (omega arith)
character_by_class (kinds.Integer constant) text spelled class = absurd (omega arith)
character_by_class kinds.Floating text spelled class = absurd (omega arith)
character_by_class (kinds.Character constant) text spelled class = (constant, spelled)
character_by_class kinds.StringLiteral text spelled class = absurd (omega arith)
character_by_class (kinds.Punctuator punctuator) text spelled class = absurd (omega arith)
character_by_class kinds.NullPointer text spelled class = absurd (omega arith)
character_by_class (kinds.HeaderType type) text spelled class = absurd (omega arith)
character_by_class (kinds.AtomicOperation operation) text spelled class = absurd (omega arith)

pub punctuator_by_class : (kind : TokenKind) (text : List ℕ) → Spells kind text → class_of_kind kind ≡ 4 → (punctuator : Punctuator) × (text ≡ punctuator_text punctuator)
punctuator_by_class kinds.Identifier text spelled class = absurd (omega arith)
punctuator_by_class (kinds.Keyword keyword) text spelled class = absurd (omega arith)
punctuator_by_class (kinds.Integer constant) text spelled class = absurd (omega arith)
punctuator_by_class kinds.Floating text spelled class = absurd (omega arith)
punctuator_by_class (kinds.Character constant) text spelled class = absurd (omega arith)
punctuator_by_class kinds.StringLiteral text spelled class = absurd (omega arith)
punctuator_by_class (kinds.Punctuator punctuator) text spelled class = (punctuator, spelled)
punctuator_by_class kinds.NullPointer text spelled class = absurd (omega arith)
punctuator_by_class (kinds.HeaderType type) text spelled class = absurd (omega arith)
punctuator_by_class (kinds.AtomicOperation operation) text spelled class = absurd (omega arith)

-- a token has a byte at least, and begins with no blank
pub record LooksToken (text : List ℕ) : Type 0 where
  pub some : 0 < length text
  pub no_blank : is_blank (get_or text 0 0) ≡ false

some_by_first : (p : ℕ → Bool) (text : List ℕ) → p 0 ≡ false → p (get_or text 0 0) ≡ true → 0 < length text
some_by_first p [] fails passes = absurd (false≢true (sym fails ∙ passes))
some_by_first p (b ∷ bs) fails passes = omega arith

letter_no_blank : (b : ℕ) → is_letter b ≡ true → is_blank b ≡ false
letter_no_blank b letter = grind (arith, nat_tests)

number_no_blank : (a b : ℕ) → (is_digit a || (eqb a 46 && is_digit b)) ≡ true → is_blank a ≡ false
number_no_blank a b number = grind (arith, nat_tests)

looks_word : (text : List ℕ) → is_word text ≡ true → LooksToken text
looks_word text word = record { some = some_by_first is_letter text refl (is_word_first text word); no_blank = letter_no_blank (get_or text 0 0) (is_word_first text word) }

pub some_number : (text : List ℕ) → begins_number text ≡ true → 0 < length text
some_number [] number = absurd (false≢true number)
some_number (b ∷ bs) number = omega arith

looks_number : (text : List ℕ) → begins_number text ≡ true → LooksToken text
looks_number text number = record { some = some_number text number; no_blank = number_no_blank (get_or text 0 0) (get_or text 1 0) number }

looks_character : (constant : CharacterConstant) (text : List ℕ) → IsCharacter constant text → LooksToken text
looks_character constant text (inl plain) = subst LooksToken (sym plain.1) (record { some = omega arith; no_blank = refl })
looks_character constant text (inr escaped) = subst LooksToken (sym escaped.2) (record { some = omega arith; no_blank = refl })

looks_punctuator : (punctuator : Punctuator) → LooksToken (punctuator_text punctuator)
looks_punctuator punctuator =
    let text = punctuator_text punctuator in
    let looks = punctuator_looks punctuator in
    let a = and_parts (ltb 0 (length text) && not (is_word_byte (get_or text 0 0)) && not (eqb (get_or text 0 0) 34) && not (eqb (get_or text 0 0) 39) && not (is_blank (get_or text 0 0))) _ looks in
    let b = and_parts (ltb 0 (length text) && not (is_word_byte (get_or text 0 0)) && not (eqb (get_or text 0 0) 34) && not (eqb (get_or text 0 0) 39)) _ a.0 in
    let c = and_parts (ltb 0 (length text) && not (is_word_byte (get_or text 0 0)) && not (eqb (get_or text 0 0) 34)) _ b.0 in
    let d = and_parts (ltb 0 (length text) && not (is_word_byte (get_or text 0 0))) _ c.0 in
    let e = and_parts (ltb 0 (length text)) _ d.0 in
    record { some = ltb-true 0 (length text) e.0; no_blank = not-true (is_blank (get_or text 0 0)) b.1 }

pub looks_token : (kind : TokenKind) (text : List ℕ) → Spells kind text → LooksToken text
looks_token kinds.Identifier text spelled = looks_word text spelled.0
looks_token (kinds.Keyword keyword) text spelled = looks_word text (ap is_word spelled ∙ is_word-keyword_text keyword)
looks_token (kinds.Integer constant) text spelled = looks_number text (digit_begins text (looks_integer constant text spelled).first)
looks_token kinds.Floating text spelled = looks_number text (floating_begins text spelled)
looks_token (kinds.Character constant) text spelled = looks_character constant text spelled
looks_token kinds.StringLiteral text spelled = subst LooksToken (sym spelled.2) (record { some = omega arith; no_blank = refl })
looks_token (kinds.Punctuator punctuator) text spelled = subst LooksToken (sym spelled) (looks_punctuator punctuator)
looks_token kinds.NullPointer text spelled = absurd spelled
looks_token (kinds.HeaderType type) text spelled = absurd spelled
looks_token (kinds.AtomicOperation operation) text spelled = absurd spelled

-- ---- words

pub prefix_some : (p : ℕ → Bool) (bytes : List ℕ) → 0 < length bytes → p (get_or bytes 0 0) ≡ true → 0 < prefix_len p bytes
prefix_some p bytes some passes =
    ⊎_elim (λ positive. positive)
    (λ none.
    let zero : prefix_len p bytes ≡ 0 = omega arith in
    let stops : p (get_or bytes (prefix_len p bytes) 0) ≡ false = prefix_len_stops p bytes 0 (omega arith) in
    absurd (false≢true (sym stops ∙ ap (λ n. p (get_or bytes n 0)) zero ∙ passes)))
    (cases_lt 0 (prefix_len p bytes))

word_lexeme : (text : List ℕ) → class_of_text text ≡ 0 → IsLexeme text → list_all is_word_byte text ≡ true
word_lexeme text class lexeme =
    elim (view text lexeme) [
      | OfKind kind spelled is ↦ word_by_class kind text spelled (sym is ∙ class)
      | OfNumber number is ↦ absurd (omega arith)
      | OfComment begins size is ↦ absurd (omega arith)
    ]

pub record WordFront (bytes : List ℕ) (n : ℕ) : Type 0 where
  pub inside : n ≤ length bytes
  pub all : list_all is_word_byte (take n bytes) ≡ true

pub word_front : (bytes : List ℕ) (n : ℕ) → n ≡ prefix_len is_word_byte bytes → WordFront bytes n
word_front bytes n size = record {
  inside = omega (arith, size, prefix_len-le-length is_word_byte bytes);
  all = ap (λ m. list_all is_word_byte (take m bytes)) size ∙ list_all-take_prefix is_word_byte bytes;
}

word_from_parts : (text : List ℕ) → 0 < length text → is_letter (get_or text 0 0) ≡ true → list_all is_word_byte text ≡ true → is_word text ≡ true
word_from_parts [] some letter all = absurd (omega arith)
word_from_parts (b ∷ bs) some letter all = and_from (is_letter b) (list_all is_word_byte bs) letter (and_parts (is_word_byte b) (list_all is_word_byte bs) all).1

pub word_at_front : (bytes : List ℕ) (n : ℕ) → n ≡ prefix_len is_word_byte bytes → 0 < length bytes → is_letter (get_or bytes 0 0) ≡ true → is_word (take n bytes) ≡ true
word_at_front bytes n size some letter =
    let positive = prefix_some is_word_byte bytes some (letter_is_word_byte (get_or bytes 0 0) letter) in
    let front = word_front bytes n size in
    word_from_parts (take n bytes) (omega (arith, size, length-take-le n bytes front.inside)) (ap is_letter (get_or-take n bytes 0 0 (omega (arith, size))) ∙ letter) front.all

pub word_longest : (bytes : List ℕ) (n : ℕ) → n ≡ prefix_len is_word_byte bytes → is_letter (get_or bytes 0 0) ≡ true → (other others : List ℕ) → bytes ≡ other ++ others → IsLexeme other → length other ≤ n
word_longest bytes n size letter other others split lexeme =
    ⊎_elim
    (λ some.
    let class = class_of_letter other (ap is_letter (first_of_front bytes other others split some) ∙ letter) in
    omega (arith, size, length-le-prefix_len is_word_byte bytes other others split (word_lexeme other class lexeme)))
    (λ none. omega arith)
    (cases_lt 0 (length other))

pub word_scanned : (bytes : List ℕ) (n : ℕ) (kind : TokenKind) → n ≡ prefix_len is_word_byte bytes → is_letter (get_or bytes 0 0) ≡ true → Spells kind (take n bytes) → (n ≤ length bytes) × Begins bytes kind (take n bytes) (drop n bytes)
word_scanned bytes n kind size letter spelled = scanned bytes n (word_front bytes n size).inside kind spelled (word_longest bytes n size letter)

-- ---- numbers

-- what a lexeme at the front of bytes that begin like a number is
pub data NumberView (text : List ℕ) : Type 0 where
  Like : IsNumberLike text → NumberView text
  Float : IsFloating text → NumberView text
  Short : length text ≤ 1 → NumberView text

number_front_class : (bytes text rest : List ℕ) → begins_number bytes ≡ true → bytes ≡ text ++ rest → 1 < length text → begins_number text ≡ true
number_front_class bytes text rest number split long =
    ap (λ a. is_digit a || (eqb a 46 && is_digit (get_or text 1 0))) (sym (front_reads 0 bytes text rest split 0 (omega arith)))
    ∙ ap (λ b. is_digit (get_or bytes 0 0) || (eqb (get_or bytes 0 0) 46 && is_digit b)) (sym (front_reads 0 bytes text rest split 1 long)) ∙ number

number_by_view : (text : List ℕ) → class_of_text text ≡ 1 → IsLexeme text → NumberView text
number_by_view text class lexeme =
    elim (view text lexeme) [
      | OfKind kind spelled is ↦ ⊎_elim (λ integer. Like (integer_number_like text (looks_integer integer.0 text integer.1))) (λ floating. Float floating) (number_by_class kind text spelled (sym is ∙ class))
      | OfNumber number is ↦ Like number
      | OfComment begins size is ↦ absurd (omega arith)
    ]

pub number_view : (bytes text rest : List ℕ) → begins_number bytes ≡ true → bytes ≡ text ++ rest → IsLexeme text → NumberView text
number_view bytes text rest number split lexeme =
    ⊎_elim
    (λ long. number_by_view text (class_of_number text (number_front_class bytes text rest number split long)) lexeme)
    (λ short. Short short)
    (cases_lt 1 (length text))

-- a front of a front
pub shorter_front : (bytes other others : List ℕ) (n : ℕ) → bytes ≡ other ++ others → n ≤ length other → other ≡ take n bytes ++ drop n other
shorter_front bytes other others n split inside =
    sym (take-append-drop n other) ∙ ap (λ l. l ++ drop n other) (sym (ap (take n) split ∙ take-append-le n other others inside))

pub floating_scanned : (bytes : List ℕ) (n : ℕ) → begins_number bytes ≡ true → 0 < n → IsLongest IsFloating bytes n → (n ≤ length bytes) × Begins bytes kinds.Floating (take n bytes) (drop n bytes)
floating_scanned bytes n number positive longest =
    scanned bytes n longest.0 kinds.Floating (longest.1 positive)
    (λ other others split lexeme.
    elim (number_view bytes other others number split lexeme) [
      | Like like ↦ ⊎_elim (λ more. absurd (like.1 (take n bytes) (drop n other) (shorter_front bytes other others n split (omega arith)) (longest.1 positive))) (λ less. less) (cases_lt n (length other))
      | Float floating ↦ longest.2 other others split floating
      | Short short ↦ omega arith
    ])

-- where no floating constant begins, a digit does
pub point_digit : (a b : ℕ) → (is_digit a || (eqb a 46 && is_digit b)) ≡ true → is_digit a ≡ false → (a ≡ 46) × (is_digit b ≡ true)
point_digit a b number fails =
    ⊎_elim
    (λ digit. absurd (false≢true (sym fails ∙ digit)))
    (λ point. let parts = and_parts (eqb a 46) (is_digit b) point in (eqb-true a 46 parts.0, parts.1))
    (or_parts (is_digit a) (eqb a 46 && is_digit b) number)
