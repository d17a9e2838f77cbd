-- Words, pointers and what begins a type: what is related is read.
use denote.Enum.Bare.{sameb, same_true}
use Rattle.std.proofs.Common.{◌≡◌, ℕ, zero, suc, ◌≤◌, ◌<◌, ◌||◌, Bool, true, false, List, [], ◌∷◌, Option, Some, None, sym, refl, ap, ◌∙◌, arith}
use Rattle.std.specs.List.{list_any}
use Rattle.std.proofs.lemmas.Bool.{false≢true}
use Rattle.std.proofs.lemmas.Option.{none-some, same_Some}
use Rattle.c_lexer.specs.declared.keyword.Keyword.{Keyword}
use Rattle.c_lexer.specs.declared.keyword.Keyword.TheVariants as words
use Rattle.c_lexer.specs.declared.token.TokenKind.{TokenKind}
use Rattle.c_lexer.specs.declared.token.TokenKind.TheVariants as kinds
use Rattle.c_lexer.specs.declared.punctuator.Punctuator.{Punctuator}
use Rattle.c_lexer.specs.declared.punctuator.Punctuator.TheVariants as marks
use Rattle.c_lexer.specs.contracts.keyword.Keyword.{the_type}
use Rattle.c_syntax.specs.declared.specifier.IntegerType.{IntegerType}
use Rattle.c_grammar.specs.declared.names.NameEntry.{NameEntry}
use Rattle.c_grammar.specs.Names.{Word, TypedefName, HeaderName, OperationName, OrdinaryName, NoName, declared_word, meaning_of, word_by, word_of}
use Rattle.c_syntax.specs.declared.name.Name.{Name}
use Rattle.c_grammar.specs.Input.{Input, Taken, next, mark, name_of}
use Rattle.c_grammar.specs.Operators as operators
use Rattle.c_grammar.specs.Operators.{Start, Started, start, start_by, start_word, start_mark}
use Rattle.c_grammar.specs.Specifiers as types
use Rattle.c_grammar.specs.Specifiers.{TakenWord, TypeStart, TypeStarted, is_integer_word, is_modifier, is_qualifier, is_specifier_word, times, integer_type, word, Words, Pointers, type_keyword, type_word, type_by, type_start}
use Rattle.c_grammar.specs.Reading.{turns, words_from, pointers_from, pointers, begins_type, is_type}
use Rattle.c_grammar.specs.Reading as reading
use Rattle.std.proofs.lemmas.Option.{some_pair_parts}
use Rattle.c_grammar.proofs.Steps.{into, into_if, into_onward, into_either}
use Rattle.c_grammar.proofs.Terminals.{mark-turns, word-turns, no_word_at_mark, begins, marked, begins_as_type}

-- ---- words

pub words-turns : {test : Keyword → Bool} {from : Input} {words : List Keyword} {to : Input} → Words test from words to → turns to ≤ turns from
words-turns types.Words.none = omega arith
words-turns {test} (types.Words.more {from = from} {taken = taken} w others) =
    omega (arith, word-turns test from taken w, words-turns others)

words-read_from : {test : Keyword → Bool} {from : Input} {words : List Keyword} {to : Input} → Words test from words to
    → word test to ≡ None → (left : ℕ) → turns from < left → words_from test left from ≡ Some (words, to)
unfolding words_from
words-read_from types.Words.none ends zero h = absurd (omega (arith, h))
words-read_from types.Words.none ends (suc left) h = rw ends refl
words-read_from (types.Words.more w others) ends zero h = absurd (omega (arith, h))
words-read_from {test} (types.Words.more {from = from} {taken = taken} w others) ends (suc left) h =
    rw (w, words-read_from others ends left (omega (arith, word-turns test from taken w))) refl

pub words-read : {test : Keyword → Bool} {from : Input} {words : List Keyword} {to : Input} → Words test from words to
    → word test to ≡ None → reading.words test from ≡ Some (words, to)
unfolding reading.words
words-read {from = from} w ends = words-read_from w ends (suc (turns from)) (omega arith)

-- what is known of a word that was taken
word_by-passes : (test : Keyword → Bool) (kind : TokenKind) (rest : Input) (taken : TakenWord) → types.word_by test kind rest ≡ Some taken
    → (kind ≡ kinds.Keyword taken.word) × (rest ≡ taken.rest) × (test taken.word ≡ true)
word_by-passes test (kinds.Keyword w) rest taken e = into_if (test w) _ _ taken e
    (λ passes some. let same = same_Some _ taken some in (
      ap (λ (t : TakenWord). kinds.Keyword t.word) same,
      ap (λ (t : TakenWord). t.rest) same,
      ap (λ (t : TakenWord). test t.word) (sym same) ∙ passes,
    ))
    (λ _ none. absurd (none-some taken none))
word_by-passes test _ rest taken e = absurd (none-some taken e)

pub record WordNext (from : Input) (found : TakenWord) : Type 0 where
  pub taken : Taken
  pub next : next from ≡ Some taken
  pub kind : taken.token.kind ≡ kinds.Keyword found.word
  pub rest : taken.rest ≡ found.rest

pub word_next : (test : Keyword → Bool) (from : Input) (found : TakenWord) → word test from ≡ Some found → WordNext from found
unfolding word
word_next test from found e = into _ (next from) found e λ taken is more.
    let parts = word_by-passes test taken.token.kind taken.rest found more in
    record { taken = taken; next = is; kind = parts.0; rest = parts.1 }

pub word-passes : (test : Keyword → Bool) (from : Input) (found : TakenWord) → word test from ≡ Some found → test found.word ≡ true
unfolding word
word-passes test from found e = into _ (next from) found e λ taken is more.
    (word_by-passes test taken.token.kind taken.rest found more).2

-- a word that passes another test too
pub word-other : (one other : Keyword → Bool) (from : Input) (found : TakenWord) → word one from ≡ Some found → other found.word ≡ true
    → word other from ≡ Some found
unfolding word
word-other one other from found e passes = let n = word_next one from found e in
    rw (n.next, n.kind, passes, n.rest) refl

pub none_too : {A : Type 0} (o : Option A) → ((found : A) → o ≡ Some found → ⊥) → o ≡ None
none_too None absent = refl
none_too (Some found) absent = absurd (absent found refl)

-- where no word passes a test, none passes a narrower one
pub no-other : (one other : Keyword → Bool) (from : Input) → ((w : Keyword) → one w ≡ true → other w ≡ true) → word other from ≡ None
    → word one from ≡ None
no-other one other from wider none = none_too (word one from) λ found e.
    none-some found (sym none ∙ word-other one other from found e (wider found.word (word-passes one from found e)))

-- a word is no punctuator
pub no_mark_at_word : (p : Punctuator) (test : Keyword → Bool) (from : Input) (found : TakenWord) → word test from ≡ Some found → mark p from ≡ None
unfolding mark
no_mark_at_word p test from found e = let n = word_next test from found e in rw (n.next, n.kind) refl

pub modifier-specifier : (w : Keyword) → is_modifier w ≡ true → is_specifier_word w ≡ true
modifier-specifier words.Const e = refl
modifier-specifier words.Restrict e = refl
modifier-specifier words.Inline e = refl
modifier-specifier words.Static e = refl
modifier-specifier words.Extern e = refl
modifier-specifier words.Typedef e = refl
modifier-specifier _ e = absurd (false≢true e)

pub qualifier-specifier : (w : Keyword) → is_qualifier w ≡ true → is_specifier_word w ≡ true
qualifier-specifier words.Const e = refl
qualifier-specifier words.Restrict e = refl
qualifier-specifier _ e = absurd (false≢true e)

modifier-integer : (w : Keyword) → is_modifier w ≡ true → is_integer_word w ≡ false
modifier-integer words.Const e = refl
modifier-integer words.Restrict e = refl
modifier-integer words.Inline e = refl
modifier-integer words.Static e = refl
modifier-integer words.Extern e = refl
modifier-integer words.Typedef e = refl
modifier-integer _ e = absurd (false≢true e)

-- a specifier word is of an integer type or a modifier
specifier-modifier : (w : Keyword) → is_specifier_word w ≡ true → is_integer_word w ≡ false → is_modifier w ≡ true
specifier-modifier w known none = rw none at known

-- modifiers are specifier words, and none of an integer type
pub modifiers-words : {from : Input} {words : List Keyword} {to : Input} → Words is_modifier from words to → Words is_specifier_word from words to
modifiers-words types.Words.none = types.Words.none
modifiers-words (types.Words.more {from = from} {taken = taken} w others) =
    types.Words.more (word-other is_modifier is_specifier_word from taken w
    (modifier-specifier taken.word (word-passes is_modifier from taken w))) (modifiers-words others)

pub modifiers-no_integer : {from : Input} {words : List Keyword} {to : Input} → Words is_modifier from words to → list_any is_integer_word words ≡ false
modifiers-no_integer types.Words.none = refl
modifiers-no_integer (types.Words.more {from = from} {taken = taken} w others) =
    rw (modifier-integer taken.word (word-passes is_modifier from taken w), modifiers-no_integer others) refl

-- ---- words that name an integer type

either_false : (a b : Bool) → (a || b) ≡ false → (a ≡ false) × (b ≡ false)
either_false true b e = absurd (false≢true (sym e))
either_false false b e = (refl, e)

times-zero : (w : Keyword) → is_integer_word w ≡ true → (list : List Keyword) → list_any is_integer_word list ≡ false → times w list ≡ 0
times-zero w known [] none = refl
times-zero w known (x ∷ list) none =
    let parts = either_false (is_integer_word x) (list_any is_integer_word list) none in
    differs (sameb the_type w x) refl parts (times-zero w known list parts.1)
  where
    differs : (b : Bool) → sameb the_type w x ≡ b → (is_integer_word x ≡ false) × (list_any is_integer_word list ≡ false)
        → times w list ≡ 0 → times w (x ∷ list) ≡ 0
    differs true same parts others = absurd (false≢true (sym parts.0 ∙ ap is_integer_word (sym (same_true the_type tt w x same)) ∙ known))
    differs false other parts others = rw (other, others) refl

none_named : (list : List Keyword) → list_any is_integer_word list ≡ false → integer_type list ≡ None
none_named list none = rw (
  times-zero words.Char refl list none,
  times-zero words.Short refl list none,
  times-zero words.Int refl list none,
  times-zero words.Long refl list none,
  times-zero words.Signed refl list none,
  times-zero words.Unsigned refl list none,
) refl

pub some_named : (list : List Keyword) (type : IntegerType) → integer_type list ≡ Some type → list_any is_integer_word list ≡ true
some_named list type e = by_flag (list_any is_integer_word list) refl
  where
    by_flag : (b : Bool) → list_any is_integer_word list ≡ b → b ≡ true
    by_flag true same = refl
    by_flag false same = absurd (none-some type (sym (none_named list same) ∙ e))

-- ---- pointers

pub pointers-turns : {from : Input} {count : ℕ} {to : Input} → Pointers from count to → turns to ≤ turns from
pointers-turns types.Pointers.none = omega arith
pointers-turns (types.Pointers.more {from = from} {behind = behind} m w others) =
    omega (arith, mark-turns _ from behind m, words-turns w, pointers-turns others)

no_qualifier : {from : Input} {count : ℕ} {to : Input} → Pointers from count to → word is_qualifier to ≡ None → word is_qualifier from ≡ None
no_qualifier types.Pointers.none ends = ends
no_qualifier (types.Pointers.more {from = from} {behind = behind} m w others) ends = no_word_at_mark _ is_qualifier from behind m

pointers-read_from : {from : Input} {count : ℕ} {to : Input} → Pointers from count to → mark marks.Star to ≡ None
    → word is_qualifier to ≡ None → (left : ℕ) → turns from < left → pointers_from left from ≡ Some (count, to)
unfolding pointers_from
pointers-read_from types.Pointers.none no_star ends zero h = absurd (omega (arith, h))
pointers-read_from types.Pointers.none no_star ends (suc left) h = rw no_star refl
pointers-read_from (types.Pointers.more m w others) no_star ends zero h = absurd (omega (arith, h))
pointers-read_from (types.Pointers.more {from = from} {behind = behind} m w others) no_star ends (suc left) h =
    rw (
      m,
      words-read w (no_qualifier others ends),
      pointers-read_from others no_star ends left
          (omega (arith, mark-turns _ from behind m, words-turns w)),
    ) refl

pub pointers-read : {from : Input} {count : ℕ} {to : Input} → Pointers from count to → mark marks.Star to ≡ None
    → word is_qualifier to ≡ None → pointers from ≡ Some (count, to)
unfolding pointers
pointers-read {from} p no_star ends = pointers-read_from p no_star ends (suc (turns from)) (omega arith)

-- ---- what begins a type begins no expression

-- whether it begins an expression
abbrev pub is_start : Start → Bool
is_start operators.Nothing = false
is_start _ = true

word_apart : (meaning : Word) (name : Name) → is_start (start_word meaning name.text) ≡ true → is_type (type_word meaning name) ≡ false
word_apart OrdinaryName name e = refl
word_apart (OperationName operation) name e = refl
word_apart TypedefName name e = absurd (false≢true e)
word_apart (HeaderName type) name e = absurd (false≢true e)
word_apart NoName name e = absurd (false≢true e)

starts_apart : (entries : List NameEntry) (kind : TokenKind) (name : Name)
    → is_start (start_by kind (word_by entries kind name.text) name.text) ≡ true
    → is_type (type_by kind (word_by entries kind name.text) name) ≡ false
starts_apart entries (kinds.Keyword words.Sizeof) name e = refl
starts_apart entries (kinds.Keyword words.Alignof) name e = refl
starts_apart entries (kinds.Keyword _) name e = absurd (false≢true e)
starts_apart entries kinds.Identifier name e = word_apart (declared_word (meaning_of entries name.text) OrdinaryName) name e
starts_apart entries (kinds.HeaderType type) name e = word_apart (declared_word (meaning_of entries name.text) (HeaderName type)) name e
starts_apart entries (kinds.AtomicOperation operation) name e =
    word_apart (declared_word (meaning_of entries name.text) (OperationName operation)) name e
starts_apart entries _ name e = refl

pub no_type_at_start : (from : Input) (started : Started) → start from ≡ Some started → is_start started.start ≡ true → begins_type from ≡ false
unfolding begins_type type_start
no_type_at_start from started e known = let b = begins from started e in
    rw b.next (starts_apart from.names b.taken.token.kind (name_of b.taken.token) (ap is_start b.start ∙ known))

-- a punctuator that begins no expression
pub no_mark_at_start : (p : Punctuator) (from : Input) (started : Started) → start from ≡ Some started → is_start started.start ≡ true
    → is_start (start_mark p) ≡ false → mark p from ≡ None
no_mark_at_start p from started e known other = none_too (mark p from) λ to m.
    let b = begins from started e in
    let n = marked p from to m in
    let same = same_Some b.taken n.taken (sym b.next ∙ n.next) in
    let kind : b.taken.token.kind ≡ kinds.Punctuator p = ap (λ (t : Taken). t.token.kind) same ∙ n.kind in
    let begin : start_by (kinds.Punctuator p) (word_of from.names b.taken.token) b.taken.token.text ≡ started.start =
    ap (λ k. start_by k (word_of from.names b.taken.token) b.taken.token.text) (sym kind) ∙ b.start in
    false≢true (sym other ∙ ap is_start begin ∙ known)

keyword_type : (w : Keyword) → is_specifier_word w ≡ true → is_type (type_keyword w) ≡ true
keyword_type words.Char e = refl
keyword_type words.Short e = refl
keyword_type words.Int e = refl
keyword_type words.Long e = refl
keyword_type words.Signed e = refl
keyword_type words.Unsigned e = refl
keyword_type words.Const e = refl
keyword_type words.Restrict e = refl
keyword_type words.Inline e = refl
keyword_type words.Static e = refl
keyword_type words.Extern e = refl
keyword_type words.Typedef e = refl
keyword_type _ e = absurd (false≢true e)

-- a specifier word begins a type
pub type_at_word : (from : Input) (found : TakenWord) → word is_specifier_word from ≡ Some found → begins_type from ≡ true
unfolding begins_type type_start
type_at_word from found e = let n = word_next is_specifier_word from found e in
    rw (n.next, n.kind) (keyword_type found.word (word-passes is_specifier_word from found e))

pub type_at : (from : Input) (started : TypeStarted) → type_start from ≡ Some started → is_type started.start ≡ true → begins_type from ≡ true
unfolding begins_type
type_at from started e known = rw e known

-- whether it begins a type that is no word among others
abbrev pub is_single : TypeStart → Bool
is_single types.SpecifierWord = false
is_single types.NoType = false
is_single _ = true

no_specifier_word : (kind : TokenKind) (meaning : Word) (name : Name) (rest : Input) → is_single (type_by kind meaning name) ≡ true
    → types.word_by is_specifier_word kind rest ≡ None
no_specifier_word (kinds.Keyword words.Void) meaning name rest e = refl
no_specifier_word (kinds.Keyword words.Bool) meaning name rest e = refl
no_specifier_word (kinds.Keyword words.Struct) meaning name rest e = refl
no_specifier_word (kinds.Keyword words.Union) meaning name rest e = refl
no_specifier_word (kinds.Keyword words.Enum) meaning name rest e = refl
no_specifier_word (kinds.Keyword _) meaning name rest e = absurd (false≢true e)
no_specifier_word _ meaning name rest e = refl

-- what begins a single type is no specifier word
pub no_word_at_single : (from : Input) (started : TypeStarted) → type_start from ≡ Some started → is_single started.start ≡ true
    → word is_specifier_word from ≡ None
unfolding word
no_word_at_single from started e known = let b = begins_as_type from started e in
    rw b.next (no_specifier_word b.taken.token.kind (word_of from.names b.taken.token) (name_of b.taken.token) b.taken.rest
    (ap is_single b.start ∙ known))

-- ---- what is read is related

words-sound_from : (test : Keyword → Bool) (left : ℕ) (from : Input) (words : List Keyword) (to : Input)
    → words_from test left from ≡ Some (words, to) → Words test from words to
unfolding words_from
words-sound_from test zero from list to e = absurd (none-some _ e)
words-sound_from test (suc left) from list to e = into_either (word test from) _ _ _ e
    (λ none same. let parts = some_pair_parts [] list from to same in rw (← parts.0, ← parts.1) types.Words.none)
    (λ taken w found. into_onward (words_from test left taken.rest) _ _ found λ others end known same.
    let parts = some_pair_parts (taken.word ∷ others) list end to same in
    rw (← parts.0, ← parts.1) (types.Words.more w (words-sound_from test left taken.rest others end known)))

pub words-sound : (test : Keyword → Bool) (from : Input) (words : List Keyword) (to : Input)
    → reading.words test from ≡ Some (words, to) → Words test from words to
unfolding reading.words
words-sound test from list to e = words-sound_from test (suc (turns from)) from list to e

pointers-sound_from : (left : ℕ) (from : Input) (count : ℕ) (to : Input) → pointers_from left from ≡ Some (count, to) → Pointers from count to
unfolding pointers_from
pointers-sound_from zero from count to e = absurd (none-some _ e)
pointers-sound_from (suc left) from count to e = into_either (mark marks.Star from) _ _ _ e
    (λ none same. let parts = some_pair_parts 0 count from to same in rw (← parts.0, ← parts.1) types.Pointers.none)
    (λ inner m found. into_onward (reading.words is_qualifier inner) _ _ found λ qualifiers rest w more.
    into_onward (pointers_from left rest) _ _ more λ less end known same.
    let parts = some_pair_parts (suc less) count end to same in
    rw (← parts.0, ← parts.1) (types.Pointers.more m (words-sound is_qualifier inner qualifiers rest w)
    (pointers-sound_from left rest less end known)))

pub pointers-sound : (from : Input) (count : ℕ) (to : Input) → pointers from ≡ Some (count, to) → Pointers from count to
unfolding pointers
pointers-sound from count to e = pointers-sound_from (suc (turns from)) from count to e

-- words without one of an integer type are modifiers
pub words-modifiers : {from : Input} {words : List Keyword} {to : Input} → Words is_specifier_word from words to
    → list_any is_integer_word words ≡ false → Words is_modifier from words to
words-modifiers types.Words.none none = types.Words.none
words-modifiers (types.Words.more {from = from} {taken = taken} {words = others} w behind) none =
    let parts = either_false (is_integer_word taken.word) (list_any is_integer_word others) none in
    types.Words.more (word-other is_specifier_word is_modifier from taken w
    (specifier-modifier taken.word (word-passes is_specifier_word from taken w) parts.0)) (words-modifiers behind parts.1)
