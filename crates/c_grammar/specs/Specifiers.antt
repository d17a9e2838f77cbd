-- The words of types (C11 6.7.1 to 6.7.4): those that name an integer type together, and those that are read and
-- ignored.
use denote.Enum.Bare.{sameb}
use Rattle.std.specs.Prelude.{◌≡◌, ℕ, zero, suc, ◌+◌, ◌==◌, Bool, true, false, ◌||◌, List, [], ◌∷◌, Option, Some, None}
use Rattle.std.specs.Prelude.{if◌then◌else◌}
use Rattle.std.specs.Prelude.{option_and_then}
use Rattle.std.specs.List.{list_all}
use Rattle.c_lexer.specs.declared.keyword.Keyword.{Keyword}
use Rattle.c_lexer.specs.declared.keyword.Keyword.TheVariants as words
use Rattle.c_lexer.specs.declared.token.TokenKind.{TokenKind}
use Rattle.c_lexer.specs.declared.token.TokenKind.TheVariants as kinds
use Rattle.c_lexer.specs.declared.punctuator.Punctuator.TheVariants as marks
use Rattle.c_lexer.specs.contracts.keyword.Keyword.{the_type}
use Rattle.c_syntax.specs.declared.specifier.IntegerType.{IntegerType}
use Rattle.c_syntax.specs.declared.specifier.IntegerType.TheVariants as types
use Rattle.c_lexer.specs.declared.header_type.HeaderType.{HeaderType}
use Rattle.c_grammar.specs.Names.{Word, TypedefName, HeaderName, word_of}
use Rattle.c_syntax.specs.declared.name.Name.{Name}
use Rattle.c_grammar.specs.Input.{Input, next, mark, name_of}

-- a word of an integer type
abbrev pub is_integer_word : Keyword → Bool
is_integer_word words.Char = true
is_integer_word words.Short = true
is_integer_word words.Int = true
is_integer_word words.Long = true
is_integer_word words.Signed = true
is_integer_word words.Unsigned = true
is_integer_word _ = false

-- a qualifier that the profile reads and ignores
abbrev pub is_qualifier : Keyword → Bool
is_qualifier words.Const = true
is_qualifier words.Restrict = true
is_qualifier _ = false

-- a word that may stand among those of a type in a declaration, beside it
abbrev pub is_modifier : Keyword → Bool
is_modifier words.Const = true
is_modifier words.Restrict = true
is_modifier words.Inline = true
is_modifier words.Static = true
is_modifier words.Extern = true
is_modifier words.Typedef = true
is_modifier _ = false

-- a word of an integer type or beside one
abbrev pub is_specifier_word : Keyword → Bool
is_specifier_word word = is_integer_word word || is_modifier word

-- how often a word stands in the list
abbrev pub times : Keyword → List Keyword → ℕ
times word [] = 0
times word (other ∷ words) = if sameb the_type word other then 1 + times word words else times word words

-- the words of integer types
abbrev pub integer_words : List Keyword
integer_words =
    words.Char ∷ words.Short ∷ words.Int ∷ words.Long ∷ words.Signed ∷ words.Unsigned ∷ []

-- two lists have the same words of integer types, in whatever order
abbrev pub same_words : List Keyword → List Keyword → Bool
same_words one other = list_all (λ word. times word one == times word other) integer_words

-- how each integer type is written, in one order of its words (C11 6.7.2)
abbrev pub integer_spellings : List (List Keyword × IntegerType)
integer_spellings =
    (words.Char ∷ [], types.Char)
    ∷ (words.Signed ∷ words.Char ∷ [], types.SignedChar)
    ∷ (words.Unsigned ∷ words.Char ∷ [], types.UnsignedChar)
    ∷ (words.Short ∷ [], types.Short)
    ∷ (words.Signed ∷ words.Short ∷ [], types.Short)
    ∷ (words.Short ∷ words.Int ∷ [], types.Short)
    ∷ (words.Signed ∷ words.Short ∷ words.Int ∷ [], types.Short)
    ∷ (words.Unsigned ∷ words.Short ∷ [], types.UnsignedShort)
    ∷ (words.Unsigned ∷ words.Short ∷ words.Int ∷ [], types.UnsignedShort)
    ∷ (words.Int ∷ [], types.Int)
    ∷ (words.Signed ∷ [], types.Int)
    ∷ (words.Signed ∷ words.Int ∷ [], types.Int)
    ∷ (words.Unsigned ∷ [], types.UnsignedInt)
    ∷ (words.Unsigned ∷ words.Int ∷ [], types.UnsignedInt)
    ∷ (words.Long ∷ [], types.Long)
    ∷ (words.Signed ∷ words.Long ∷ [], types.Long)
    ∷ (words.Long ∷ words.Int ∷ [], types.Long)
    ∷ (words.Signed ∷ words.Long ∷ words.Int ∷ [], types.Long)
    ∷ (words.Unsigned ∷ words.Long ∷ [], types.UnsignedLong)
    ∷ (words.Unsigned ∷ words.Long ∷ words.Int ∷ [], types.UnsignedLong)
    ∷ (words.Long ∷ words.Long ∷ [], types.LongLong)
    ∷ (words.Signed ∷ words.Long ∷ words.Long ∷ [], types.LongLong)
    ∷ (words.Long ∷ words.Long ∷ words.Int ∷ [], types.LongLong)
    ∷ (words.Signed ∷ words.Long ∷ words.Long ∷ words.Int ∷ [], types.LongLong)
    ∷ (words.Unsigned ∷ words.Long ∷ words.Long ∷ [], types.UnsignedLongLong)
    ∷ (words.Unsigned ∷ words.Long ∷ words.Long ∷ words.Int ∷ [], types.UnsignedLongLong)
    ∷ []

-- the type of the first spelling that has the same words
abbrev pub type_among : List Keyword → List (List Keyword × IntegerType) → Option IntegerType
type_among list [] = None
type_among list (spelling ∷ spellings) =
    if same_words list spelling.0 then Some spelling.1 else type_among list spellings

-- the integer type that the words name, in whatever order; words that name none are left aside
abbrev pub integer_type : List Keyword → Option IntegerType
integer_type list = type_among list integer_spellings

-- a keyword, and what is left behind it
pub record TakenWord : Type 0 where
  pub word : Keyword
  pub rest : Input

-- a token as a keyword that passes a test
abbrev pub word_by : (Keyword → Bool) → TokenKind → Input → Option TakenWord
word_by test (kinds.Keyword word) rest =
    if test word then Some (record { word = word; rest = rest }) else None
word_by test _ rest = None

-- the keyword that stands next, where it passes the test
unfoldable pub word : (Keyword → Bool) → Input → Option TakenWord
word test input = option_and_then (λ taken. word_by test taken.token.kind taken.rest) (next input)

-- keywords that pass the test, one after another
pub data Words (test : Keyword → Bool) : Input → List Keyword → Input → Type 0 where
  none : {from : Input} → Words test from [] from
  more : {from : Input} {taken : TakenWord} {words : List Keyword} {to : Input} → word test from ≡ Some taken
      → Words test taken.rest words to → Words test from (taken.word ∷ words) to

-- `*`s, each with qualifiers behind it (C11 6.7.6, pointer)
pub data Pointers : Input → ℕ → Input → Type 0 where
  none : {from : Input} → Pointers from zero from
  more : {from behind : Input} {qualifiers : List Keyword} {inner : Input} {count : ℕ} {to : Input}
      → mark marks.Star from ≡ Some behind → Words is_qualifier behind qualifiers inner → Pointers inner count to
      → Pointers from (suc count) to

-- what a token is at the beginning of a type
pub data TypeStart : Type 0 where
  Void : TypeStart
  Boolean : TypeStart
  Struct : TypeStart
  Union : TypeStart
  Enum : TypeStart
  Typedef : Name → TypeStart
  Header : HeaderType → TypeStart
  -- a word of an integer type, or one beside it
  SpecifierWord : TypeStart
  -- it begins none
  NoType : TypeStart

-- what a keyword is there
abbrev pub type_keyword : Keyword → TypeStart
type_keyword words.Void = Void
type_keyword words.Bool = Boolean
type_keyword words.Struct = Struct
type_keyword words.Union = Union
type_keyword words.Enum = Enum
type_keyword word = if is_specifier_word word then SpecifierWord else NoType

-- what a name is there
abbrev pub type_word : Word → Name → TypeStart
type_word TypedefName name = Typedef name
type_word (HeaderName type) name = Header type
type_word _ name = NoType

-- what a token of this kind, which means this as a name, is there
abbrev pub type_by : TokenKind → Word → Name → TypeStart
type_by (kinds.Keyword word) meaning name = type_keyword word
type_by _ meaning name = type_word meaning name

-- the first token of a type, and what is left behind it
pub record TypeStarted : Type 0 where
  pub start : TypeStart
  pub rest : Input

-- what the next token is as the first one of a type
unfoldable pub type_start : Input → Option TypeStarted
type_start input = option_and_then (λ taken. Some (record {
  start = type_by taken.token.kind (word_of input.names taken.token) (name_of taken.token);
  rest = taken.rest;
})) (next input)
