-- What is found of a token at the front of some bytes.
use Rattle.std.specs.Prelude.{◌≡◌, ◌≢◌, ℕ, ◌<◌, ◌≤◌, ◌==◌, ◌||◌, Bool, true, false, ◌&&◌, IsTrue, List, ◌∷◌, length}
use Rattle.std.specs.Prelude.{take, drop, slice_index, Result, Ok, Err, ◌⊎◌}
use Rattle.c_lexer.specs.declared.punctuator.Punctuator.{Punctuator}
use Rattle.c_lexer.specs.declared.token.TokenKind.{TokenKind}
use Rattle.c_lexer.specs.declared.scanner.Scanned.{Scanned}
use Rattle.c_lexer.specs.declared.scanner.Unread.{Unread}
use Rattle.c_lexer.specs.declared.keyword.Keyword.{Keyword}
use Rattle.c_lexer.specs.declared.scanner.Unread.TheVariants as unreads
use Rattle.c_lexer.specs.declared.token.TokenKind.TheVariants as kinds
use Rattle.c_lexer.specs.Bytes.{is_bad_byte, is_blank, is_digit, is_letter}
use Rattle.c_lexer.specs.LongestMatch.{Begins}
use Rattle.c_lexer.specs.Directives.{Directive}
use Rattle.c_lexer.specs.Elements.{Comment}

-- no token begins the bytes
abbrev pub NoTokenBegins : List ℕ → Type 0
NoTokenBegins bytes = (kind : TokenKind) (spelling rest : List ℕ) → Begins bytes kind spelling rest → ⊥

-- how bytes begin that no token begins
abbrev pub OpensAs : Unread → List ℕ → Type 0
OpensAs unreads.Byte bytes = (0 < length bytes) × IsTrue (is_bad_byte (slice_index bytes 0))
OpensAs unreads.Comment bytes = (rest : List ℕ) × ((bytes ≡ 47 ∷ 42 ∷ rest) ⊎ (bytes ≡ 47 ∷ 47 ∷ rest))
OpensAs unreads.Text bytes = (rest : List ℕ) × (bytes ≡ 34 ∷ rest)
OpensAs unreads.Number bytes = (b : ℕ) × (rest : List ℕ) × (bytes ≡ b ∷ rest) × IsTrue (is_digit b || (b == 39))
OpensAs unreads.Directive bytes = (rest : List ℕ) × (bytes ≡ 35 ∷ rest)

-- a `#` always begins a token
abbrev pub OpensToken : Unread → List ℕ → Type 0
OpensToken unreads.Byte bytes = OpensAs unreads.Byte bytes
OpensToken unreads.Comment bytes = OpensAs unreads.Comment bytes
OpensToken unreads.Text bytes = OpensAs unreads.Text bytes
OpensToken unreads.Number bytes = OpensAs unreads.Number bytes
OpensToken unreads.Directive bytes = ⊥

-- the token that begins the bytes, or how they begin where none does
abbrev pub IsScanned : List ℕ → Result Scanned Unread → Type 0
IsScanned bytes (Ok scanned) = (scanned.length ≤ length bytes)
    × Begins bytes scanned.kind (take scanned.length bytes) (drop scanned.length bytes)
IsScanned bytes (Err unread) = NoTokenBegins bytes × OpensToken unread bytes

-- a digit begins the bytes, or a point and a digit
abbrev pub begins_number : List ℕ → Bool
begins_number bytes = is_digit (slice_index bytes 0) || ((slice_index bytes 0 == 46) && is_digit (slice_index bytes 1))

-- `/*` or `//` begins the bytes
abbrev pub begins_comment : List ℕ → Bool
begins_comment bytes = (slice_index bytes 0 == 47) && ((slice_index bytes 1 == 42) || (slice_index bytes 1 == 47))

-- no word, number, string, character constant or comment begins the bytes
pub record BeginsOtherwise (bytes : List ℕ) : Type 0 where
  pub some : 0 < length bytes
  pub no_letter : is_letter (slice_index bytes 0) ≡ false
  pub no_number : begins_number bytes ≡ false
  pub no_string : slice_index bytes 0 ≢ 34
  pub no_character : slice_index bytes 0 ≢ 39
  pub no_comment : begins_comment bytes ≡ false
  pub no_blank : is_blank (slice_index bytes 0) ≡ false

-- an identifier or a keyword
abbrev pub is_word_kind : TokenKind → Bool
is_word_kind kinds.Identifier = true
is_word_kind (kinds.Keyword keyword) = true
is_word_kind (kinds.HeaderType type) = false
is_word_kind (kinds.AtomicOperation operation) = false
is_word_kind (kinds.Integer constant) = false
is_word_kind kinds.Floating = false
is_word_kind (kinds.Character constant) = false
is_word_kind kinds.StringLiteral = false
is_word_kind (kinds.Punctuator punctuator) = false
is_word_kind kinds.NullPointer = false

-- whether a token is an identifier
abbrev pub is_identifier : TokenKind → Bool
is_identifier kinds.Identifier = true
is_identifier (kinds.Keyword keyword) = false
is_identifier (kinds.HeaderType type) = false
is_identifier (kinds.AtomicOperation operation) = false
is_identifier (kinds.Integer constant) = false
is_identifier kinds.Floating = false
is_identifier (kinds.Character constant) = false
is_identifier kinds.StringLiteral = false
is_identifier (kinds.Punctuator punctuator) = false
is_identifier kinds.NullPointer = false
