-- The tokens of a file, or its lexical fault: it has one or the other.
use Rattle.std.specs.Prelude.{◌≡◌, ℕ, ◌<◌, ◌≤◌, ◌==◌, ◌||◌, IsTrue, List, [], ◌∷◌, length, slice_index, ◌⊎◌}
use Rattle.rc_text.specs.Places.{place_after}
use Rattle.c_lexer.specs.declared.fault.LexFaultKind.{LexFaultKind}
use Rattle.c_lexer.specs.declared.fault.LexFaultKind.TheVariants.{BadByte, OpenComment, OpenString, BadNumber}
use Rattle.c_lexer.specs.declared.fault.LexFaultKind.TheVariants.{Directive}
use Rattle.c_lexer.specs.declared.fault.LexFault.{LexFault}
use Rattle.c_lexer.specs.Bytes.{is_bad_byte, is_digit}
use Rattle.c_lexer.specs.Directives.{HasName}
use Rattle.c_lexer.specs.TokenLists.{TokenLists}
use Rattle.c_lexer.specs.Elements.{Element, AreBeforeLine, bytes_of, AreElements, NoElementBegins, tokens_of}
use Rattle.c_lexer.specs.Elements.{includes_of}

-- the elements of the whole file give these tokens and includes, and its end is the place that follows all bytes
abbrev pub AreTokensOf : List ℕ → TokenLists → Type 0
AreTokensOf bytes lists =
    (elements : List Element) × AreElements bytes elements []
    × (lists ≡ record {
      tokens = tokens_of elements;
      includes = includes_of elements (place_after bytes);
      end = place_after bytes;
    })

-- What the bytes at which no element begins begin with: a bad byte, `/*`, a double quote, a digit or a quote, or a `#`.
-- The first such place in a file is its fault.
abbrev pub Opens : LexFaultKind → List ℕ → Type 0
Opens BadByte bytes = (0 < length bytes) × IsTrue (is_bad_byte (slice_index bytes 0))
Opens OpenComment bytes = (rest : List ℕ) × (bytes ≡ 47 ∷ 42 ∷ rest)
Opens OpenString bytes = (rest : List ℕ) × (bytes ≡ 34 ∷ rest)
Opens BadNumber bytes = (b : ℕ) × (rest : List ℕ) × (bytes ≡ b ∷ rest) × IsTrue (is_digit b || (b == 39))
Opens (Directive name) bytes = (rest : List ℕ) × (bytes ≡ 35 ∷ rest) × HasName rest name

-- behind these elements no further one begins
pub record IsFaultAfter (bytes : List ℕ) (fault : LexFault) (elements : List Element) (rest : List ℕ) : Type 0 where
  pub are : AreElements bytes elements rest
  pub stops : NoElementBegins (AreBeforeLine elements) rest
  pub opens : Opens fault.kind rest
  pub place : fault.place ≡ place_after (bytes_of elements)

-- the file has this fault
abbrev pub IsFaultOf : List ℕ → LexFault → Type 0
IsFaultOf bytes fault = (elements : List Element) × (rest : List ℕ) × IsFaultAfter bytes fault elements rest

-- the most tokens that a file may have
abbrev pub token_limit : ℕ
token_limit = 200000

-- a file has tokens, as many as it may have or more, or a fault, and then no other one
abbrev pub HasReading : List ℕ → Type 0
HasReading bytes =
    ((tokens : TokenLists) × AreTokensOf bytes tokens × (length tokens.tokens ≤ token_limit))
    ⊎ ((tokens : TokenLists) × AreTokensOf bytes tokens × (token_limit < length tokens.tokens))
    ⊎ ((fault : LexFault) × IsFaultOf bytes fault × ((other : LexFault) → IsFaultOf bytes other → other ≡ fault))
