-- Which bytes spell a token of each kind (C11 6.4.1 to 6.4.6).
use Rattle.std.specs.Prelude.{◌≡◌, ◌≢◌, ℕ, Bool, false, ◌&&◌, IsTrue, List, [], ◌∷◌, ◌++◌, codes, ◌⊎◌}
use Rattle.std.specs.List.{list_all}
use Rattle.c_lexer.specs.declared.keyword.Keyword.{Keyword}
use Rattle.c_lexer.specs.declared.token.TokenKind.{TokenKind}
use Rattle.c_lexer.specs.declared.token.TokenKind.TheVariants as kinds
use Rattle.c_lexer.specs.Bytes.{is_digit, is_letter, is_word_byte}
use Rattle.c_lexer.specs.Keyword.{keyword_text}
use Rattle.c_lexer.specs.Punctuator.{punctuator_text}
use Rattle.c_lexer.specs.Integers.{IsInteger}
use Rattle.c_lexer.specs.Floating.{IsFloating}
use Rattle.c_lexer.specs.Characters.{IsCharacter}
use Rattle.c_lexer.specs.Strings.{IsString}

-- an identifier or a keyword: a letter, and then letters and digits
abbrev pub is_word : List ℕ → Bool
is_word [] = false
is_word (b ∷ bs) = is_letter b && list_all is_word_byte bs

-- a digit, and then letters and digits
abbrev pub is_number_word : List ℕ → Bool
is_number_word [] = false
is_number_word (b ∷ bs) = is_digit b && list_all is_word_byte bs

-- what begins like a number: a digit and letters and digits behind it, where no floating constant begins
abbrev pub IsNumberLike : List ℕ → Type 0
IsNumberLike bytes = IsTrue (is_number_word bytes)
    × ((front rest : List ℕ) → bytes ≡ front ++ rest → IsFloating front → ⊥)

-- The bytes spell a token of the kind. A name is spelled as an identifier, whatever an include makes of it.
abbrev pub Spells : TokenKind → List ℕ → Type 0
Spells kinds.Identifier bytes = IsTrue (is_word bytes) × ((keyword : Keyword) → bytes ≢ keyword_text keyword)
Spells (kinds.HeaderType type) bytes = ⊥
Spells (kinds.AtomicOperation operation) bytes = ⊥
Spells (kinds.Keyword keyword) bytes = bytes ≡ keyword_text keyword
Spells (kinds.Integer constant) bytes = IsInteger constant bytes
Spells kinds.Floating bytes = IsFloating bytes
Spells (kinds.Character constant) bytes = IsCharacter constant bytes
Spells kinds.StringLiteral bytes = IsString bytes
Spells (kinds.Punctuator punctuator) bytes = bytes ≡ punctuator_text punctuator
Spells kinds.NullPointer bytes = ⊥

-- what longest match compares: each spelling, what begins like a number, be it one or not, and what begins a comment
abbrev pub IsLexeme : List ℕ → Type 0
IsLexeme bytes = ((kind : TokenKind) × Spells kind bytes) ⊎ IsNumberLike bytes ⊎ (bytes ≡ codes "/*")
    ⊎ (bytes ≡ codes "//")
