-- Which bytes are a character constant, and its value (C11 6.4.4.4).
use Rattle.std.specs.Prelude.{◌≡◌, ℕ, ◌==◌, ◌||◌, IsTrue, List, [], ◌∷◌, ◌⊎◌, Option, Some, None, if◌then◌else◌}
use Rattle.c_lexer.specs.declared.token.CharacterConstant.{CharacterConstant}
use Rattle.c_lexer.specs.Bytes.{is_character_byte}

-- the value of the byte behind a backslash
abbrev pub escape_of : ℕ → Option ℕ
escape_of b =
    if b == 48 then Some 0  -- 0
    else if b == 110 then Some 10  -- n
    else if b == 116 then Some 9  -- t
    else if b == 114 then Some 13  -- r
    else if (b == 92) || (b == 39) || (b == 34) then Some b  -- a backslash, a quote, a double quote
    else None

-- a character constant: between quotes one character, or a backslash and what escapes
abbrev pub IsCharacter : CharacterConstant → List ℕ → Type 0
IsCharacter constant bytes =
    (IsTrue (is_character_byte constant.value) × (bytes ≡ 39 ∷ constant.value ∷ 39 ∷ []))
    ⊎ ((b : ℕ) × (escape_of b ≡ Some constant.value) × (bytes ≡ 39 ∷ 92 ∷ b ∷ 39 ∷ []))
