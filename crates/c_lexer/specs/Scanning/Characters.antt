-- What is found of a character constant at the front of some bytes.
use Rattle.std.specs.Prelude.{◌≡◌, ℕ, ◌≤◌, List, ◌++◌, length, take, Option, Some, None}
use Rattle.c_lexer.specs.declared.token.CharacterConstant.{CharacterConstant}
use Rattle.c_lexer.specs.declared.character.Quoted.{Quoted}
use Rattle.c_lexer.specs.Characters.{IsCharacter}

-- the character constant that begins the bytes
abbrev pub IsQuoted : List ℕ → Option Quoted → Type 0
IsQuoted bytes (Some quoted) = (quoted.length ≤ length bytes) × IsCharacter quoted.constant (take quoted.length bytes)
IsQuoted bytes None = (constant : CharacterConstant) (front rest : List ℕ) → bytes ≡ front ++ rest
    → IsCharacter constant front → ⊥
