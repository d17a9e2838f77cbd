-- What is found of a punctuator at the front of some bytes.
use Rattle.std.specs.Prelude.{◌≡◌, ℕ, ◌≤◌, ◌==◌, List, [], ◌∷◌, ◌++◌, length, Option, Some, None, if◌then◌else◌}
use Rattle.c_lexer.specs.declared.punctuator.Punctuator.{Punctuator}
use Rattle.c_lexer.specs.declared.punctuator.Punctuator.TheVariants as punctuators
use Rattle.c_lexer.specs.Punctuator.{punctuator_text}

-- the longest punctuator that begins the bytes, or none where none does
abbrev pub IsAtFront : List ℕ → Option Punctuator → Type 0
IsAtFront bytes (Some punctuator) =
    ((rest : List ℕ) × (bytes ≡ punctuator_text punctuator ++ rest))
    × ((other : Punctuator) (rest : List ℕ) → bytes ≡ punctuator_text other ++ rest
    → length (punctuator_text other) ≤ length (punctuator_text punctuator))
IsAtFront bytes None = (punctuator : Punctuator) (rest : List ℕ) → bytes ≡ punctuator_text punctuator ++ rest → ⊥

-- the punctuators that begin with a byte, the longer ones first
abbrev pub punctuators_from : ℕ → List Punctuator
punctuators_from b =
    if b == 46 then punctuators.Ellipsis ∷ punctuators.Point ∷ []
    else if b == 60 then punctuators.LeftShiftAssign ∷ punctuators.LeftShift ∷ punctuators.LessOrEqual
    ∷ punctuators.Less ∷ []
    else if b == 62 then punctuators.RightShiftAssign ∷ punctuators.RightShift ∷ punctuators.GreaterOrEqual
    ∷ punctuators.Greater ∷ []
    else if b == 45 then punctuators.Arrow ∷ punctuators.Decrement ∷ punctuators.SubtractAssign
    ∷ punctuators.Minus ∷ []
    else if b == 43 then punctuators.Increment ∷ punctuators.AddAssign ∷ punctuators.Plus ∷ []
    else if b == 61 then punctuators.Equal ∷ punctuators.Assign ∷ []
    else if b == 33 then punctuators.NotEqual ∷ punctuators.Exclamation ∷ []
    else if b == 38 then punctuators.LogicalAnd ∷ punctuators.AndAssign ∷ punctuators.Ampersand ∷ []
    else if b == 124 then punctuators.LogicalOr ∷ punctuators.OrAssign ∷ punctuators.Bar ∷ []
    else if b == 42 then punctuators.MultiplyAssign ∷ punctuators.Star ∷ []
    else if b == 47 then punctuators.DivideAssign ∷ punctuators.Slash ∷ []
    else if b == 37 then punctuators.RemainderAssign ∷ punctuators.Percent ∷ []
    else if b == 94 then punctuators.XorAssign ∷ punctuators.Caret ∷ []
    else if b == 35 then punctuators.HashHash ∷ punctuators.Hash ∷ []
    else if b == 58 then punctuators.DoubleColon ∷ punctuators.Colon ∷ []
    else if b == 91 then punctuators.OpenBracket ∷ []
    else if b == 93 then punctuators.CloseBracket ∷ []
    else if b == 40 then punctuators.OpenParenthesis ∷ []
    else if b == 41 then punctuators.CloseParenthesis ∷ []
    else if b == 123 then punctuators.OpenBrace ∷ []
    else if b == 125 then punctuators.CloseBrace ∷ []
    else if b == 126 then punctuators.Tilde ∷ []
    else if b == 63 then punctuators.Question ∷ []
    else if b == 59 then punctuators.Semicolon ∷ []
    else if b == 44 then punctuators.Comma ∷ []
    else []
