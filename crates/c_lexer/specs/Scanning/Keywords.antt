-- The keywords by the byte that they begin with.
use Rattle.std.specs.Prelude.{ℕ, ◌==◌, Bool, List, [], ◌∷◌, if◌then◌else◌}
use Rattle.c_lexer.specs.declared.keyword.Keyword.{Keyword}
use Rattle.c_lexer.specs.declared.keyword.Keyword.TheVariants as keywords

-- the keywords that begin with a byte
abbrev pub keywords_from : ℕ → List Keyword
keywords_from b =
    if b == 97 then keywords.Auto ∷ keywords.Asm ∷ []
    else if b == 98 then keywords.Break ∷ []
    else if b == 99 then keywords.Case ∷ keywords.Char ∷ keywords.Const ∷ keywords.Continue ∷ []
    else if b == 100 then keywords.Default ∷ keywords.Do ∷ keywords.Double ∷ []
    else if b == 101 then keywords.Else ∷ keywords.Enum ∷ keywords.Extern ∷ []
    else if b == 102 then keywords.Float ∷ keywords.For ∷ []
    else if b == 103 then keywords.Goto ∷ []
    else if b == 105 then keywords.If ∷ keywords.Inline ∷ keywords.Int ∷ []
    else if b == 108 then keywords.Long ∷ []
    else if b == 114 then keywords.Register ∷ keywords.Restrict ∷ keywords.Return ∷ []
    else if b == 115 then keywords.Short ∷ keywords.Signed ∷ keywords.Sizeof ∷ keywords.Static ∷ keywords.Struct
    ∷ keywords.Switch ∷ []
    else if b == 116 then keywords.Typedef ∷ []
    else if b == 117 then keywords.Union ∷ keywords.Unsigned ∷ []
    else if b == 118 then keywords.Void ∷ keywords.Volatile ∷ []
    else if b == 119 then keywords.While ∷ []
    else if b == 95 then keywords.Alignas ∷ keywords.Alignof ∷ keywords.Atomic ∷ keywords.Bool ∷ keywords.Complex
    ∷ keywords.Generic ∷ keywords.Imaginary ∷ keywords.Noreturn ∷ keywords.StaticAssert
    ∷ keywords.ThreadLocal ∷ []
    else []
