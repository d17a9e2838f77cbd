-- How the ends of blocks are spelled (this project's own).
use Rattle.std.specs.Prelude.{ℕ, List, [], ◌∷◌, ◌++◌, map, codes}
use Rattle.std.specs.Fmt.{signed_decimal}
use Rattle.caesium_lines.specs.declared.end.NamedCase.{NamedCase}
use Rattle.caesium_lines.specs.declared.end.NamedEnd.{NamedEnd}
use Rattle.caesium_lines.specs.declared.end.NamedEnd.TheVariants.{Goto, If, Switch, Return}
use Rattle.caesium_lines.specs.Words.{words_text, int_word}

-- a case: its number and its label, with a colon between them
abbrev pub case_word : NamedCase → List ℕ
case_word case = signed_decimal case.value ++ 58 ∷ case.label

-- the words of the end of a block
abbrev pub end_words : NamedEnd → List (List ℕ)
end_words (Goto label) = codes "goto" ∷ label ∷ []
end_words (If nonzero zero) = codes "if" ∷ nonzero ∷ zero ∷ []
end_words (Switch of cases otherwise) =
    codes "switch" ∷ int_word of ∷ (map case_word cases ++ codes "else" ∷ otherwise ∷ [])
end_words Return = codes "return" ∷ []

-- the end of a block: its words
abbrev pub end_text : NamedEnd → List ℕ
end_text end = words_text (end_words end)
