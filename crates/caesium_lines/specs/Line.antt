-- How the lines of a program's text are spelled (this project's own).
use Rattle.std.specs.Prelude.{ℕ, List, [], ◌∷◌, ◌++◌, map, codes, Option, Some, None}
use Rattle.std.specs.Fmt.{decimal}
use Rattle.caesium_lines.specs.declared.layout.NamedLayout.{NamedLayout}
use Rattle.caesium_lines.specs.declared.layout.NamedLocal.{NamedLocal}
use Rattle.caesium_lines.specs.declared.line.Line.{Line}
use Rattle.caesium_lines.specs.declared.line.Line.TheVariants.{Struct, Union, Function, Local, Label, Operation, End}
use Rattle.caesium_lines.specs.Words.{spaced, words_text}
use Rattle.caesium_lines.specs.Layout.{layout_words, local_words, member_words}
use Rattle.caesium_lines.specs.Operation.{op_text}
use Rattle.caesium_lines.specs.End.{end_text}

-- what a struct or union begins with: its kind, tag, size and alignment
abbrev pub head_text : List ℕ → List ℕ → ℕ → ℕ → List ℕ
head_text kind tag size align = words_text (kind ∷ tag ∷ decimal size ∷ decimal align ∷ []) ++ codes ":"

-- entries of these words, each with a comma before it, and each word with a blank before it
abbrev pub led : List (List (List ℕ)) → List ℕ
led [] = []
led (words ∷ entries) = 44 ∷ spaced words ++ led entries

-- entries of these words, with commas between them, and each word with a blank before it
abbrev pub listed : List (List (List ℕ)) → List ℕ
listed [] = []
listed (words ∷ entries) = spaced words ++ led entries

-- the parameters of a function, with commas between them, and no blank before the first
abbrev pub parameters_text : List NamedLocal → List ℕ
parameters_text [] = []
parameters_text (first ∷ others) = words_text (local_words first) ++ led (map local_words others)

-- the layout of a function's result, with a blank before it
abbrev pub result_text : Option NamedLayout → List ℕ
result_text None = spaced (codes "void" ∷ [])
result_text (Some layout) = spaced (layout_words layout)

-- a line, without its line feed
abbrev pub line_text : Line → List ℕ
line_text (Struct tag size align members) =
    head_text (codes "struct") tag size align ++ listed (map member_words members)
line_text (Union tag size align members) =
    head_text (codes "union") tag size align ++ listed (map layout_words members)
line_text (Function name parameters result) =
    codes "fn " ++ name ++ codes "(" ++ parameters_text parameters ++ codes ") ->" ++ result_text result
line_text (Local local) = words_text (codes "local" ∷ local_words local)
line_text (Label label) = label ++ codes ":"
line_text (Operation op) = codes "  " ++ op_text op
line_text (End end) = codes "  " ++ end_text end
