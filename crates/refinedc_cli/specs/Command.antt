-- The words of a command (this project's own).
use Rattle.std.specs.Prelude.{◌≡◌, ℕ, Bool, false, List, [], ◌∷◌, ◌==◌, codes}
use Rattle.refinedc_cli.specs.declared.command.Command.{Command}
use Rattle.refinedc_cli.specs.declared.command.Command.TheVariants.{Check}

-- an option begins with `-`
abbrev pub is_option : List ℕ → Bool
is_option [] = false
is_option (b ∷ bs) = b == 45

-- the words mean the command
abbrev pub Means : List (List ℕ) → Command → Type 0
Means words (Check file) = (words ≡ codes "check" ∷ file ∷ []) × (is_option file ≡ false)

-- the words mean no command
abbrev pub MeanNothing : List (List ℕ) → Type 0
MeanNothing words = (command : Command) → Means words command → ⊥

-- the names of the files that a command reads, in order
abbrev pub files_of : Command → List (List ℕ)
files_of (Check file) = file ∷ []

-- the name of the file that a command's texts are about
abbrev pub subject_of : Command → List ℕ
subject_of (Check file) = file
