-- What a run sees of the outside, before it and after it (this project's own).
use Rattle.std.specs.Prelude.{◌≡◌, ℕ, ◌<◌, ◌++◌, List, [], ◌∷◌, Option, Some, IfSome}
use Rattle.std.specs.Option.{option_map}
use Rattle.rc_text.specs.Faults.{last_fault}

-- a shelf: the content of each name and the names that it was asked for, where it tells them, and its faults
pub record Files : Type 0 where
  pub holds : List ℕ → Option (List ℕ)
  pub asked : Option (List (List ℕ))
  pub faults : ℕ

-- a sink: what was written, where it tells it, and its faults
pub record Stream : Type 0 where
  pub written : Option (List ℕ)
  pub faults : ℕ

-- the shelf, standard output and standard error
pub record Outside : Type 0 where
  pub files : Files
  pub out : Stream
  pub err : Stream

-- the same, from what the shelf and the sinks tell
abbrev pub files_seen : (List ℕ → Option (List ℕ)) → Option (List (List ℕ)) → ℕ → Files
files_seen holds asked faults = record { holds = holds; asked = asked; faults = faults }

abbrev pub stream_seen : Option (List ℕ) → ℕ → Stream
stream_seen written faults = record { written = written; faults = faults }

abbrev pub outside_seen : Files → Stream → Stream → Outside
outside_seen files out err = record { files = files; out = out; err = err }

-- the shelf was asked for these names, in order, and for no others
abbrev pub WasAskedFor : Option (List (List ℕ)) → Option (List (List ℕ)) → List (List ℕ) → Type 0
WasAskedFor old new names = new ≡ option_map (λ before. before ++ names) old

-- these are the contents of the names, where the shelf tells them
abbrev pub MayHold : (List ℕ → Option (List ℕ)) → List (List ℕ) → List (List ℕ) → Type 0
MayHold holds [] [] = Unit {0}
MayHold holds [] (content ∷ contents) = ⊥
MayHold holds (name ∷ names) [] = ⊥
MayHold holds (name ∷ names) (content ∷ contents) =
    IfSome (holds name) (λ told. told ≡ content) × MayHold holds names contents

-- the shelf tells the contents of the names, and these are they
abbrev pub Holds : (List ℕ → Option (List ℕ)) → List (List ℕ) → List (List ℕ) → Type 0
Holds holds [] [] = Unit {0}
Holds holds [] (content ∷ contents) = ⊥
Holds holds (name ∷ names) [] = ⊥
Holds holds (name ∷ names) (content ∷ contents) = (holds name ≡ Some content) × Holds holds names contents

-- no fault was counted where one could have been
abbrev pub IsQuiet : ℕ → ℕ → Type 0
IsQuiet old new = (old < last_fault) × (new ≡ old)

-- neither the shelf nor standard output failed
pub record IsUndisturbed (before after : Outside) : Type 0 where
  pub files : IsQuiet before.files.faults after.files.faults
  pub out : IsQuiet before.out.faults after.out.faults
