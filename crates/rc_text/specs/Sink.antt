-- What stands on a sink. This project's own.
use Rattle.std.specs.Prelude.{◌≡◌, ℕ, ◌<◌, List, ◌++◌, length, take, Option}
use Rattle.std.specs.Option.{option_map}

-- the text behind what was written before, where the sink tells it
abbrev pub appended : Option (List ℕ) → List ℕ → Option (List ℕ)
appended written text = option_map (λ before. before ++ text) written

-- the first count bytes of the text behind what was written before
abbrev pub front_appended : Option (List ℕ) → ℕ → List ℕ → Option (List ℕ)
front_appended written count text = appended written (take count text)

-- a prefix of the text was written, and not the whole text
abbrev pub WrotePrefix : Option (List ℕ) → Option (List ℕ) → List ℕ → Type 0
WrotePrefix old new text = (count : ℕ) × (count < length text) × (new ≡ front_appended old count text)
