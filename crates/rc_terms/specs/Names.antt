-- Names of terms, as the lists of their bytes.
use Rattle.std.specs.Prelude.{ℕ, Bool, List}
use Rattle.std.specs.Str.{bytes_eq}

-- whether two names are one
abbrev pub same_name : List ℕ → List ℕ → Bool
same_name name other = bytes_eq name other
