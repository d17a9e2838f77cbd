-- What a thread is started with, and what it is to return (this project's own).
use Rattle.std.specs.Prelude.{ℕ, List, map, Option}
use Rattle.rc_terms.specs.declared.byte.MByte.{MByte}

-- the function that the thread calls, and the value that it is to return; none of a void function
pub record Start : Type 0 where
  pub function : List ℕ
  pub returns : Option (List MByte)

-- the functions that are called
abbrev pub functions_of : List Start → List (List ℕ)
functions_of starts = map (λ (start : Start). start.function) starts
