-- What the answer of `next_access` says (this project's own).
use Rattle.std.specs.Prelude.{List, [], ◌∷◌, ◌++◌, map, Option, Some, None}
use Rattle.thread_steps.specs.declared.access.Access.{Access}
use Rattle.thread_steps.specs.declared.access.Accesses.{Accesses}
use Rattle.thread_steps.specs.declared.access.Accesses.TheVariants.{Ranges, Closed}
use Rattle.thread_steps.specs.Access.{closes}

-- an access, where there is one
abbrev pub one_or_none : Option Access → List Access
one_or_none None = []
one_or_none (Some access) = access ∷ []

-- the accesses in order
abbrev pub listed : Accesses → List Access
listed (Ranges first second) = one_or_none first ++ one_or_none second
listed (Closed blocks) = map closes blocks.now
