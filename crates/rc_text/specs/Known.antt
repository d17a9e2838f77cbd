-- What a call does to the bytes that a reader or a writer of the system knows, as the library's own traits say it. This
-- project's own.
use Rattle.std.specs.Prelude.{◌≡◌, ℕ, ◌<◌, List, length, take, Option}
use Rattle.std.specs.Io.KnownBytes.{Appends, Consumes, IsAtEnd, Keeps}
use Rattle.rc_text.specs.declared.answer.Got.{Got}
use Rattle.rc_text.specs.declared.answer.Got.TheVariants.{Count, Failed}

-- Where a reader's bytes are known: those of the count now stand at the front of the slice and are gone from the
-- reader, and where they are none and the slice has room, the reader is at its end. A read that failed kept all.
abbrev pub GivesKnown : Got → Option (List ℕ) → Option (List ℕ) → List ℕ → Type 0
GivesKnown (Count count) old new slice =
    Consumes old new (take count slice) × (count ≡ 0 → 0 < length slice → IsAtEnd new)
GivesKnown Failed old new slice = Keeps old new

-- Where a writer's bytes are known: they grew by those of the count, from the front of the piece, and a write that
-- failed kept them.
abbrev pub TakesKnown : Got → Option (List ℕ) → Option (List ℕ) → List ℕ → Type 0
TakesKnown (Count count) old new piece = Appends old new (take count piece)
TakesKnown Failed old new piece = Keeps old new
