-- How `race` finds the least race (this project's own).
use Rattle.std.specs.Prelude.{ℕ, ◌≡◌, ◌+◌, ◌<◌, ◌≤◌, ◌⊎◌, max, min, nat_lt, ◌==◌, Bool, not, ◌&&◌, ◌||◌, if◌then◌else◌}
use Rattle.std.specs.Prelude.{ℤ, pos, negsuc, ◌+ℤ◌, int_lt, List, [], ◌∷◌, Option, Some, None, slice_get}
use Rattle.std.specs.Ordering.{int_eq}
use Rattle.rc_terms.specs.declared.location.Loc.{Loc}
use Rattle.rc_terms.specs.declared.location.Loc.TheVariants.{Null, At}
use Rattle.byte_memory.specs.declared.memory.Memory.{Memory}
use Rattle.byte_memory.specs.Memory.{length_at}
use Rattle.caesium_ir.specs.declared.program.Program.{Program}
use Rattle.thread_steps.specs.declared.access.Access.{Access}
use Rattle.thread_steps.specs.declared.access.Touched.{Touched}
use Rattle.thread_steps.specs.declared.access.Touched.TheVariants.{Range, Block}
use Rattle.thread_steps.specs.declared.races.ByteAt.{ByteAt}
use Rattle.thread_steps.specs.declared.races.Interval.{Interval}
use Rattle.thread_steps.specs.Configuration.{Configuration}
use Rattle.thread_steps.specs.Race.{ConflictsAt, IsByteUpTo, IsRace}

-- the number, or 0 where it is negative
abbrev pub from_zero : ℤ → ℕ
from_zero (pos n) = n
from_zero (negsuc n) = 0

-- the bytes of a block that are touched, from one up to another
abbrev pub interval : Memory → Touched → Interval
interval memory (Range Null size) = record { block = 0; low = 0; high = 0 }
interval memory (Range (At block offset) size) =
    record { block = block; low = from_zero offset; high = from_zero (offset +ℤ pos size) }
interval memory (Block block) = record { block = block; low = 0; high = length_at memory block }

-- whether two accesses to one byte conflict
abbrev pub conflict : Access → Access → Bool
conflict one other = (one.writes || other.writes) && not (one.atomic && other.atomic)

-- whether two intervals have a byte in common
abbrev pub meet : Interval → Interval → Bool
meet one other = (one.block == other.block) && nat_lt (max one.low other.low) (min one.high other.high)

-- the least byte at which two accesses conflict
abbrev pub common : Memory → Access → Access → Option ByteAt
common memory one other =
    let here = interval memory one.bytes in let there = interval memory other.bytes in
    if conflict one other && meet here there
    then Some (record { block = here.block; offset = pos (max here.low there.low) }) else None

-- whether a byte comes before another
abbrev pub is_before : ByteAt → ByteAt → Bool
is_before one other = nat_lt one.block other.block || ((one.block == other.block) && int_lt one.offset other.offset)

-- the earlier of two bytes, where there is one
abbrev pub earlier : Option ByteAt → Option ByteAt → Option ByteAt
earlier None other = other
earlier (Some one) None = Some one
earlier (Some one) (Some other) = if is_before other one then Some other else Some one

-- the byte is the least for which this holds
pub record IsFirst (P : ℕ → ℕ → Type 0) (at : ByteAt) : Type 0 where
  pub offset : ℕ
  pub is : at.offset ≡ pos offset
  pub holds : P at.block offset
  pub first : (other after : ℕ) → P other after → IsByteUpTo at.block offset other after

-- the same of an answer: none where it holds of no byte
abbrev pub IsLeast : (ℕ → ℕ → Type 0) → Option ByteAt → Type 0
IsLeast P None = (block offset : ℕ) → P block offset → ⊥
IsLeast P (Some at) = IsFirst P at

-- an access and one of a list conflict at this byte
abbrev pub MeetsOne : Memory → Access → List Access → ℕ → ℕ → Type 0
MeetsOne memory one [] block offset = ⊥
MeetsOne memory one (other ∷ others) block offset =
    ConflictsAt memory one other block offset ⊎ MeetsOne memory one others block offset

-- one of a list and one of another conflict at this byte
abbrev pub Meet : Memory → List Access → List Access → ℕ → ℕ → Type 0
Meet memory [] others block offset = ⊥
Meet memory (one ∷ ones) others block offset =
    MeetsOne memory one others block offset ⊎ Meet memory ones others block offset

-- the least thread that races with thread i, and the least byte for which they race
abbrev pub IsLeastSecond : Program → Configuration → ℕ → Option (ℕ × ByteAt) → Type 0
IsLeastSecond program config i None = (j block offset : ℕ) → IsRace program config i j block offset → ⊥
IsLeastSecond program config i (Some found) =
    IsFirst (IsRace program config i found.0) found.1
    × ((j block offset : ℕ) → j < found.0 → IsRace program config i j block offset → ⊥)
