-- When the next steps of two threads race. The definition is this project's own, for steps that come one after another
-- (sequential consistency): C11's data race (5.1.2.4) speaks of what happens before what, and this one does not.
use Rattle.std.specs.Prelude.{ℕ, ◌≡◌, ◌≢◌, ◌<◌, ◌≤◌, ◌⊎◌, not, ◌&&◌, ◌||◌, IsTrue, pos, negsuc}
use Rattle.std.specs.Prelude.{Option, Some, None, slice_get, Contains}
use Rattle.rc_terms.specs.declared.location.Loc.{Loc}
use Rattle.rc_terms.specs.declared.location.Loc.TheVariants.{Null, At}
use Rattle.byte_memory.specs.declared.memory.Memory.{Memory}
use Rattle.caesium_ir.specs.declared.program.Program.{Program}
use Rattle.thread_steps.specs.declared.thread.Thread.{Thread}
use Rattle.thread_steps.specs.declared.access.Access.{Access}
use Rattle.thread_steps.specs.Access.{IsIn, accesses_of}
use Rattle.thread_steps.specs.Configuration.{Configuration}

-- two accesses to one byte conflict where one of them writes it, and not both are atomic
pub record Conflicts (one other : Access) : Type 0 where
  pub written : IsTrue (one.writes || other.writes)
  pub plain : IsTrue (not (one.atomic && other.atomic))

-- two accesses conflict at this byte: both touch it, and they conflict
pub record ConflictsAt (memory : Memory) (one other : Access) (block offset : ℕ) : Type 0 where
  pub conflict : Conflicts one other
  pub touches : IsIn memory one.bytes block offset
  pub touched : IsIn memory other.bytes block offset

-- the next steps of the threads i and j, which are two, conflict at the byte at this offset of this block
pub record IsRace (program : Program) (config : Configuration) (i j block offset : ℕ) : Type 0 where
  pub different : i ≢ j
  pub one : Thread
  pub other : Thread
  pub one_is : slice_get config.threads i ≡ Some one
  pub other_is : slice_get config.threads j ≡ Some other
  pub access : Access
  pub against : Access
  pub touches : Contains (accesses_of program one) access
  pub touched : Contains (accesses_of program other) against
  pub covers : IsIn config.memory access.bytes block offset
  pub covered : IsIn config.memory against.bytes block offset
  pub conflict : Conflicts access against

-- some two threads race for some byte
abbrev pub HasRace : Program → Configuration → Type 0
HasRace program config = (i : ℕ) × (j : ℕ) × (block : ℕ) × (offset : ℕ) × IsRace program config i j block offset

-- a byte is the same as another, or comes before it
abbrev pub IsByteUpTo : (block offset other after : ℕ) → Type 0
IsByteUpTo block offset other after = (block < other) ⊎ ((block ≡ other) × (offset ≤ after))

-- in the order of the first thread, then the second, then the byte: a race is the same as another, or comes before it
abbrev pub IsRaceUpTo : (i j block offset k l other after : ℕ) → Type 0
IsRaceUpTo i j block offset k l other after =
    (i < k) ⊎ ((i ≡ k) × ((j < l) ⊎ ((j ≡ l) × IsByteUpTo block offset other after)))

-- the race with the least first thread, of these the least second, and of these the least byte
pub record IsLeastRace (program : Program) (config : Configuration) (i j block offset : ℕ) : Type 0 where
  pub race : IsRace program config i j block offset
  pub least : (k l other after : ℕ) → IsRace program config k l other after →
      IsRaceUpTo i j block offset k l other after

-- the same where the byte is a location
abbrev pub IsLeastRaceAt : Program → Configuration → ℕ → ℕ → Loc → Type 0
IsLeastRaceAt program config i j Null = ⊥
IsLeastRaceAt program config i j (At block (pos offset)) = IsLeastRace program config i j block offset
IsLeastRaceAt program config i j (At block (negsuc n)) = ⊥

-- what the answer of `race` says: the least race, or that there is none
abbrev pub IsRaceAnswer : Program → Configuration → Option (ℕ × ℕ × Loc) → Type 0
IsRaceAnswer program config None = ¬ HasRace program config
IsRaceAnswer program config (Some found) = IsLeastRaceAt program config found.0 found.1 found.2
