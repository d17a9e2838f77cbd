-- When a thread and a configuration are undefined, and in which way (this project's own; C11 3.4.3).
use Rattle.std.specs.Prelude.{ℕ, ◌≡◌, Some, slice_get, Err}
use Rattle.byte_memory.specs.declared.memory.Memory.{Memory}
use Rattle.caesium_ir.specs.declared.program.Program.{Program}
use Rattle.thread_steps.specs.declared.answer.Ub.{Ub}
use Rattle.thread_steps.specs.declared.thread.Thread.{Thread}
use Rattle.thread_steps.specs.declared.thread.Thread.TheVariants.{Running, Finished}
use Rattle.thread_steps.specs.Step.{step_of}
use Rattle.thread_steps.specs.Configuration.{Configuration}
use Rattle.thread_steps.specs.Race.{IsRace}

-- the thread is running and has no step, by this kind of undefined behaviour
abbrev pub IsStuck : Program → Thread → Memory → Ub → Type 0
IsStuck program (Running top callers) memory ub = step_of program top callers memory ≡ Err ub
IsStuck program (Finished value) memory ub = ⊥

-- thread i is stuck by this kind
pub record IsStuckAt (program : Program) (i : ℕ) (config : Configuration) (ub : Ub) : Type 0 where
  pub thread : Thread
  pub is : slice_get config.threads i ≡ Some thread
  pub stuck : IsStuck program thread config.memory ub

-- in which way a configuration is undefined: a thread is stuck by a kind, or two threads race for a byte
pub data Reason : Type 0 where
  Stuck : (thread : ℕ) → Ub → Reason
  Race : (first second block offset : ℕ) → Reason

-- the configuration is undefined in this way
abbrev pub IsUndefinedBy : Program → Configuration → Reason → Type 0
IsUndefinedBy program config (Stuck i ub) = IsStuckAt program i config ub
IsUndefinedBy program config (Race i j block offset) = IsRace program config i j block offset

-- it is undefined in some way
abbrev pub IsUndefined : Program → Configuration → Type 0
IsUndefined program config = (reason : Reason) × IsUndefinedBy program config reason
