-- Configurations, and one step of a configuration: one step of one of its threads (this project's own).
use Rattle.std.specs.Prelude.{ℕ, ◌≡◌, ◌++◌, List, [], map, Some, slice_get, slice_set}
use Rattle.byte_memory.specs.declared.memory.Memory.{Memory}
use Rattle.caesium_ir.specs.declared.program.Program.{Program}
use Rattle.thread_steps.specs.declared.thread.Thread.{Thread}
use Rattle.thread_steps.specs.Thread.{starting_thread}
use Rattle.thread_steps.specs.Step.{After, Step}

-- all that a run changes: the threads by their numbers, and the memory that they share
pub record Configuration : Type 0 where
  pub threads : List Thread
  pub memory : Memory

-- a thread for each of these function names, which calls the function and has done nothing, and a memory of which no
-- block was ever opened
abbrev pub starting : List (List ℕ) → Configuration
starting functions = record { threads = map starting_thread functions; memory = [] }

-- thread i takes a step: the other threads stay, those that it started come last, and the memory is the step's
pub record StepsAt (program : Program) (i : ℕ) (old new : Configuration) : Type 0 where
  pub thread : Thread
  pub after : After
  pub is : slice_get old.threads i ≡ Some thread
  pub step : Step program thread old.memory after
  pub threads : new.threads ≡ slice_set old.threads i after.thread ++ after.started
  pub memory : new.memory ≡ after.memory

-- some thread takes a step
abbrev pub StepsTo : Program → Configuration → Configuration → Type 0
StepsTo program old new = (i : ℕ) × StepsAt program i old new
