-- What the answer to a call of `step` says (this project's own).
use Rattle.std.specs.Prelude.{ℕ, ◌≡◌, List, [], ◌∷◌, Option, Some, None, slice_get, Result, Ok, Err}
use Rattle.byte_memory.specs.declared.memory.Memory.{Memory}
use Rattle.caesium_ir.specs.declared.program.Program.{Program}
use Rattle.thread_steps.specs.declared.answer.Ub.{Ub}
use Rattle.thread_steps.specs.declared.answer.Stepped.{Stepped}
use Rattle.thread_steps.specs.declared.answer.Stepped.TheVariants as answers
use Rattle.thread_steps.specs.declared.thread.Taken.{Taken}
use Rattle.thread_steps.specs.declared.thread.Taken.TheVariants as taken
use Rattle.thread_steps.specs.declared.thread.Thread.{Thread}
use Rattle.thread_steps.specs.Thread.{IsFinished}
use Rattle.thread_steps.specs.Step.{After, Step}
use Rattle.thread_steps.specs.Configuration.{Configuration, StepsAt}
use Rattle.thread_steps.specs.Undefined.{IsStuck, IsStuckAt}

-- thread i is finished
pub record IsFinishedAt (i : ℕ) (config : Configuration) : Type 0 where
  pub thread : Thread
  pub is : slice_get config.threads i ≡ Some thread
  pub finished : IsFinished thread

-- what the answer says of thread i and of the configuration before and after: each case rules out the other two
abbrev pub IsAnswer : Program → ℕ → Configuration → Configuration → Stepped → Type 0
IsAnswer program i old new answers.Stepped = StepsAt program i old new
IsAnswer program i old new answers.Finished = IsFinishedAt i old × (new ≡ old)
IsAnswer program i old new (answers.Undefined ub) = IsStuckAt program i old ub × (new ≡ old)

-- the threads that a step started, which are one at most
abbrev pub started_by : Option Thread → List Thread
started_by None = []
started_by (Some thread) = thread ∷ []

-- the same of one thread and the memory
abbrev pub IsThreadAnswer : Program → Thread → Memory → Thread → Memory → Taken → Type 0
IsThreadAnswer program old old_memory new new_memory (taken.Stepped started) =
    Step program old old_memory (record { thread = new; memory = new_memory; started = started_by started })
IsThreadAnswer program old old_memory new new_memory taken.Finished =
    IsFinished old × (new ≡ old) × (new_memory ≡ old_memory)
IsThreadAnswer program old old_memory new new_memory (taken.Undefined ub) =
    IsStuck program old old_memory ub × (new ≡ old) × (new_memory ≡ old_memory)

-- the same of what came of a running thread
abbrev pub IsAnswerTo : Result After Ub → Thread → Memory → Thread → Memory → Taken → Type 0
IsAnswerTo result old old_memory new new_memory (taken.Stepped started) =
    result ≡ Ok (record { thread = new; memory = new_memory; started = started_by started })
IsAnswerTo result old old_memory new new_memory taken.Finished = ⊥
IsAnswerTo result old old_memory new new_memory (taken.Undefined ub) =
    (result ≡ Err ub) × (new ≡ old) × (new_memory ≡ old_memory)
