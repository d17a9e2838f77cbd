-- Lists of threads, one of which takes a step.
use Rattle.std.proofs.Common.{◌≡◌, ℕ, zero, suc, ◌<◌, ◌⊎◌, inl, inr, List, [], ◌∷◌, ◌++◌, length, refl, ap, sym, subst, ◌∙◌}
use Rattle.std.proofs.Common.{get_or, set}
use Rattle.std.specs.Prelude.{Some, slice_get, slice_set}
use Rattle.std.proofs.lemmas.Option.{slice_get_read}
use Rattle.std.proofs.lemmas.List.{set-get_or, append-nil}
use Rattle.byte_memory.specs.declared.memory.Memory.{Memory}
use Rattle.caesium_ir.specs.declared.program.Program.{Program}
use Rattle.thread_steps.specs.declared.thread.Thread.{Thread}
use Rattle.thread_steps.specs.declared.answer.Stepped.{Stepped}
use Rattle.thread_steps.specs.declared.answer.Stepped.TheVariants as answers
use Rattle.thread_steps.specs.declared.thread.Taken.{Taken}
use Rattle.thread_steps.specs.declared.thread.Taken.TheVariants as taken
use Rattle.thread_steps.specs.Answer.{IsThreadAnswer, IsAnswer, started_by}
use Rattle.thread_steps.specs.Configuration.{Configuration}

-- the configuration of these threads and this memory
abbrev pub config_of : List Thread → Memory → Configuration
config_of threads memory = record { threads = threads; memory = memory }

-- writing back what was read changes nothing
unchanged : (threads : List Thread) (i : ℕ) (before after : Thread) (memory after_memory : Memory) →
    before ≡ get_or threads i before → after ≡ before → after_memory ≡ memory →
    config_of (slice_set threads i after) after_memory ≡ config_of threads memory
unchanged threads i before after memory after_memory read same kept =
    ap (λ m. config_of (slice_set threads i after) m) kept
    ∙ ap (λ ts. config_of ts memory) (ap (λ thread. set threads i thread) (same ∙ read) ∙ set-get_or threads i before)

-- the answer to the caller
abbrev pub told : Taken → Stepped
told (taken.Stepped started) = answers.Stepped
told taken.Finished = answers.Finished
told (taken.Undefined ub) = answers.Undefined ub

-- the threads that were started
abbrev pub started_in : Taken → List Thread
started_in (taken.Stepped started) = started_by started
started_in taken.Finished = []
started_in (taken.Undefined ub) = []

-- what the answer to a step of the thread at i says of the configuration
lifted : (program : Program) (i : ℕ) (threads : List Thread) (memory after_memory : Memory) (before after : Thread)
    (answer : Taken) → i < length threads → before ≡ get_or threads i before →
    IsThreadAnswer program before memory after after_memory answer →
    IsAnswer program i (config_of threads memory)
    (config_of (slice_set threads i after ++ started_in answer) after_memory) (told answer)
lifted program i threads memory after_memory before after (taken.Stepped started) within read step = record {
  thread = before;
  after = record { thread = after; memory = after_memory; started = started_by started };
  is = slice_get_read threads (length threads) i before refl within read;
  step = step;
  threads = refl;
  memory = refl;
}
lifted program i threads memory after_memory before after taken.Finished within read (finished, same, kept) = (
  record {
    thread = before;
    is = slice_get_read threads (length threads) i before refl within read;
    finished = finished;
  },
  ap (λ ts. config_of ts after_memory) (append-nil (slice_set threads i after))
      ∙ unchanged threads i before after memory after_memory read same kept,
)
lifted program i threads memory after_memory before after (taken.Undefined ub) within read (stuck, same, kept) = (
  record {
    thread = before;
    is = slice_get_read threads (length threads) i before refl within read;
    stuck = stuck;
  },
  ap (λ ts. config_of ts after_memory) (append-nil (slice_set threads i after))
      ∙ unchanged threads i before after memory after_memory read same kept,
)

-- the same where the configurations and the answer are known by other names
pub lifted_at : (program : Program) (i : ℕ) (threads : List Thread) (memory after_memory : Memory) (old new : Configuration)
    (before after : Thread) (answer : Taken) (said : Stepped) → config_of threads memory ≡ old → i < length old.threads →
    before ≡ get_or threads i before → IsThreadAnswer program before memory after after_memory answer →
    config_of (slice_set threads i after ++ started_in answer) after_memory ≡ new → told answer ≡ said →
    IsAnswer program i old new said
lifted_at program i threads memory after_memory old new before after answer said same within read step is tells =
    let within_threads = subst (λ (c : Configuration). i < length c.threads) (sym same) within in
    let here = lifted program i threads memory after_memory before after answer within_threads read step in
    let reached = config_of (slice_set threads i after ++ started_in answer) after_memory in
    let of_old = subst (λ c. IsAnswer program i c reached (told answer)) same here in
    let of_new = subst (λ c. IsAnswer program i old c (told answer)) is of_old in
    subst (λ a. IsAnswer program i old new a) tells of_new

-- of a list in which one place was written, each element is what was written or one of before
pub get_of_set : {X : Type 0} (xs : List X) (i j : ℕ) (a t : X) → slice_get (slice_set xs i a) j ≡ Some t →
    (a ≡ t) ⊎ (slice_get xs j ≡ Some t)
get_of_set [] i j a t h = inr h
get_of_set (x ∷ xs) zero zero a t h = inl (cc)
get_of_set (x ∷ xs) zero (suc j) a t h = inr h
get_of_set (x ∷ xs) (suc i) zero a t h = inr h
get_of_set (x ∷ xs) (suc i) (suc j) a t h = get_of_set xs i j a t h
