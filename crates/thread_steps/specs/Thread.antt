-- How a thread begins, ends and goes on after a return (this project's own).
use Rattle.std.specs.Prelude.{ℕ, List, [], ◌∷◌, Option}
use Rattle.rc_terms.specs.declared.byte.MByte.{MByte}
use Rattle.thread_steps.specs.declared.frame.Frame.{Frame}
use Rattle.thread_steps.specs.declared.thread.Thread.{Thread}
use Rattle.thread_steps.specs.declared.thread.Thread.TheVariants.{Running, Finished}
use Rattle.thread_steps.specs.Frame.{starting_frame, given}

-- a thread that calls the function and has done nothing
abbrev pub starting_thread : List ℕ → Thread
starting_thread function = Running (starting_frame function) []

-- it has returned from its first call
abbrev pub IsFinished : Thread → Type 0
IsFinished (Running top callers) = ⊥
IsFinished (Finished value) = Unit {0}

-- the thread after a return to these callers: the first goes on with the value, and without one the thread is finished
abbrev pub returned : Option (List MByte) → List Frame → Thread
returned value [] = Finished value
returned value (caller ∷ callers) = Running (given value caller) callers
