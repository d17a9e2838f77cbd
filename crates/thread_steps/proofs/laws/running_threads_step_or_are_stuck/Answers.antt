use Rattle.std.proofs.Common.{inl, inr}
use Rattle.thread_steps.specs.Step.{step_of}
use Rattle.thread_steps.proofs.Outcomes.{ok_or_err}
use Rattle.thread_steps.proofs.laws.running_threads_step_or_are_stuck.Goals as goal

pub returns-clause-either : goal.returns-clause-either
returns-clause-either c = λ program top callers memory. ok_or_err (step_of program top callers memory)

pub returns-clause-stuck : goal.returns-clause-stuck
returns-clause-stuck c = λ program top callers memory none.
    elim (ok_or_err (step_of program top callers memory)) [
      | inl h ↦ absurd (none h.0 h.1)
      | inr h ↦ h
    ]
