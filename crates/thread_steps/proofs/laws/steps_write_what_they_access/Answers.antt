use Rattle.std.proofs.Common.{◌≡◌, ap, sym, subst, ◌∙◌}
use Rattle.std.specs.Prelude.{Some}
use Rattle.byte_memory.specs.Memory.{byte_at}
use Rattle.byte_memory.specs.declared.memory.Memory.{Memory}
use Rattle.thread_steps.specs.declared.thread.Thread.{Thread}
use Rattle.thread_steps.specs.Access.{accesses_of, IsWritten}
use Rattle.thread_steps.specs.Step.{Step}
use Rattle.thread_steps.proofs.Writes.{step_keeps}
use Rattle.thread_steps.proofs.laws.steps_write_what_they_access.Goals as goal

pub returns-clause-threads : goal.returns-clause-threads
returns-clause-threads c = λ program thread memory after block offset step old free.
    step_keeps program thread memory after block offset step old free

pub returns-clause-configurations : goal.returns-clause-configurations
returns-clause-configurations c = λ program i old new thread block offset step at inside free.
    let same : thread ≡ step.thread = cc (at, step.is) in
    let beside = subst (λ t. IsWritten old.memory (accesses_of program t) block offset → ⊥) same free in
    ap (λ m. byte_at m block offset) step.memory
    ∙ step_keeps program step.thread old.memory step.after block offset step.step inside beside
