-- What the answer of an operation's function says, where this is its result by the definition (this project's own).
-- Want of memory says nothing.
use Rattle.std.specs.Prelude.{◌≡◌, List, Option, Result, Ok, Err}
use Rattle.rc_terms.specs.declared.byte.MByte.{MByte}
use Rattle.byte_memory.specs.declared.memory.Memory.{Memory}
use Rattle.thread_steps.specs.declared.answer.Ub.{Ub}
use Rattle.thread_steps.specs.declared.answer.Stop.{Stop}
use Rattle.thread_steps.specs.declared.answer.Stop.TheVariants.{Undefined, NoMemory}
use Rattle.thread_steps.specs.declared.frame.Frame.{Frame}
use Rattle.thread_steps.specs.Operations.{Made}
use Rattle.thread_steps.specs.Calls.{Entered}

-- of an operation that leaves memory as it is
abbrev pub Gives : {A : Type 0} → Result A Ub → Result A Stop → Type 0
Gives expected (Ok value) = expected ≡ Ok value
Gives expected (Err (Undefined ub)) = expected ≡ Err ub
Gives expected (Err NoMemory) = Unit {0}

-- of one that may change it, from this memory to this
abbrev pub Makes : Result Made Ub → Memory → Memory → Result (Option (List MByte)) Stop → Type 0
Makes expected old new (Ok value) = expected ≡ Ok (record { value = value; memory = new })
Makes expected old new (Err (Undefined ub)) = (expected ≡ Err ub) × (new ≡ old)
Makes expected old new (Err NoMemory) = Unit {0}

-- of the beginning of a call
abbrev pub Enters : Result Entered Ub → Memory → Memory → Result Frame Stop → Type 0
Enters expected old new (Ok frame) = expected ≡ Ok (record { frame = frame; memory = new })
Enters expected old new (Err (Undefined ub)) = (expected ≡ Err ub) × (new ≡ old)
Enters expected old new (Err NoMemory) = Unit {0}
