use Rattle.std.proofs.Common.{ap, sym}
use Rattle.thread_steps.specs.Operands.{or_poison}
use Rattle.thread_steps.proofs.Fragments.{no_pointer}
use Rattle.thread_steps.proofs.operands.pointer.Goals as goal

pub returns-in-None : goal.returns-in-None
returns-in-None c = sym (ap or_poison (no_pointer c.args.operand.now c.in-None.ensures.other))
