use Rattle.std.proofs.Common.{sym}
use Rattle.thread_steps.proofs.Blocks.{not_arguments}
use Rattle.thread_steps.proofs.calls.are_arguments.Goals as goal

pub returns-then-parameters-arguments : goal.returns-then-parameters-arguments
returns-then-parameters-arguments c =
    sym (not_arguments c.args.table.now c.args.parameters.now c.args.arguments.now c.if-parameters-arguments.true)
