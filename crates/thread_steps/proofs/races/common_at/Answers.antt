use Rattle.thread_steps.proofs.Least.{common_one}
use Rattle.thread_steps.proofs.races.common_at.Goals as goal

pub returns-in-Some : goal.returns-in-Some
returns-in-Some c =
    common_one c.args.memory.now c.args.one c.in-Some.other c.args.other c.common.result c.in-Some.is c.common.ensures
