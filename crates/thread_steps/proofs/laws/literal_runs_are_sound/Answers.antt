use Rattle.thread_steps.proofs.LiteralThreads.{runs_are_sound}
use Rattle.thread_steps.proofs.laws.literal_runs_are_sound.Goals as goal

pub returns : goal.returns
returns c name literal places starts configs below calls run =
    runs_are_sound name literal places starts configs calls run
