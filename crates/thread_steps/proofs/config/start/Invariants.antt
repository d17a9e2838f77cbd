use Rattle.std.proofs.Common.{◌≡◌, map, take}
use Rattle.thread_steps.specs.Thread.{starting_thread}
use Rattle.thread_steps.proofs.config.start.Given as goal

abbrev pub invariant-loop-function : goal.invariant-loop-function
invariant-loop-function l = l.threads.items ≡ map starting_thread (take l.function-index l.functions)
