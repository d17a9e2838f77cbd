use Rattle.std.proofs.Common.{ℕ, ◌<◌}
use Rattle.thread_steps.specs.Race.{IsRace}
use Rattle.thread_steps.proofs.races.second_thread.Given as goal

-- thread i races with no thread before
abbrev pub invariant-loop-j : goal.invariant-loop-j
invariant-loop-j l = (k block offset : ℕ) → k < l.j → IsRace l.program l.config l.i k block offset → ⊥
