use Rattle.std.proofs.Common.{ℕ, ◌<◌}
use Rattle.thread_steps.specs.Race.{IsRace}
use Rattle.thread_steps.proofs.races.race.Given as goal

-- no thread before races with another
abbrev pub invariant-loop-i : goal.invariant-loop-i
invariant-loop-i l =
    (h k block offset : ℕ) → h < l.i → IsRace l.program l.config h k block offset → ⊥
