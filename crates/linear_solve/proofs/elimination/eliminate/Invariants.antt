use Rattle.std.proofs.Common.{◌≡◌, drop}
use Rattle.linear_solve.specs.Levels.{kept, first_level, elimination}
use Rattle.linear_solve.proofs.StepLemmas.{after_steps}
use Rattle.linear_solve.proofs.elimination.eliminate.Given as goal

abbrev pub invariant-loop-unknown : goal.invariant-loop-unknown
invariant-loop-unknown l =
    after_steps l.steps.items (elimination (drop l.unknown-index l.unknowns) (kept l.level.rows l.level.count))
    ≡ elimination l.unknowns (first_level l.rows)
