use Rattle.std.proofs.Common.{◌≡◌}
use Rattle.linear_solve.specs.Levels.{rows_with, rows_without}
use Rattle.linear_solve.proofs.elimination.parted.Given as goal

abbrev pub invariant-loop-row : goal.invariant-loop-row
invariant-loop-row l =
    (l.with.items ≡ rows_with l.unknown l.yielded) × (l.without ≡ rows_without l.unknown l.yielded)
