use Rattle.std.proofs.Common.{◌≡◌, drop, fold}
use Rattle.linear_solve.specs.Levels.{taken, kept, numbered, first_level}
use Rattle.linear_solve.proofs.level.Level.take_given.Given as goal

abbrev pub invariant-loop-row : goal.invariant-loop-row
invariant-loop-row l =
    fold taken (kept l.self.rows l.self.count) (numbered l.self.count (drop l.row-index l.rows)) ≡ first_level l.rows
