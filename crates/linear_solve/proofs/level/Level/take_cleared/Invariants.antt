use Rattle.std.proofs.Common.{◌≡◌, drop, fold}
use Rattle.linear_solve.specs.Levels.{taken, kept, cleared_by}
use Rattle.linear_solve.proofs.level.Level.take_cleared.Given as goal

abbrev pub invariant-loop-row : goal.invariant-loop-row
invariant-loop-row l =
    fold taken (kept l.self.rows l.self.count) (cleared_by l.unknown l.equation (drop l.row-index l.rows))
    ≡ fold taken (kept l.fn.self.rows l.fn.self.count) (cleared_by l.unknown l.equation l.rows)
