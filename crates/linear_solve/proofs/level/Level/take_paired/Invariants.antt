use Rattle.std.proofs.Common.{◌≡◌, drop, fold}
use Rattle.linear_solve.specs.Levels.{taken, kept, paired, negative_rows}
use Rattle.linear_solve.proofs.level.Level.take_paired.Given as goal

abbrev pub invariant-loop-other : goal.invariant-loop-other
invariant-loop-other l =
    fold taken (kept l.self.rows l.self.count)
    (paired l.unknown l.row (negative_rows l.unknown (drop l.other-index l.rows)))
    ≡ fold taken (kept l.fn.self.rows l.fn.self.count) (paired l.unknown l.row (negative_rows l.unknown l.rows))
