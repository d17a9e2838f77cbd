use Rattle.std.proofs.Common.{◌≡◌, drop, fold}
use Rattle.std.specs.List.{flat_map}
use Rattle.linear_solve.specs.Levels.{taken, kept, pairs, paired, positive_rows, negative_rows}
use Rattle.linear_solve.proofs.level.Level.take_pairs.Given as goal

abbrev pub invariant-loop-row : goal.invariant-loop-row
invariant-loop-row l =
    fold taken (kept l.self.rows l.self.count)
    (flat_map (λ row. paired l.unknown row (negative_rows l.unknown l.rows))
    (positive_rows l.unknown (drop l.row-index l.rows)))
    ≡ fold taken (kept l.fn.self.rows l.fn.self.count) (pairs l.unknown l.rows)
