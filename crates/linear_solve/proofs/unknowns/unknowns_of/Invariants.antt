use Rattle.std.proofs.Common.{◌≡◌, All, drop, take, fold}
use Rattle.std.specs.FinMap.{entries}
use Rattle.linear_solve.specs.Unknowns.{with_factors, unknowns_of, HasNoZero}
use Rattle.linear_solve.proofs.unknowns.unknowns_of.Given as goal

abbrev pub invariant-loop-row : goal.invariant-loop-row
invariant-loop-row l =
    (fold (λ known row. with_factors known (entries row.factors)) l.known.keys (drop l.row-index l.rows)
    ≡ unknowns_of l.rows) × All HasNoZero (take l.row-index l.rows)
