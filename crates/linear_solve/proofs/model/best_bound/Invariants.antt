use Rattle.std.proofs.Common.{◌≡◌, drop}
use Rattle.linear_solve.specs.Models.{best_bound}
use Rattle.linear_solve.proofs.ModelLemmas.{best_from}
use Rattle.linear_solve.proofs.model.best_bound.Given as goal

abbrev pub invariant-loop-row : goal.invariant-loop-row
invariant-loop-row l =
    best_from l.side l.values l.unknown l.best (drop l.row-index l.rows) ≡ best_bound l.side l.values l.unknown l.rows
