use Rattle.linear_solve.proofs.RowLemmas.{IsPartialRow}
use Rattle.linear_solve.proofs.row_parts.row_of.Given as goal

abbrev pub invariant-loop-unknown : goal.invariant-loop-unknown
invariant-loop-unknown l = IsPartialRow l.factors l.divisor l.unknown-items l.unknown-index
