use Rattle.linear_certs.proofs.PartialSums.{IsPartialSum}
use Rattle.linear_certs.proofs.sum.Sum.of.Given as goal

abbrev pub invariant-loop-entry : goal.invariant-loop-entry
invariant-loop-entry l = IsPartialSum l.sum l.rows l.entry-items l.entry-index
