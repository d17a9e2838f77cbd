use Rattle.linear_certs.proofs.SumSteps.{HasFactors}
use Rattle.linear_certs.proofs.sum.Sum.add.Given as goal

abbrev pub invariant-loop-unknown : goal.invariant-loop-unknown
invariant-loop-unknown l = HasFactors l.fn.self l.self l.multiplier l.row l.unknown-items l.unknown-index
