use Rattle.linear_solve.proofs.UnknownLemmas.{factors_next}
use Rattle.linear_solve.proofs.unknowns.add_unknowns.Goals as goal

pub loop-unknown-preserved : goal.loop-unknown-preserved
loop-unknown-preserved c =
    factors_next c.loop-unknown.known.keys c.insert.new.self.keys c.as_slice-unknown-items.result.now
    c.loop-unknown.unknown-index _ _ c.loop-unknown-test.true c.loop-unknown.invariant c.in_ok-insert.ensures.keys
