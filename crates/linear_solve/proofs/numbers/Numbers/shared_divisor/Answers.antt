use Rattle.std.proofs.Common.{ap}
use Rattle.linear_solve.proofs.DivisorLemmas.{divisor_more}
use Rattle.linear_solve.proofs.numbers.Numbers.shared_divisor.Goals as goal

pub loop-number-preserved : goal.loop-number-preserved
loop-number-preserved c =
    divisor_more c.args.number.now c.as_slice-number-items.result.now c.loop-number.number-index _ _ _ _ c.loop-number-test.true c.loop-number.invariant
    (ap (λ e. e.1) c.loop-number-item.is)
    c.in_ok-divisor-2.ensures.not_negative c.in_ok-divisor-2.ensures.divisor
