use Rattle.std.proofs.Common.{arith}
use Rattle.std.proofs.lemmas.Int.{ints}
use Rattle.linear_certs.proofs.RunningFactors.{all_zero}
use Rattle.linear_certs.proofs.sum.Sum.is_impossible.Goals as goal

pub returns-then-self-lt0 : goal.returns-then-self-lt0
returns-then-self-lt0 c =
    let zero = all_zero c.args.self.now.factors c.are_zero.ensures.ordered in (
      λ yes. (zero.0 (c.are_zero.ensures.zero.0 yes), omega (arith, ints)),
      λ parts. c.are_zero.ensures.zero.1
          (zero.1 parts.0),
    )
