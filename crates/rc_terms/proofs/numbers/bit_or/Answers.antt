use Rattle.rc_terms.proofs.Bits.{bits_of_either_is}
use Rattle.rc_terms.proofs.numbers.bit_or.Goals as goal

pub returns : goal.returns
returns c = bits_of_either_is c.args.a c.args.b c.ranges.a c.ranges.b
