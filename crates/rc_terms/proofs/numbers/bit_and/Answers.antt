use Rattle.rc_terms.proofs.Bits.{bits_of_both_is}
use Rattle.rc_terms.proofs.numbers.bit_and.Goals as goal

pub returns : goal.returns
returns c = bits_of_both_is c.args.a c.args.b c.ranges.a c.ranges.b
