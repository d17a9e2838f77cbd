use Rattle.std.proofs.Common.{arith}
use Rattle.std.proofs.lemmas.Int.{ints}
use Rattle.rc_terms.proofs.Shifts.{arithmetic_shift}
use Rattle.rc_terms.proofs.numbers.shifted_right.Goals as goal

pub returns-in_default : goal.returns-in_default
returns-in_default c = arithmetic_shift c.args.a c.args.b c.ranges.a (omega (arith, ints))
