use Rattle.std.proofs.Common.{ap, of_z, arith}
use Rattle.std.proofs.lemmas.Int.{ints}
use mir.Syntax.{w128}
use Rattle.rc_terms.proofs.Shifts.{too_far}
use Rattle.rc_terms.proofs.numbers.shifted_left.Goals as goal

pub returns-else-a-eq0 : goal.returns-else-a-eq0
returns-else-a-eq0 c = too_far c.args.a c.args.b (λ e. c.if-a-eq0.false (ap (of_z w128) e)) (omega (arith, ints))
