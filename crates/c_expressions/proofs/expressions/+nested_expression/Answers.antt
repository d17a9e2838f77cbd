use Rattle.std.proofs.Common.{◌≡◌, ◌≢◌, refl, arith}
use Rattle.c_grammar.specs.Reading.{nested}
use Rattle.c_expressions.proofs.Nested.{nested-nothing, nested-once}
use Rattle.c_expressions.proofs.expressions.+nested_expression.Goals as goal

pub returns-then-room-eq0 : goal.returns-then-room-eq0
unfolding nested
returns-then-room-eq0 t c =
    let none : c.args.room ≡ 0 = omega arith in rw (nested-nothing c.args.room none) refl

pub returns : goal.returns
unfolding nested
returns t c =
    let some : c.args.room ≢ 0 = omega arith in rw (nested-once c.args.room some) c.whole.ensures
