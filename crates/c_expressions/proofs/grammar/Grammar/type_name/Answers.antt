use Rattle.std.proofs.Common.{◌≡◌, ◌≢◌, refl, arith}
use Rattle.c_expressions.proofs.Nested.{nested-nothing, nested-once}
use Rattle.c_expressions.proofs.grammar.Grammar.type_name.Goals as goal

pub returns-then-self-eq0 : goal.returns-then-self-eq0
returns-then-self-eq0 g c =
    let none : c.args.self.now.room ≡ 0 = omega arith in rw (nested-nothing c.args.self.now.room none) refl

pub returns : goal.returns
returns g c =
    let some : c.args.self.now.room ≢ 0 = omega arith in
    rw (nested-once c.args.self.now.room some) c.type_named.ensures
