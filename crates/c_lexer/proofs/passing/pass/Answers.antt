use Rattle.std.proofs.Common.{◌+◌, sym, subst}
use Rattle.std.proofs.lemmas.List.{take_rest}
use Rattle.c_lexer.specs.Scanning.Reading.{HasPassed}
use Rattle.c_lexer.proofs.Totality.{passes}
use Rattle.c_lexer.proofs.passing.pass.Goals as goal

pub loop-passed-preserved : goal.loop-passed-preserved
loop-passed-preserved c =
    let bytes = c.args.bytes.now in
    let passed = c.loop-passed.passed in
    let next = c.in-Some.next in
    let made = c.in-Some.ensures in
    subst (λ k. HasPassed bytes (passed.at + next.at) next.fresh (passed.tokens + k)) (sym made.2.3)
    (passes bytes _ passed.at next.at passed.fresh next.fresh passed.tokens made.2.0 c.loop-passed.invariant (take_rest bytes passed.at) made.0 made.1 made.2.1 made.2.2)
