use Rattle.std.proofs.Common.{rules, arith}
use Rattle.std.proofs.lemmas.Grind.{common_steps}
use Rattle.c_grammar.specs.Reading.{texts_from}
use Rattle.c_cursor.proofs.Turns.{one_more, no_more, behind, behind-behind, behind-nothing}
use Rattle.c_cursor.proofs.attribute_lists.texts.Goals as goal

pub returns-in_err-text : goal.returns-in_err-text
unfolding texts_from
returns-in_err-text c =
    let e = one_more (λ n. behind c.loop-turn.found (texts_from n c.loop-turn.cursor)) _ c.loop-turn._turn c.loop-turn-test.true c.loop-turn.invariant in
    first_of (search rules, grind (arith, common_steps, behind-behind, behind-nothing))

pub returns-in_err-expect : goal.returns-in_err-expect
unfolding texts_from
returns-in_err-expect c =
    let e = one_more (λ n. behind c.loop-turn.found (texts_from n c.loop-turn.cursor)) _ c.loop-turn._turn c.loop-turn-test.true c.loop-turn.invariant in
    first_of (search rules, grind (arith, common_steps, behind-behind, behind-nothing))

pub returns-then-not-mark : goal.returns-then-not-mark
unfolding texts_from
returns-then-not-mark c =
    let e = one_more (λ n. behind c.loop-turn.found (texts_from n c.loop-turn.cursor)) _ c.loop-turn._turn c.loop-turn-test.true c.loop-turn.invariant in
    first_of (search rules, grind (arith, common_steps, behind-behind, behind-nothing))

pub loop-turn-preserved : goal.loop-turn-preserved
unfolding texts_from
loop-turn-preserved c =
    let e = one_more (λ n. behind c.loop-turn.found (texts_from n c.loop-turn.cursor)) _ c.loop-turn._turn c.loop-turn-test.true c.loop-turn.invariant in
    first_of (search rules, grind (arith, common_steps, behind-behind, behind-nothing))

pub returns : goal.returns
unfolding texts_from
returns c =
    let e = no_more (λ n. behind c.loop-turn.found (texts_from n c.loop-turn.cursor)) _ c.loop-turn._turn c.loop-turn-test.false c.loop-turn.invariant in
    first_of (search rules, grind (arith, common_steps, behind-behind, behind-nothing))
