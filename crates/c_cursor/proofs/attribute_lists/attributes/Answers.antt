use Rattle.std.proofs.Common.{suc, rules, arith}
use Rattle.std.proofs.lemmas.Grind.{common_steps}
use Rattle.c_grammar.specs.Reading.{turns, attributes, attributes_from}
use Rattle.c_cursor.proofs.Turns.{one_more, no_more, behind, behind-behind, behind-nothing, behind-first}
use Rattle.c_cursor.proofs.attribute_lists.attributes.Goals as goal

pub loop-turn-init : goal.loop-turn-init
unfolding attributes
loop-turn-init c =
    let e = behind-first (attributes_from (suc (turns c.args.cursor.now)) c.args.cursor.now) in
    first_of (search rules, grind (arith, common_steps))

pub returns-then-not-mark : goal.returns-then-not-mark
unfolding attributes_from
returns-then-not-mark c =
    let e = one_more (λ n. behind c.loop-turn.found (attributes_from n c.loop-turn.cursor)) _ c.loop-turn._turn c.loop-turn-test.true c.loop-turn.invariant in
    first_of (search rules, grind (arith, common_steps, behind-behind, behind-nothing))

pub returns-in_err-expect : goal.returns-in_err-expect
unfolding attributes_from
returns-in_err-expect c =
    let e = one_more (λ n. behind c.loop-turn.found (attributes_from n c.loop-turn.cursor)) _ c.loop-turn._turn c.loop-turn-test.true c.loop-turn.invariant in
    first_of (search rules, grind (arith, common_steps, behind-behind, behind-nothing))

pub returns-in_err-group : goal.returns-in_err-group
unfolding attributes_from
returns-in_err-group c =
    let e = one_more (λ n. behind c.loop-turn.found (attributes_from n c.loop-turn.cursor)) _ c.loop-turn._turn c.loop-turn-test.true c.loop-turn.invariant in
    first_of (search rules, grind (arith, common_steps, behind-behind, behind-nothing))

pub loop-turn-preserved : goal.loop-turn-preserved
unfolding attributes_from
loop-turn-preserved c =
    let e = one_more (λ n. behind c.loop-turn.found (attributes_from n c.loop-turn.cursor)) _ c.loop-turn._turn c.loop-turn-test.true c.loop-turn.invariant in
    first_of (search rules, grind (arith, common_steps, behind-behind, behind-nothing))

pub returns : goal.returns
unfolding attributes_from
returns c =
    let e = no_more (λ n. behind c.loop-turn.found (attributes_from n c.loop-turn.cursor)) _ c.loop-turn._turn c.loop-turn-test.false c.loop-turn.invariant in
    first_of (search rules, grind (arith, common_steps, behind-behind, behind-nothing))
