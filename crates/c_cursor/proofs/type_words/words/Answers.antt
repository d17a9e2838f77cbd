use Rattle.std.proofs.Common.{suc, rules, arith}
use Rattle.std.proofs.lemmas.Grind.{common_steps}
use Rattle.c_grammar.specs.Reading.{turns, words, words_from}
use Rattle.c_cursor.specs.Words.{test_of}
use Rattle.c_cursor.proofs.Turns.{one_more, no_more, behind, behind-behind, behind-nothing, behind-first}
use Rattle.c_cursor.proofs.type_words.words.Goals as goal

pub loop-turn-init : goal.loop-turn-init
unfolding words
loop-turn-init c =
    let e = behind-first (words_from (test_of c.args.test) (suc (turns c.args.cursor.now)) c.args.cursor.now) in
    first_of (search rules, grind (arith, common_steps))

pub returns-in-None : goal.returns-in-None
unfolding words_from
returns-in-None c =
    let e = one_more (λ n. behind c.loop-turn.found (words_from (test_of c.args.test) n c.loop-turn.cursor)) _ c.loop-turn._turn c.loop-turn-test.true c.loop-turn.invariant in
    first_of (search rules, grind (arith, common_steps, behind-behind, behind-nothing))

pub loop-turn-preserved : goal.loop-turn-preserved
unfolding words_from
loop-turn-preserved c =
    let e = one_more (λ n. behind c.loop-turn.found (words_from (test_of c.args.test) n c.loop-turn.cursor)) _ c.loop-turn._turn c.loop-turn-test.true c.loop-turn.invariant in
    first_of (search rules, grind (arith, common_steps, behind-behind, behind-nothing))

pub returns : goal.returns
unfolding words_from
returns c =
    let e = no_more (λ n. behind c.loop-turn.found (words_from (test_of c.args.test) n c.loop-turn.cursor)) _ c.loop-turn._turn c.loop-turn-test.false c.loop-turn.invariant in
    first_of (search rules, grind (arith, common_steps, behind-behind, behind-nothing))
