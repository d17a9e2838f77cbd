use Rattle.std.proofs.Common.{suc, rules, arith}
use Rattle.std.proofs.lemmas.Grind.{common_steps}
use Rattle.c_grammar.specs.Reading.{turns, pointers, pointers_from}
use Rattle.c_cursor.proofs.Turns.{one_more, no_more, counted_behind, counted-one, counted-first, counted-nothing}
use Rattle.c_cursor.proofs.type_words.pointers.Goals as goal

pub loop-turn-init : goal.loop-turn-init
unfolding pointers
loop-turn-init c =
    let e = counted-first (pointers_from (suc (turns c.args.cursor.now)) c.args.cursor.now) in
    first_of (search rules, grind (arith, common_steps))

pub returns-then-not-mark : goal.returns-then-not-mark
unfolding pointers_from
returns-then-not-mark c =
    let e = one_more (λ n. counted_behind c.loop-turn.count (pointers_from n c.loop-turn.cursor)) _ c.loop-turn._turn c.loop-turn-test.true c.loop-turn.invariant.reads in
    first_of (search rules, grind (arith, common_steps, counted-one, counted-nothing))

pub returns-in_err-words : goal.returns-in_err-words
unfolding pointers_from
returns-in_err-words c =
    let e = one_more (λ n. counted_behind c.loop-turn.count (pointers_from n c.loop-turn.cursor)) _ c.loop-turn._turn c.loop-turn-test.true c.loop-turn.invariant.reads in
    first_of (search rules, grind (arith, common_steps, counted-one, counted-nothing))

pub loop-turn-preserved : goal.loop-turn-preserved
unfolding pointers_from
loop-turn-preserved c =
    let e = one_more (λ n. counted_behind c.loop-turn.count (pointers_from n c.loop-turn.cursor)) _ c.loop-turn._turn c.loop-turn-test.true c.loop-turn.invariant.reads in
    first_of (search rules, grind (arith, common_steps, counted-one, counted-nothing))

pub returns : goal.returns
unfolding pointers_from
returns c =
    let e = no_more (λ n. counted_behind c.loop-turn.count (pointers_from n c.loop-turn.cursor)) _ c.loop-turn._turn c.loop-turn-test.false c.loop-turn.invariant.reads in
    first_of (search rules, grind (arith, common_steps, counted-one, counted-nothing))
