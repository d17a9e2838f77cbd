use Rattle.std.proofs.Common.{◌≡◌, ◌≢◌, true, rules, arith}
use Rattle.std.proofs.lemmas.Grind.{common_steps}
use Rattle.std.specs.List.{list_any}
use Rattle.c_grammar.specs.Specifiers.{is_integer_word}
use Rattle.c_grammar.specs.DeclarationReading.{members_from}
use Rattle.c_cursor.proofs.Turns.{one_more, no_more, behind, behind-behind, behind-nothing}
use Rattle.c_expressions.specs.Parts.{reader}
use Rattle.c_declarations.specs.Parts.{member_types}
use Rattle.c_declarations.proofs.Depth.{members-more}
use Rattle.c_declarations.proofs.RecordSteps.{one_less, defining-integer}
use Rattle.c_declarations.proofs.records.+records.Goals as goal

pub members-returns-in_err-one : goal.members-returns-in_err-one
unfolding members_from
members-returns-in_err-one t c =
    let e = one_more
    (λ n. behind c.loop-turn.tree (members_from (reader 200) (member_types c.args.room) n c.loop-turn.cursor))
    _ c.loop-turn._turn c.loop-turn-test.true c.loop-turn.invariant.reads in
    first_of (search rules, grind (arith, common_steps, behind-behind, behind-nothing))

pub members-returns-then-mark : goal.members-returns-then-mark
unfolding members_from
members-returns-then-mark t c =
    let e = one_more
    (λ n. behind c.loop-turn.tree (members_from (reader 200) (member_types c.args.room) n c.loop-turn.cursor))
    _ c.loop-turn._turn c.loop-turn-test.true c.loop-turn.invariant.reads in
    first_of (search rules, grind (arith, common_steps, behind-behind, behind-nothing, members-more))

pub members-loop-turn-preserved : goal.members-loop-turn-preserved
unfolding members_from
members-loop-turn-preserved t c =
    let e = one_more
    (λ n. behind c.loop-turn.tree (members_from (reader 200) (member_types c.args.room) n c.loop-turn.cursor))
    _ c.loop-turn._turn c.loop-turn-test.true c.loop-turn.invariant.reads in
    first_of (search rules, grind (arith, common_steps, behind-behind, behind-nothing, members-more))

pub members-returns : goal.members-returns
unfolding members_from
members-returns t c =
    let e = no_more
    (λ n. behind c.loop-turn.tree (members_from (reader 200) (member_types c.args.room) n c.loop-turn.cursor))
    _ c.loop-turn._turn c.loop-turn-test.false c.loop-turn.invariant.reads in
    first_of (search rules, grind (arith, common_steps, behind-behind, behind-nothing))

pub nested-returns-else-room-eq0 : goal.nested-returns-else-room-eq0
nested-returns-else-room-eq0 t c =
    let some : c.args.room ≢ 0 = omega arith in
    rw (one_less c.args.room c.args.cursor.now some) c.words_round.ensures

pub words_round-returns-then-has_integer_word : goal.words_round-returns-then-has_integer_word
words_round-returns-then-has_integer_word t c =
    let some : list_any is_integer_word c.in_ok-before.before ≡ true = cc in
    rw (defining-integer c.args.room c.args.cursor.now c.words.new.cursor c.in_ok-before.before
    c.in_ok-before.ensures some)
    (c.integers.ensures c.words.new.cursor)
