use Rattle.std.proofs.Common.{rules, arith}
use Rattle.std.proofs.lemmas.Grind.{common_steps}
use Rattle.c_grammar.specs.DeclarationReading.{member_names_from}
use Rattle.c_cursor.proofs.Turns.{one_more, no_more, behind, behind-behind, behind-nothing}
use Rattle.c_expressions.specs.Parts.{reader}
use Rattle.c_declarations.proofs.Depth.{declarators-more}
use Rattle.c_declarations.proofs.records.member_names.Goals as goal

pub returns-in_err-one : goal.returns-in_err-one
unfolding member_names_from
returns-in_err-one c =
    let e = one_more (λ n. behind c.loop-turn.tree (member_names_from (reader 200) n c.loop-turn.cursor))
    _ c.loop-turn._turn c.loop-turn-test.true c.loop-turn.invariant.reads in
    first_of (search rules, grind (arith, common_steps, behind-behind, behind-nothing))

pub returns-in_err-close_members : goal.returns-in_err-close_members
unfolding member_names_from
returns-in_err-close_members c =
    let e = one_more (λ n. behind c.loop-turn.tree (member_names_from (reader 200) n c.loop-turn.cursor))
    _ c.loop-turn._turn c.loop-turn-test.true c.loop-turn.invariant.reads in
    first_of (search rules, grind (arith, common_steps, behind-behind, behind-nothing))

pub returns-then-not-mark : goal.returns-then-not-mark
unfolding member_names_from
returns-then-not-mark c =
    let e = one_more (λ n. behind c.loop-turn.tree (member_names_from (reader 200) n c.loop-turn.cursor))
    _ c.loop-turn._turn c.loop-turn-test.true c.loop-turn.invariant.reads in
    first_of (search rules, grind (arith, common_steps, behind-behind, behind-nothing, declarators-more))

pub loop-turn-preserved : goal.loop-turn-preserved
unfolding member_names_from
loop-turn-preserved c =
    let e = one_more (λ n. behind c.loop-turn.tree (member_names_from (reader 200) n c.loop-turn.cursor))
    _ c.loop-turn._turn c.loop-turn-test.true c.loop-turn.invariant.reads in
    first_of (search rules, grind (arith, common_steps, behind-behind, behind-nothing, declarators-more))

pub returns : goal.returns
unfolding member_names_from
returns c =
    let e = no_more (λ n. behind c.loop-turn.tree (member_names_from (reader 200) n c.loop-turn.cursor))
    _ c.loop-turn._turn c.loop-turn-test.false c.loop-turn.invariant.reads in
    first_of (search rules, grind (arith, common_steps, behind-behind, behind-nothing))
