use Rattle.std.proofs.Common.{rules, arith}
use Rattle.std.proofs.lemmas.Grind.{common_steps}
use Rattle.c_grammar.specs.DeclarationReading.{parameters_from}
use Rattle.c_cursor.proofs.Turns.{one_more, no_more, behind, behind-behind, behind-nothing}
use Rattle.c_expressions.specs.Parts.{reader}
use Rattle.c_declarations.proofs.Depth.{parameters-more}
use Rattle.c_declarations.proofs.parameters.parameters.Goals as goal

pub returns-in_err-one : goal.returns-in_err-one
unfolding parameters_from
returns-in_err-one c =
    let e = one_more (λ n. behind c.loop-turn.tree (parameters_from (reader 200) n c.loop-turn.cursor))
    _ c.loop-turn._turn c.loop-turn-test.true c.loop-turn.invariant.reads in
    first_of (search rules, grind (arith, common_steps, behind-behind, behind-nothing))

pub returns-in_err-close_parameters : goal.returns-in_err-close_parameters
unfolding parameters_from
returns-in_err-close_parameters c =
    let e = one_more (λ n. behind c.loop-turn.tree (parameters_from (reader 200) n c.loop-turn.cursor))
    _ c.loop-turn._turn c.loop-turn-test.true c.loop-turn.invariant.reads in
    first_of (search rules, grind (arith, common_steps, behind-behind, behind-nothing))

pub returns-then-not-mark : goal.returns-then-not-mark
unfolding parameters_from
returns-then-not-mark c =
    let e = one_more (λ n. behind c.loop-turn.tree (parameters_from (reader 200) n c.loop-turn.cursor))
    _ c.loop-turn._turn c.loop-turn-test.true c.loop-turn.invariant.reads in
    first_of (search rules, grind (arith, common_steps, behind-behind, behind-nothing, parameters-more))

pub loop-turn-preserved : goal.loop-turn-preserved
unfolding parameters_from
loop-turn-preserved c =
    let e = one_more (λ n. behind c.loop-turn.tree (parameters_from (reader 200) n c.loop-turn.cursor))
    _ c.loop-turn._turn c.loop-turn-test.true c.loop-turn.invariant.reads in
    let d = parameters-more c.loop-turn.tree c.in_ok-one.one.tree in
    record {
      reads = first_of (search rules, grind (arith, common_steps, behind-behind));
      deep = first_of (search rules, grind arith);
    }

pub returns : goal.returns
unfolding parameters_from
returns c =
    let e = no_more (λ n. behind c.loop-turn.tree (parameters_from (reader 200) n c.loop-turn.cursor))
    _ c.loop-turn._turn c.loop-turn-test.false c.loop-turn.invariant.reads in
    first_of (search rules, grind (arith, common_steps, behind-behind, behind-nothing))
