use Rattle.std.proofs.Common.{rules, arith}
use Rattle.std.proofs.lemmas.Grind.{common_steps}
use Rattle.c_grammar.specs.Reading.{nested, arguments_from}
use Rattle.c_cursor.proofs.Turns.{one_more, no_more, behind, behind-behind, behind-nothing}
use Rattle.c_expressions.proofs.TypeDepths.{expressions-append}
use Rattle.c_expressions.proofs.grammar.Grammar.arguments_inside.Goals as goal

pub returns-in_err-argument : goal.returns-in_err-argument
unfolding arguments_from
returns-in_err-argument g c =
    let e = one_more
    (λ n. behind c.loop-turn.tree (arguments_from 200 (nested 200 c.args.self.now.room) n c.loop-turn.cursor))
    _ c.loop-turn._turn c.loop-turn-test.true c.loop-turn.invariant.reads in
    first_of (search rules, grind (arith, common_steps, behind-behind, behind-nothing))

pub returns-in_err-expect : goal.returns-in_err-expect
unfolding arguments_from
returns-in_err-expect g c =
    let e = one_more
    (λ n. behind c.loop-turn.tree (arguments_from 200 (nested 200 c.args.self.now.room) n c.loop-turn.cursor))
    _ c.loop-turn._turn c.loop-turn-test.true c.loop-turn.invariant.reads in
    first_of (search rules, grind (arith, common_steps, behind-behind, behind-nothing))

pub returns-then-not-mark : goal.returns-then-not-mark
unfolding arguments_from
returns-then-not-mark g c =
    let e = one_more
    (λ n. behind c.loop-turn.tree (arguments_from 200 (nested 200 c.args.self.now.room) n c.loop-turn.cursor))
    _ c.loop-turn._turn c.loop-turn-test.true c.loop-turn.invariant.reads in (
      first_of (search rules, grind (arith, common_steps, behind-behind, behind-nothing)),
      grind (arith, common_steps, expressions-append),
    )

pub loop-turn-preserved : goal.loop-turn-preserved
unfolding arguments_from
loop-turn-preserved g c =
    let e = one_more
    (λ n. behind c.loop-turn.tree (arguments_from 200 (nested 200 c.args.self.now.room) n c.loop-turn.cursor))
    _ c.loop-turn._turn c.loop-turn-test.true c.loop-turn.invariant.reads in
    record {
      reads = first_of (search rules, grind (arith, common_steps, behind-behind, behind-nothing));
      deep = grind (arith, common_steps, expressions-append);
    }

pub returns : goal.returns
unfolding arguments_from
returns g c =
    let e = no_more
    (λ n. behind c.loop-turn.tree (arguments_from 200 (nested 200 c.args.self.now.room) n c.loop-turn.cursor))
    _ c.loop-turn._turn c.loop-turn-test.false c.loop-turn.invariant.reads in
    first_of (search rules, grind (arith, common_steps, behind-behind, behind-nothing))
