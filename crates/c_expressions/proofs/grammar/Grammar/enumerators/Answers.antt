use Rattle.std.proofs.Common.{rules, arith}
use Rattle.std.proofs.lemmas.Grind.{common_steps}
use Rattle.c_grammar.specs.Reading.{enumerators_from}
use Rattle.c_cursor.proofs.Turns.{one_more, no_more, behind, behind-behind, behind-nothing}
use Rattle.c_expressions.specs.Parts.{reader}
use Rattle.c_expressions.proofs.TypeDepths.{enumerators-append}
use Rattle.c_expressions.proofs.grammar.Grammar.enumerators.Goals as goal

pub returns-in_err-one : goal.returns-in_err-one
unfolding enumerators_from
returns-in_err-one g c =
    let e = one_more
    (λ n. behind c.loop-turn.tree (enumerators_from (reader c.args.self.now.room) n c.loop-turn.cursor))
    _ c.loop-turn._turn c.loop-turn-test.true c.loop-turn.invariant.reads in
    first_of (search rules, grind (arith, common_steps, behind-behind, behind-nothing))

pub returns-in_err-expect : goal.returns-in_err-expect
unfolding enumerators_from
returns-in_err-expect g c =
    let e = one_more
    (λ n. behind c.loop-turn.tree (enumerators_from (reader c.args.self.now.room) n c.loop-turn.cursor))
    _ c.loop-turn._turn c.loop-turn-test.true c.loop-turn.invariant.reads in
    first_of (search rules, grind (arith, common_steps, behind-behind, behind-nothing))

pub returns-then-not-mark : goal.returns-then-not-mark
unfolding enumerators_from
returns-then-not-mark g c =
    let e = one_more
    (λ n. behind c.loop-turn.tree (enumerators_from (reader c.args.self.now.room) n c.loop-turn.cursor))
    _ c.loop-turn._turn c.loop-turn-test.true c.loop-turn.invariant.reads in (
      first_of (search rules, grind (arith, common_steps, behind-behind, behind-nothing)),
      grind (arith, common_steps, enumerators-append),
    )

pub returns-then-mark : goal.returns-then-mark
unfolding enumerators_from
returns-then-mark g c =
    let e = one_more
    (λ n. behind c.loop-turn.tree (enumerators_from (reader c.args.self.now.room) n c.loop-turn.cursor))
    _ c.loop-turn._turn c.loop-turn-test.true c.loop-turn.invariant.reads in (
      first_of (search rules, grind (arith, common_steps, behind-behind, behind-nothing)),
      grind (arith, common_steps, enumerators-append),
    )

pub loop-turn-preserved : goal.loop-turn-preserved
unfolding enumerators_from
loop-turn-preserved g c =
    let e = one_more
    (λ n. behind c.loop-turn.tree (enumerators_from (reader c.args.self.now.room) n c.loop-turn.cursor))
    _ c.loop-turn._turn c.loop-turn-test.true c.loop-turn.invariant.reads in
    record {
      reads = first_of (search rules, grind (arith, common_steps, behind-behind, behind-nothing));
      deep = grind (arith, common_steps, enumerators-append);
    }

pub returns : goal.returns
unfolding enumerators_from
returns g c =
    let e = no_more
    (λ n. behind c.loop-turn.tree (enumerators_from (reader c.args.self.now.room) n c.loop-turn.cursor))
    _ c.loop-turn._turn c.loop-turn-test.false c.loop-turn.invariant.reads in
    first_of (search rules, grind (arith, common_steps, behind-behind, behind-nothing))
