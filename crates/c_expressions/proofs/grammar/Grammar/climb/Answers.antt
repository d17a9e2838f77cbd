use Rattle.std.proofs.Common.{rules, arith}
use Rattle.std.proofs.lemmas.Grind.{common_steps}
use Rattle.c_grammar.specs.Reading.{nested, climb}
use Rattle.c_cursor.proofs.Turns.{one_more, no_more}
use Rattle.c_expressions.proofs.grammar.Grammar.climb.Goals as goal

pub returns-in_err-more-in-Some : goal.returns-in_err-more-in-Some
unfolding climb
returns-in_err-more-in-Some g c =
    let e = one_more (λ n. climb 200 (nested 200 c.args.self.now.room) c.args.wanted n
    (record { tree = c.loop-turn.deep.tree; level = c.loop-turn.level; rest = c.loop-turn.cursor }))
    _ c.loop-turn._turn c.loop-turn-test.true c.loop-turn.invariant.reads in
    first_of (search rules, grind (arith, common_steps))

pub returns-in_default : goal.returns-in_default
unfolding climb
returns-in_default g c =
    let e = one_more (λ n. climb 200 (nested 200 c.args.self.now.room) c.args.wanted n
    (record { tree = c.loop-turn.deep.tree; level = c.loop-turn.level; rest = c.loop-turn.cursor }))
    _ c.loop-turn._turn c.loop-turn-test.true c.loop-turn.invariant.reads in
    first_of (search rules, grind (arith, common_steps))

pub loop-turn-preserved : goal.loop-turn-preserved
unfolding climb
loop-turn-preserved g c =
    let e = one_more (λ n. climb 200 (nested 200 c.args.self.now.room) c.args.wanted n
    (record { tree = c.loop-turn.deep.tree; level = c.loop-turn.level; rest = c.loop-turn.cursor }))
    _ c.loop-turn._turn c.loop-turn-test.true c.loop-turn.invariant.reads in
    first_of (search rules, grind (arith, common_steps))

pub returns : goal.returns
unfolding climb
returns g c =
    let e = no_more (λ n. climb 200 (nested 200 c.args.self.now.room) c.args.wanted n
    (record { tree = c.loop-turn.deep.tree; level = c.loop-turn.level; rest = c.loop-turn.cursor }))
    _ c.loop-turn._turn c.loop-turn-test.false c.loop-turn.invariant.reads in
    first_of (search rules, grind (arith, common_steps))
