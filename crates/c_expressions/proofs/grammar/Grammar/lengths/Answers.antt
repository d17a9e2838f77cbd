use Rattle.std.proofs.Common.{suc, rules, arith}
use Rattle.std.proofs.lemmas.Grind.{common_steps}
use Rattle.c_grammar.specs.Reading.{turns, lengths, lengths_from}
use Rattle.c_cursor.proofs.Turns.{one_more, no_more, behind, behind-behind, behind-nothing, behind-first}
use Rattle.c_expressions.specs.Parts.{reader}
use Rattle.c_expressions.proofs.TypeDepths.{lengths-append}
use Rattle.c_expressions.proofs.grammar.Grammar.lengths.Goals as goal

pub loop-turn-init : goal.loop-turn-init
unfolding lengths
loop-turn-init g c =
    let e = behind-first (lengths_from (reader c.args.self.now.room) (suc (turns c.args.cursor.now)) c.args.cursor.now) in
    first_of (search rules, grind (arith, common_steps))

pub returns-in_err-length : goal.returns-in_err-length
unfolding lengths_from
returns-in_err-length g c =
    let e = one_more
    (λ n. behind c.loop-turn.tree (lengths_from (reader c.args.self.now.room) n c.loop-turn.cursor))
    _ c.loop-turn._turn c.loop-turn-test.true c.loop-turn.invariant.reads in
    first_of (search rules, grind (arith, common_steps, behind-behind, behind-nothing))

pub returns-in_err-expect : goal.returns-in_err-expect
unfolding lengths_from
returns-in_err-expect g c =
    let e = one_more
    (λ n. behind c.loop-turn.tree (lengths_from (reader c.args.self.now.room) n c.loop-turn.cursor))
    _ c.loop-turn._turn c.loop-turn-test.true c.loop-turn.invariant.reads in
    first_of (search rules, grind (arith, common_steps, behind-behind, behind-nothing))

pub returns-then-not-mark : goal.returns-then-not-mark
unfolding lengths_from
returns-then-not-mark g c =
    let e = one_more
    (λ n. behind c.loop-turn.tree (lengths_from (reader c.args.self.now.room) n c.loop-turn.cursor))
    _ c.loop-turn._turn c.loop-turn-test.true c.loop-turn.invariant.reads in
    (first_of (search rules, grind (arith, common_steps, behind-behind, behind-nothing)), c.loop-turn.invariant.deep)

pub loop-turn-preserved : goal.loop-turn-preserved
unfolding lengths_from
loop-turn-preserved g c =
    let e = one_more
    (λ n. behind c.loop-turn.tree (lengths_from (reader c.args.self.now.room) n c.loop-turn.cursor))
    _ c.loop-turn._turn c.loop-turn-test.true c.loop-turn.invariant.reads in
    record {
      reads = first_of (search rules, grind (arith, common_steps, behind-behind, behind-nothing));
      deep = grind (arith, common_steps, lengths-append);
    }

pub returns : goal.returns
unfolding lengths_from
returns g c =
    let e = no_more
    (λ n. behind c.loop-turn.tree (lengths_from (reader c.args.self.now.room) n c.loop-turn.cursor))
    _ c.loop-turn._turn c.loop-turn-test.false c.loop-turn.invariant.reads in
    first_of (search rules, grind (arith, common_steps, behind-behind, behind-nothing))
