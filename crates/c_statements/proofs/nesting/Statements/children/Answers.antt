use Rattle.std.proofs.Common.{◌+◌, ◌-◌, rules, arith, sym, ap, ◌∙◌}
use Rattle.std.proofs.lemmas.Grind.{common_steps}
use Rattle.c_cursor.proofs.Turns.{one_more, no_more, behind, behind-behind, behind-nothing}
use Rattle.c_syntax.specs.Depth.{statement_depth}
use Rattle.c_grammar.specs.StatementReading.{kind_at, children_from}
use Rattle.c_expressions.specs.Parts.{reader}
use Rattle.c_statements.specs.Parts.{position_seen}
use Rattle.c_statements.proofs.Depths.{counted-one_more}
use Rattle.c_statements.proofs.Lists.{children-more, children-end}
use Rattle.c_statements.proofs.nesting.Statements.children.Goals as goal

pub returns-then-mark : goal.returns-then-mark
returns-then-mark g c =
    let e = one_more (λ n. behind c.loop-turn.tree (children_from (reader 200) (kind_at (reader 200) c.args.self.now.room) (position_seen c.args.position) n c.loop-turn.cursor)) _ c.loop-turn._turn c.loop-turn-test.true c.loop-turn.invariant.reads in
    (e ∙ children-end c.args.self.now.room (position_seen c.args.position) (c.turns-turn-end.result - (c.loop-turn._turn + 1)) c.loop-turn.cursor c.mark.new.self c.loop-turn.tree c.if-mark.ensures, c.loop-turn.invariant.depth)

pub returns-in_err-one : goal.returns-in_err-one
unfolding children_from
returns-in_err-one g c =
    let e = one_more (λ n. behind c.loop-turn.tree (children_from (reader 200) (kind_at (reader 200) c.args.self.now.room) (position_seen c.args.position) n c.loop-turn.cursor)) _ c.loop-turn._turn c.loop-turn-test.true c.loop-turn.invariant.reads in
    first_of (search rules, grind (arith, common_steps, behind-behind, behind-nothing))

pub loop-turn-preserved : goal.loop-turn-preserved
loop-turn-preserved g c =
    let e = one_more (λ n. behind c.loop-turn.tree (children_from (reader 200) (kind_at (reader 200) c.args.self.now.room) (position_seen c.args.position) n c.loop-turn.cursor)) _ c.loop-turn._turn c.loop-turn-test.true c.loop-turn.invariant.reads in
    let m = children-more c.args.self.now.room (position_seen c.args.position) (c.turns-turn-end.result - (c.loop-turn._turn + 1)) c.loop-turn.cursor c.mark.new.self c.child.new.cursor c.loop-turn.tree c.in_ok-one.one.tree c.if-mark.ensures.0 c.if-mark.ensures.1 c.in_ok-one.ensures.0 in
    let d = counted-one_more statement_depth c.loop-turn.tree c.in_ok-one.one.tree c.in_ok-one.one.depth c.loop-turn.depth c.in_ok-one.ensures.1 c.loop-turn.invariant.depth in
    record {
      reads = (e ∙ m) ∙ ap (λ list. behind list (children_from (reader 200) (kind_at (reader 200) c.args.self.now.room) (position_seen c.args.position) (c.turns-turn-end.result - (c.loop-turn._turn + 1)) c.child.new.cursor)) (sym c.in_ok-push.ensures.ok);
      depth = rw c.in_ok-push.ensures.ok (omega (arith, d));
    }

pub returns : goal.returns
unfolding children_from
returns g c =
    let e = no_more (λ n. behind c.loop-turn.tree (children_from (reader 200) (kind_at (reader 200) c.args.self.now.room) (position_seen c.args.position) n c.loop-turn.cursor)) _ c.loop-turn._turn c.loop-turn-test.false c.loop-turn.invariant.reads in
    first_of (search rules, grind (arith, common_steps, behind-behind, behind-nothing))
