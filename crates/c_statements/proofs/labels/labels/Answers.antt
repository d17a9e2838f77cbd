use Rattle.std.proofs.Common.{◌+◌, ◌-◌, Some, rules, arith, sym, ap, ◌∙◌}
use Rattle.std.proofs.lemmas.Grind.{common_steps}
use Rattle.c_cursor.proofs.Turns.{one_more, no_more, behind, behind-behind, behind-nothing}
use Rattle.c_grammar.specs.StatementReading.{labels_from}
use Rattle.c_syntax.specs.Depth.{label_depth}
use Rattle.c_expressions.specs.Parts.{reader}
use Rattle.c_statements.proofs.Depths.{counted-one_more}
use Rattle.c_statements.proofs.Lists.{labels-last, labels-more}
use Rattle.c_statements.proofs.labels.labels.Goals as goal

pub returns-in_err-one : goal.returns-in_err-one
unfolding labels_from
returns-in_err-one c =
    let e = one_more (λ n. behind c.loop-turn.tree (labels_from (reader 200) n c.loop-turn.cursor)) _ c.loop-turn._turn c.loop-turn-test.true c.loop-turn.invariant.reads in
    first_of (search rules, grind (arith, common_steps, behind-behind, behind-nothing))

pub returns-then-not-begins_label : goal.returns-then-not-begins_label
returns-then-not-begins_label c =
    let e = one_more (λ n. behind c.loop-turn.tree (labels_from (reader 200) n c.loop-turn.cursor)) _ c.loop-turn._turn c.loop-turn-test.true c.loop-turn.invariant.reads in
    let m = labels-last (c.turns-turn-end.result - (c.loop-turn._turn + 1)) c.loop-turn.cursor c.label.new.cursor c.loop-turn.tree c.in_ok-one.one.tree c.in_ok-one.ensures.0 (sym c.begins_label.ensures ∙ c.if-not-begins_label.true) in
    let d = counted-one_more label_depth c.loop-turn.tree c.in_ok-one.one.tree c.in_ok-one.one.depth c.loop-turn.depth c.in_ok-one.ensures.1 c.loop-turn.invariant.depth in (
      (e ∙ m) ∙ ap (λ list. Some (list, c.label.new.cursor)) (sym c.in_ok-push.ensures.ok),
      rw c.in_ok-push.ensures.ok (omega (arith, d)),
    )

pub loop-turn-preserved : goal.loop-turn-preserved
loop-turn-preserved c =
    let e = one_more (λ n. behind c.loop-turn.tree (labels_from (reader 200) n c.loop-turn.cursor)) _ c.loop-turn._turn c.loop-turn-test.true c.loop-turn.invariant.reads in
    let m = labels-more (c.turns-turn-end.result - (c.loop-turn._turn + 1)) c.loop-turn.cursor c.label.new.cursor c.loop-turn.tree c.in_ok-one.one.tree c.in_ok-one.ensures.0 (sym c.begins_label.ensures ∙ c.if-not-begins_label.false) in
    let d = counted-one_more label_depth c.loop-turn.tree c.in_ok-one.one.tree c.in_ok-one.one.depth c.loop-turn.depth c.in_ok-one.ensures.1 c.loop-turn.invariant.depth in
    record {
      reads = (e ∙ m) ∙ ap (λ list. behind list (labels_from (reader 200) (c.turns-turn-end.result - (c.loop-turn._turn + 1)) c.label.new.cursor)) (sym c.in_ok-push.ensures.ok);
      depth = rw c.in_ok-push.ensures.ok (omega (arith, d));
    }

pub returns : goal.returns
unfolding labels_from
returns c =
    let e = no_more (λ n. behind c.loop-turn.tree (labels_from (reader 200) n c.loop-turn.cursor)) _ c.loop-turn._turn c.loop-turn-test.false c.loop-turn.invariant.reads in
    first_of (search rules, grind (arith, common_steps, behind-behind, behind-nothing))
