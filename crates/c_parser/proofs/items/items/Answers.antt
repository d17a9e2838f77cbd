use Rattle.std.proofs.Common.{◌≡◌, suc, Some, rules, arith}
use Rattle.c_grammar.specs.Input.{Taken, next}
use Rattle.std.proofs.lemmas.Grind.{common_steps}
use Rattle.c_grammar.specs.Reading.{turns}
use Rattle.c_grammar.specs.FileReading.{items_from}
use Rattle.c_parser.proofs.ItemLists.{after-first, goes_on, stops, ends, runs_out}
use Rattle.c_parser.proofs.items.items.Goals as goal

pub loop-turn-init : goal.loop-turn-init
loop-turn-init c =
    let e = after-first (items_from 200 (suc (turns c.args.cursor.now)) c.args.cursor.now) in
    first_of (search rules, grind (arith, common_steps))

pub returns-then-is_none : goal.returns-then-is_none
returns-then-is_none c = first_of (search (rules, ends), grind (arith, common_steps, ends))

pub returns-in_err-one_item : goal.returns-in_err-one_item
returns-in_err-one_item c = first_of (search (rules, stops), grind (arith, common_steps, stops))

pub loop-turn-preserved : goal.loop-turn-preserved
loop-turn-preserved c =
    let e = λ (taken : Taken) (t : next c.loop-turn.cursor ≡ Some taken). goes_on (items_from 200 (suc (turns c.args.cursor.now)) c.args.cursor.now) c.loop-turn.found
    c.turns_and_one-turn-end.result c.loop-turn._turn c.loop-turn.cursor c.one_item.new.cursor taken
    c.in_ok-one_item.field-0 c.loop-turn-test.true c.loop-turn.invariant t c.in_ok-one_item.ensures in
    first_of (search rules, grind (arith, common_steps, e))

pub returns : goal.returns
returns c = first_of (search (rules, runs_out), grind (arith, common_steps, runs_out))
