use Rattle.std.proofs.Common.{◌≡◌, ◌-◌, suc}
use Rattle.c_grammar.specs.Reading.{turns}
use Rattle.c_grammar.specs.FileReading.{items_from}
use Rattle.c_parser.proofs.ItemLists.{after}
use Rattle.c_parser.proofs.items.items.Given as goal

abbrev pub invariant-loop-turn : goal.invariant-loop-turn
invariant-loop-turn l = items_from 200 (suc (turns l.fn.cursor)) l.fn.cursor
    ≡ after l.found (items_from 200 (l._turn-end - l._turn) l.cursor)
