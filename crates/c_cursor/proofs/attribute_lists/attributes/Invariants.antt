use Rattle.std.proofs.Common.{◌≡◌, ◌-◌}
use Rattle.c_grammar.specs.Reading.{attributes, attributes_from}
use Rattle.c_cursor.proofs.Turns.{behind}
use Rattle.c_cursor.proofs.attribute_lists.attributes.Given as goal

abbrev pub invariant-loop-turn : goal.invariant-loop-turn
invariant-loop-turn l = attributes l.fn.cursor ≡ behind l.found (attributes_from (l._turn-end - l._turn) l.cursor)
