use Rattle.std.proofs.Common.{◌≡◌, ◌-◌}
use Rattle.c_grammar.specs.Reading.{turns, group_from}
use Rattle.c_cursor.proofs.Turns.{behind}
use Rattle.c_cursor.proofs.attribute_lists.group.Given as goal

abbrev pub invariant-loop-turn : goal.invariant-loop-turn
invariant-loop-turn l = group_from (turns l.fn.cursor) l.fn.cursor ≡ behind l.found (group_from (l._turn-end - l._turn) l.cursor)
