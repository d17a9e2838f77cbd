use Rattle.std.proofs.Common.{◌≡◌, ◌-◌, ◌≤◌}
use Rattle.c_grammar.specs.Reading.{pointers, pointers_from}
use Rattle.c_cursor.proofs.Turns.{counted_behind}
use Rattle.c_cursor.proofs.type_words.pointers.Given as goal

abbrev pub invariant-loop-turn : goal.invariant-loop-turn
invariant-loop-turn l = record {
  reads : pointers l.fn.cursor ≡ counted_behind l.count (pointers_from (l._turn-end - l._turn) l.cursor);
  fits : l.count ≤ l._turn;
}
