use Rattle.std.proofs.Common.{◌≡◌, ◌-◌}
use Rattle.c_grammar.specs.Reading.{turns, enumerators_from}
use Rattle.c_cursor.specs.Deep.{counted}
use Rattle.c_cursor.proofs.Turns.{behind}
use Rattle.c_expressions.specs.Parts.{reader, enumerators_depth}
use Rattle.c_expressions.proofs.grammar.Grammar.enumerators.Given as goal

abbrev pub invariant-loop-turn : goal.invariant-loop-turn
invariant-loop-turn g l = record {
  reads : enumerators_from (reader l.self.room) (turns l.fn.cursor) l.fn.cursor
      ≡ behind l.tree (enumerators_from (reader l.self.room) (l._turn-end - l._turn) l.cursor);
  deep : l.depth ≡ counted (enumerators_depth l.tree);
}
