use Rattle.std.proofs.Common.{◌≡◌, ◌-◌}
use Rattle.c_grammar.specs.Reading.{lengths, lengths_from}
use Rattle.c_cursor.specs.Deep.{counted}
use Rattle.c_cursor.proofs.Turns.{behind}
use Rattle.c_expressions.specs.Parts.{reader, lengths_depth}
use Rattle.c_expressions.proofs.grammar.Grammar.lengths.Given as goal

abbrev pub invariant-loop-turn : goal.invariant-loop-turn
invariant-loop-turn g l = record {
  reads : lengths (reader l.self.room) l.fn.cursor
      ≡ behind l.tree (lengths_from (reader l.self.room) (l._turn-end - l._turn) l.cursor);
  deep : l.depth ≡ counted (lengths_depth l.tree);
}
