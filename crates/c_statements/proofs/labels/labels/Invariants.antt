use Rattle.std.proofs.Common.{◌≡◌, ◌-◌}
use Rattle.c_cursor.specs.Deep.{counted}
use Rattle.c_cursor.proofs.Turns.{behind}
use Rattle.c_grammar.specs.Reading.{turns}
use Rattle.c_grammar.specs.StatementReading.{labels_from}
use Rattle.c_expressions.specs.Parts.{reader}
use Rattle.c_statements.specs.Parts.{labels_depth}
use Rattle.c_statements.proofs.labels.labels.Given as goal

abbrev pub invariant-loop-turn : goal.invariant-loop-turn
invariant-loop-turn l = record {
  reads : labels_from (reader 200) (turns l.fn.cursor) l.fn.cursor
      ≡ behind l.tree (labels_from (reader 200) (l._turn-end - l._turn) l.cursor);
  depth : l.depth ≡ counted (labels_depth l.tree);
}
