use Rattle.std.proofs.Common.{◌≡◌, ◌-◌}
use Rattle.c_cursor.specs.Deep.{counted}
use Rattle.c_cursor.proofs.Turns.{behind}
use Rattle.c_grammar.specs.Reading.{turns}
use Rattle.c_grammar.specs.StatementReading.{kind_at, children_from}
use Rattle.c_expressions.specs.Parts.{reader}
use Rattle.c_statements.specs.Parts.{statements_depth, position_seen}
use Rattle.c_statements.proofs.nesting.Statements.children.Given as goal

abbrev pub invariant-loop-turn : goal.invariant-loop-turn
invariant-loop-turn g l = record {
  reads : children_from (reader 200) (kind_at (reader 200) l.self.room) (position_seen l.position) (turns l.fn.cursor) l.fn.cursor
      ≡ behind l.tree (children_from (reader 200) (kind_at (reader 200) l.self.room) (position_seen l.position)
      (l._turn-end - l._turn) l.cursor);
  depth : l.depth ≡ counted (statements_depth l.tree);
}
