use Rattle.std.proofs.Common.{◌≡◌, ◌-◌}
use Rattle.c_grammar.specs.Reading.{turns, nested, arguments_from}
use Rattle.c_cursor.specs.Deep.{counted}
use Rattle.c_cursor.proofs.Turns.{behind}
use Rattle.c_expressions.specs.Nodes.{expressions_depth}
use Rattle.c_expressions.proofs.grammar.Grammar.arguments_inside.Given as goal

abbrev pub invariant-loop-turn : goal.invariant-loop-turn
invariant-loop-turn g l = record {
  reads : arguments_from 200 (nested 200 l.self.room) (turns l.fn.cursor) l.fn.cursor
      ≡ behind l.tree (arguments_from 200 (nested 200 l.self.room) (l._turn-end - l._turn) l.cursor);
  deep : l.depth ≡ counted (expressions_depth l.tree);
}
