use Rattle.std.proofs.Common.{◌≡◌, ◌-◌}
use Rattle.c_grammar.specs.Reading.{turns}
use Rattle.c_grammar.specs.DeclarationReading.{parameters_from}
use Rattle.c_cursor.specs.Deep.{counted}
use Rattle.c_cursor.proofs.Turns.{behind}
use Rattle.c_expressions.specs.Parts.{reader}
use Rattle.c_declarations.specs.Parts.{parameters_depth}
use Rattle.c_declarations.proofs.parameters.parameters.Given as goal

abbrev pub invariant-loop-turn : goal.invariant-loop-turn
invariant-loop-turn l = record {
  reads : parameters_from (reader 200) (turns l.fn.cursor) l.fn.cursor
      ≡ behind l.tree (parameters_from (reader 200) (l._turn-end - l._turn) l.cursor);
  deep : l.depth ≡ counted (parameters_depth l.tree);
}
