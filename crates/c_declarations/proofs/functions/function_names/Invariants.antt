use Rattle.std.proofs.Common.{◌≡◌, ◌-◌}
use Rattle.c_syntax.specs.Depth.{specifier_depth}
use Rattle.c_grammar.specs.Reading.{turns}
use Rattle.c_grammar.specs.DeclarationReading.{function_names_from}
use Rattle.c_cursor.specs.Deep.{counted}
use Rattle.c_cursor.proofs.Turns.{behind}
use Rattle.c_expressions.specs.Parts.{reader}
use Rattle.c_declarations.specs.Parts.{initializers_depth}
use Rattle.c_declarations.proofs.functions.function_names.Given as goal

abbrev pub invariant-loop-turn : goal.invariant-loop-turn
invariant-loop-turn l = record {
  reads : function_names_from (reader 200) (turns l.fn.cursor) l.fn.cursor
      ≡ behind l.tree (function_names_from (reader 200) (l._turn-end - l._turn) l.cursor);
  deep : l.depth ≡ counted (initializers_depth (specifier_depth l.specifier.tree) l.tree);
}
