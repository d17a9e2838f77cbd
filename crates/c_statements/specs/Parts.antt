-- The depths of the parts of statements, and where a statement stands, as the grammar has it (inner).
use Rattle.std.specs.Prelude.{ℕ, List, Option, map}
use Rattle.std.specs.Option.{option_map_or}
use Rattle.c_syntax.specs.declared.expr.Expr.{Expr}
use Rattle.c_syntax.specs.declared.stmt.Label.{Label}
use Rattle.c_syntax.specs.declared.stmt.Stmt.{Stmt}
use Rattle.c_syntax.specs.Depth.{deepest, expression_depth, label_depth, statement_depth}
use Rattle.c_grammar.specs.Statements as statements
use Rattle.c_statements.specs.declared.position.Position.{Position}

-- the depth of the deepest of statements
abbrev pub statements_depth : List Stmt → ℕ
statements_depth list = deepest (map statement_depth list)

-- the depth of the deepest of labels
abbrev pub labels_depth : List Label → ℕ
labels_depth list = deepest (map label_depth list)

-- the depth of an expression that may be left out
abbrev pub optional_depth : Option Expr → ℕ
optional_depth expression = option_map_or expression_depth expression 0

-- a position as the grammar has it
abbrev pub position_seen : Position → statements.Position
position_seen position = record { continues = position.continues; breaks = position.breaks }
