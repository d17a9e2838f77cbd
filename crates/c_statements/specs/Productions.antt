-- Statements whose names stand in scope no more behind them, as the code reads them (inner).
use Rattle.std.specs.Prelude.{ℕ, [], Some, None, if◌then◌else◌}
use Rattle.std.specs.Option.{is_some}
use Rattle.c_syntax.specs.declared.expr.Expr.{Expr}
use Rattle.c_lexer.specs.declared.keyword.Keyword.TheVariants as words
use Rattle.c_lexer.specs.declared.punctuator.Punctuator.TheVariants as marks
use Rattle.c_syntax.specs.declared.stmt.ForInit.{ForInit}
use Rattle.c_syntax.specs.declared.stmt.Stmt.{Stmt}
use Rattle.c_syntax.specs.declared.stmt.StmtKind.{StmtKind}
use Rattle.c_syntax.specs.declared.stmt.StmtKind.TheVariants as kinds
use Rattle.c_grammar.specs.Input.{mark}
use Rattle.c_grammar.specs.Declarations.{under}
use Rattle.c_grammar.specs.Reading.{Reader, onward, either, turns, attributes, begins_type}
use Rattle.c_grammar.specs.Statements.{Position, keyword}
use Rattle.c_grammar.specs.StatementReading.{statement, children_from, begun_expression, begun_declaration}

-- what is read, with the names behind it that stood before it
unfoldable pub enclosed : {A : Type 0} → Reader A → Reader A
enclosed read from = onward (read from) λ tree to. Some (tree, under from to)

-- a compound behind its opening brace
unfoldable pub compound_behind : (ℕ → Reader Expr) → (Position → Reader StmtKind) → Position → Reader StmtKind
compound_behind expression inner_kind position inner =
    onward (children_from expression inner_kind position (turns inner) inner) λ children to.
    Some (kinds.Compound children, under inner to)

-- what stands behind the first statement of an `if`
unfoldable pub perhaps_else : (ℕ → Reader Expr) → (Position → Reader StmtKind) → Position → Expr → Stmt
    → Reader StmtKind
perhaps_else expression inner_kind position test one from = either (keyword words.Else from)
    (Some (kinds.If test one, from))
    (λ other. onward (statement expression inner_kind position other) λ two to. Some (kinds.IfElse test one two, to))

-- the first part of a `for` that has attributes
unfoldable pub begun_attributed : (ℕ → Reader Expr) → Reader ForInit
begun_attributed expression from = onward (attributes from) λ list behind. if begins_type behind
    then begun_declaration expression list behind else None

-- the first part of a `for`, where there is one
unfoldable pub begun_other : (ℕ → Reader Expr) → Reader ForInit
begun_other expression from = if is_some (mark marks.OpenBracket from) then begun_attributed expression from
    else if begins_type from then begun_declaration expression [] from else begun_expression expression from
