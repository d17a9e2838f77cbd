-- The statements below a statement, and the one that a path names. The productions are those of C11 6.8; which child
-- has which number is this project's own.
use Rattle.std.specs.Prelude.{ℕ, List, [], ◌∷◌, Option, Some, slice_get, option_and_then}
use Rattle.c_syntax.specs.declared.stmt.Stmt.{Stmt}
use Rattle.c_syntax.specs.declared.stmt.StmtKind.{StmtKind, out-StmtKind}
use Rattle.c_syntax.specs.declared.stmt.StmtKind.TheOpen.{StmtKind-F}

-- the children of a statement of this kind, in the order of their numbers
abbrev pub children_of : StmtKind-F StmtKind Stmt → List Stmt
children_of (StmtKind-F.Compound statements) = statements
children_of (StmtKind-F.If test then) = then ∷ []
children_of (StmtKind-F.IfElse test then otherwise) = then ∷ otherwise ∷ []
children_of (StmtKind-F.Switch value body) = body ∷ []
children_of (StmtKind-F.While test body) = body ∷ []
children_of (StmtKind-F.Do body test) = body ∷ []
children_of (StmtKind-F.For init test step body) = body ∷ []
children_of _ = []

-- the children of a statement
abbrev pub children : Stmt → List Stmt
children statement = children_of (out-StmtKind statement.kind)

-- the statement that a path of child numbers names below a body: none where a number is no child's
abbrev pub statement_at : Stmt → List ℕ → Option Stmt
statement_at body [] = Some body
statement_at body (number ∷ path) =
    option_and_then (λ child. statement_at child path) (slice_get (children body) number)
