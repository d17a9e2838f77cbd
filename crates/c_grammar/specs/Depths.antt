-- How deep the parts of an expression are that are no expressions (inner), by the steps of an expression's depth.
use Rattle.std.specs.Prelude.{ℕ, ◌+◌, max, map, unwrap_or}
use Rattle.c_syntax.specs.declared.expr.ExprKind.TheFolds.{fold-Enumerator, fold-TypeName, fold-Declarator}
use Rattle.c_syntax.specs.declared.expr.ExprKind.TheFolds.{fold-MemberDeclaration}
use Rattle.c_syntax.specs.declared.expr.TypeName.{TypeName}
use Rattle.c_syntax.specs.declared.declarator.Declarator.{Declarator}
use Rattle.c_syntax.specs.declared.specifier.Enumerator.{Enumerator}
use Rattle.c_syntax.specs.declared.specifier.MemberDeclaration.{MemberDeclaration}
use Rattle.c_syntax.specs.declared.stmt.StmtKind.{StmtKind}
use Rattle.c_syntax.specs.declared.stmt.StmtKind.TheFolds.{fold-StmtKind}
use Rattle.c_syntax.specs.Depth.{label_depth, statement_step, deepest, expression_step, specifier_step, abstract_step}
use Rattle.c_syntax.specs.Depth.{declarator_step, members_step}

-- the depth of a type's name
abbrev pub type_name_depth : TypeName → ℕ
type_name_depth = fold-TypeName ℕ ℕ (ℕ → ℕ) (ℕ → ℕ) ℕ ℕ ℕ ℕ ℕ ℕ
    expression_step specifier_step abstract_step declarator_step (λ expression. expression.kind)
    (λ name. name.declarator name.specifier) (λ definition. deepest definition.enumerators)
    (λ enumerator. unwrap_or enumerator.value 0) members_step (λ definition. deepest definition.members)

-- the depth of a constant of an enumeration
abbrev pub enumerator_depth : Enumerator → ℕ
enumerator_depth = fold-Enumerator ℕ ℕ (ℕ → ℕ) (ℕ → ℕ) ℕ ℕ ℕ ℕ ℕ ℕ
    expression_step specifier_step abstract_step declarator_step (λ expression. expression.kind)
    (λ name. name.declarator name.specifier) (λ definition. deepest definition.enumerators)
    (λ enumerator. unwrap_or enumerator.value 0) members_step (λ definition. deepest definition.members)

-- the depth of members of one type
abbrev pub member_depth : MemberDeclaration → ℕ
member_depth = fold-MemberDeclaration ℕ ℕ (ℕ → ℕ) (ℕ → ℕ) ℕ ℕ ℕ ℕ ℕ ℕ
    expression_step specifier_step abstract_step declarator_step (λ expression. expression.kind)
    (λ name. name.declarator name.specifier) (λ definition. deepest definition.enumerators)
    (λ enumerator. unwrap_or enumerator.value 0) members_step (λ definition. deepest definition.members)

-- what a declarator makes of the depth of the type that it begins with
abbrev pub declarator_depth : Declarator → ℕ → ℕ
declarator_depth = fold-Declarator ℕ ℕ (ℕ → ℕ) (ℕ → ℕ) ℕ ℕ ℕ ℕ ℕ ℕ
    expression_step specifier_step abstract_step declarator_step (λ expression. expression.kind)
    (λ name. name.declarator name.specifier) (λ definition. deepest definition.enumerators)
    (λ enumerator. unwrap_or enumerator.value 0) members_step (λ definition. deepest definition.members)

-- the depth of a statement by its production, without its labels
abbrev pub kind_depth : StmtKind → ℕ
kind_depth = fold-StmtKind ℕ ℕ
    statement_step (λ statement. max statement.kind (1 + deepest (map label_depth statement.labels)))
