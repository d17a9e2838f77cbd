-- How deep a tree is: the greatest number of its nodes of which each lies in the one before (this project's own, over
-- the productions of C11 6.5 to 6.9). Statements, expressions and types are nodes, each `*` and each array length of a
-- type is one, and so are parentheses; a label is none. A step below gives the depth of one node from those of its
-- parts, and a declarator's part in it is what it makes of the depth of the type that it begins with.
use Rattle.std.specs.Prelude.{ℕ, ◌+◌, max, List, [], ◌∷◌, map, unwrap_or}
use Rattle.std.specs.Option.{option_map_or}
use Rattle.c_syntax.specs.declared.declaration.Declaration.{Declaration}
use Rattle.c_syntax.specs.declared.declaration.DeclarationKind.{DeclarationKind}
use Rattle.c_syntax.specs.declared.declaration.InitDeclarator.{InitDeclarator}
use Rattle.c_syntax.specs.declared.declarator.AbstractDeclarator.{out-AbstractDeclarator}
use Rattle.c_syntax.specs.declared.declarator.Declarator.{Declarator, out-Declarator}
use Rattle.c_syntax.specs.declared.declarator.FunctionDeclarator.{FunctionDeclarator}
use Rattle.c_syntax.specs.declared.declarator.Parameter.{Parameter}
use Rattle.c_syntax.specs.declared.declarator.ParameterDeclarator.{ParameterDeclarator}
use Rattle.c_syntax.specs.declared.expr.Expr.{Expr}
use Rattle.c_syntax.specs.declared.expr.ExprKind.TheFolds.{fold-Expr, fold-TypeSpecifier}
use Rattle.c_syntax.specs.declared.expr.ExprKind.TheOpen.{ExprKind-F, TypeSpecifier-F}
use Rattle.c_syntax.specs.declared.expr.ExprKind.TheOpen.{AbstractDeclarator-F, Declarator-F, MemberDeclaration-F}
use Rattle.c_syntax.specs.declared.specifier.TypeSpecifier.{TypeSpecifier}
use Rattle.c_syntax.specs.declared.stmt.ForInit.{ForInit}
use Rattle.c_syntax.specs.declared.stmt.Label.{Label}
use Rattle.c_syntax.specs.declared.stmt.Stmt.{Stmt}
use Rattle.c_syntax.specs.declared.stmt.StmtKind.TheFolds.{fold-Stmt}
use Rattle.c_syntax.specs.declared.stmt.StmtKind.TheOpen.{StmtKind-F}
use Rattle.c_syntax.specs.declared.unit.ItemKind.{ItemKind}
use Rattle.c_syntax.specs.declared.unit.Unit.{Unit}

-- the greatest of these depths, and 0 where there is none
abbrev pub deepest : List ℕ → ℕ
deepest [] = 0
deepest (depth ∷ depths) = max depth (deepest depths)

-- the depth of an array of these lengths, of elements of this depth
abbrev pub array_depth : List ℕ → ℕ → ℕ
array_depth [] element = element
array_depth (length ∷ lengths) element = 1 + max length (array_depth lengths element)

-- One node of the expressions and types, with the depths of its parts in their place.
abbrev pub Node : (Type 0 → Type 0 → Type 0 → Type 0 → Type 0 → Type 0 → Type 0 → Type 0 → Type 0 → Type 0 → Type 0)
    → Type 0
Node F = F ℕ ℕ (ℕ → ℕ) (ℕ → ℕ) ℕ ℕ ℕ ℕ ℕ ℕ

-- an expression is one node more than the deepest of its operands and types
abbrev pub expression_step : Node ExprKind-F → ℕ
expression_step (ExprKind-F.Parenthesized inner) = 1 + inner
expression_step (ExprKind-F.Subscript array index) = 1 + max array index
expression_step (ExprKind-F.Call function arguments) = 1 + deepest arguments
expression_step (ExprKind-F.Atomic operation arguments) = 1 + deepest arguments
expression_step (ExprKind-F.Member object member) = 1 + object
expression_step (ExprKind-F.PointerMember pointer member) = 1 + pointer
expression_step (ExprKind-F.Postfix operand operator) = 1 + operand
expression_step (ExprKind-F.Prefix operator operand) = 1 + operand
expression_step (ExprKind-F.Unary operator operand) = 1 + operand
expression_step (ExprKind-F.SizeOfExpr operand) = 1 + operand
expression_step (ExprKind-F.SizeOfType name) = 1 + name
expression_step (ExprKind-F.AlignOf name) = 1 + name
expression_step (ExprKind-F.Cast target operand) = 1 + max target operand
expression_step (ExprKind-F.Binary left operator right) = 1 + max left right
expression_step (ExprKind-F.Logical left operator right) = 1 + max left right
expression_step (ExprKind-F.Conditional test then otherwise) = 1 + max test (max then otherwise)
expression_step (ExprKind-F.Assignment target operator value) = 1 + max target value
expression_step (ExprKind-F.Comma first second) = 1 + max first second
expression_step _ = 1

-- a specified type is one node, round its members or constants where it has any
abbrev pub specifier_step : Node TypeSpecifier-F → ℕ
specifier_step (TypeSpecifier-F.RecordDefinition definition) = 1 + definition
specifier_step (TypeSpecifier-F.EnumDefinition definition) = 1 + definition
specifier_step _ = 1

-- what a declarator makes of the depth of the type that it begins with: `*`s round it, then arrays of that
abbrev pub declarator_step : Node Declarator-F → ℕ → ℕ
declarator_step declarator specified = array_depth declarator.lengths (declarator.pointers + specified)

-- the same of a declarator without a name
abbrev pub abstract_step : Node AbstractDeclarator-F → ℕ → ℕ
abstract_step declarator specified = array_depth declarator.lengths (declarator.pointers + specified)

-- members are as deep as the deepest of their types
abbrev pub members_step : Node MemberDeclaration-F → ℕ
members_step members =
    max members.specifier (deepest (map (λ declarator. declarator members.specifier) members.declarators))

-- the depth of an expression
abbrev pub expression_depth : Expr → ℕ
expression_depth = fold-Expr ℕ ℕ (ℕ → ℕ) (ℕ → ℕ) ℕ ℕ ℕ ℕ ℕ ℕ
    expression_step specifier_step abstract_step declarator_step (λ expression. expression.kind)
    (λ name. name.declarator name.specifier) (λ definition. deepest definition.enumerators)
    (λ enumerator. unwrap_or enumerator.value 0) members_step (λ definition. deepest definition.members)

-- the depth of a specified type, by the same steps
abbrev pub specifier_depth : TypeSpecifier → ℕ
specifier_depth = fold-TypeSpecifier ℕ ℕ (ℕ → ℕ) (ℕ → ℕ) ℕ ℕ ℕ ℕ ℕ ℕ
    expression_step specifier_step abstract_step declarator_step (λ expression. expression.kind)
    (λ name. name.declarator name.specifier) (λ definition. deepest definition.enumerators)
    (λ enumerator. unwrap_or enumerator.value 0) members_step (λ definition. deepest definition.members)

-- the depth of a declared type, by that of the type that the declaration begins with
abbrev pub declared_depth : ℕ → Declarator → ℕ
declared_depth specified declarator =
    let parts = out-Declarator declarator in
    array_depth (map expression_depth parts.lengths) (parts.pointers + specified)

-- the depth of a parameter's type, by that of the type that it begins with
abbrev pub parameter_type_depth : ℕ → ParameterDeclarator → ℕ
parameter_type_depth specified (ParameterDeclarator.Named declarator) = declared_depth specified declarator
parameter_type_depth specified (ParameterDeclarator.Unnamed declarator) =
    let parts = out-AbstractDeclarator declarator in
    array_depth (map expression_depth parts.lengths) (parts.pointers + specified)

-- the depth of a parameter's type
abbrev pub parameter_depth : Parameter → ℕ
parameter_depth parameter = parameter_type_depth (specifier_depth parameter.specifier) parameter.declarator

-- the depth of a function's type, the deepest of its result's and its parameters'
abbrev pub function_depth : ℕ → FunctionDeclarator → ℕ
function_depth specified function =
    max (function.pointers + specified) (deepest (map parameter_depth function.parameters))

-- the depth of a declared name's type and of its initialising expression
abbrev pub initialized_depth : ℕ → InitDeclarator → ℕ
initialized_depth specified (InitDeclarator.Object declarator initializer) =
    max (declared_depth specified declarator) (option_map_or expression_depth initializer 0)
initialized_depth specified (InitDeclarator.Function declarator) = function_depth specified declarator

-- the greatest depth of the names of a declaration, by that of the type that it begins with
abbrev pub names_depth : ℕ → DeclarationKind → ℕ
names_depth specified DeclarationKind.TypeOnly = 0
names_depth specified (DeclarationKind.Typedef declarators) = deepest (map (declared_depth specified) declarators)
names_depth specified (DeclarationKind.Names declarators) = deepest (map (initialized_depth specified) declarators)

-- the depth of a declaration
abbrev pub declaration_depth : Declaration → ℕ
declaration_depth declaration =
    let specified = specifier_depth declaration.specifier in max specified (names_depth specified declaration.kind)

-- the depth of how a `for` begins
abbrev pub init_depth : ForInit → ℕ
init_depth ForInit.Nothing = 0
init_depth (ForInit.Expression expression) = expression_depth expression
init_depth (ForInit.Declaration place attributes declaration) = declaration_depth declaration

-- the depth of a label's expression
abbrev pub label_depth : Label → ℕ
label_depth (Label.Case place value) = expression_depth value
label_depth (Label.Default place) = 0

-- a statement is one node more than the deepest of its statements, expressions and types
abbrev pub statement_step : StmtKind-F ℕ ℕ → ℕ
statement_step (StmtKind-F.Compound statements) = 1 + deepest statements
statement_step (StmtKind-F.Declaration declaration) = 1 + declaration_depth declaration
statement_step (StmtKind-F.Expression expression) = 1 + expression_depth expression
statement_step StmtKind-F.Empty = 1
statement_step (StmtKind-F.If test then) = 1 + max (expression_depth test) then
statement_step (StmtKind-F.IfElse test then otherwise) = 1 + max (expression_depth test) (max then otherwise)
statement_step (StmtKind-F.Switch value body) = 1 + max (expression_depth value) body
statement_step (StmtKind-F.While test body) = 1 + max (expression_depth test) body
statement_step (StmtKind-F.Do body test) = 1 + max body (expression_depth test)
statement_step (StmtKind-F.For init test step body) =
    1 + max (max (init_depth init) (option_map_or expression_depth test 0))
    (max (option_map_or expression_depth step 0) body)
statement_step StmtKind-F.Continue = 1
statement_step StmtKind-F.Break = 1
statement_step (StmtKind-F.Return value) = 1 + option_map_or expression_depth value 0

-- the depth of a statement, in which the expressions of its labels lie too
abbrev pub statement_depth : Stmt → ℕ
statement_depth = fold-Stmt ℕ ℕ
    statement_step (λ statement. max statement.kind (1 + deepest (map label_depth statement.labels)))

-- the depth of a definition or declaration at file scope
abbrev pub item_depth : ItemKind → ℕ
item_depth (ItemKind.Function function) =
    max (function_depth (specifier_depth function.specifier) function.declarator) (statement_depth function.body)
item_depth (ItemKind.Declaration declaration) = declaration_depth declaration

-- the depth of a file, 0 where it is empty
abbrev pub unit_depth : Unit → ℕ
unit_depth unit = deepest (map (λ item. item_depth item.kind) unit.items)
