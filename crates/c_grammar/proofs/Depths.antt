-- How deep the node of each production is.
use Rattle.std.proofs.Common.{◌≡◌, ℕ, ◌+◌, max, List, map, Option, Some, None, rules}
use Rattle.rc_text.specs.declared.place.Place.{Place}
use Rattle.c_lexer.specs.declared.atomic_operation.AtomicOperation.{AtomicOperation}
use Rattle.c_lexer.specs.declared.token.IntegerConstant.{IntegerConstant}
use Rattle.c_lexer.specs.declared.token.CharacterConstant.{CharacterConstant}
use Rattle.c_syntax.specs.declared.attribute.Attribute.{Attribute}
use Rattle.c_syntax.specs.declared.name.Name.{Name}
use Rattle.c_syntax.specs.declared.operator.IncrementOperator.{IncrementOperator}
use Rattle.c_syntax.specs.declared.operator.UnaryOperator.{UnaryOperator}
use Rattle.c_syntax.specs.declared.operator.BinaryOperator.{BinaryOperator}
use Rattle.c_syntax.specs.declared.operator.LogicalOperator.{LogicalOperator}
use Rattle.c_syntax.specs.declared.operator.AssignmentOperator.{AssignmentOperator}
use Rattle.c_syntax.specs.declared.specifier.TypeSpecifier.{TypeSpecifier}
use Rattle.c_syntax.specs.declared.specifier.TypeSpecifier.TheVariants as specifiers
use Rattle.c_lexer.specs.declared.header_type.HeaderType.{HeaderType}
use Rattle.c_syntax.specs.declared.specifier.IntegerType.{IntegerType}
use Rattle.c_syntax.specs.declared.specifier.RecordKind.{RecordKind}
use Rattle.c_syntax.specs.declared.specifier.EnumDefinition.{roll-EnumDefinition}
use Rattle.c_syntax.specs.declared.specifier.Enumerator.{Enumerator, roll-Enumerator}
use Rattle.c_syntax.specs.declared.expr.Expr.{Expr}
use Rattle.c_syntax.specs.declared.expr.ExprKind.{the_lemmas}
use Rattle.c_syntax.specs.declared.expr.ExprKind.TheVariants as kinds
use Rattle.c_syntax.specs.declared.expr.TypeName.{TypeName}
use Rattle.c_syntax.specs.Depth.{expression_depth, specifier_depth, deepest, array_depth}
use Rattle.c_grammar.specs.Expressions.{node, type_name}
use Rattle.c_grammar.specs.Depths.{type_name_depth, enumerator_depth}

module _ (place : Place) where
  pub depth-Integer : (constant : IntegerConstant) → expression_depth (node place (kinds.Integer constant)) ≡ 1
  depth-Integer constant = search (rules, the_lemmas)

  pub depth-Character : (constant : CharacterConstant) → expression_depth (node place (kinds.Character constant)) ≡ 1
  depth-Character constant = search (rules, the_lemmas)

  pub depth-NullPointer : expression_depth (node place kinds.NullPointer) ≡ 1
  depth-NullPointer = search (rules, the_lemmas)

  pub depth-Name : (text : List ℕ) → expression_depth (node place (kinds.Name text)) ≡ 1
  depth-Name text = search (rules, the_lemmas)

  pub depth-Parenthesized : (e : Expr) → expression_depth (node place (kinds.Parenthesized e)) ≡ 1 + expression_depth e
  depth-Parenthesized e = search (rules, the_lemmas)

  pub depth-Subscript : (a i : Expr)
      → expression_depth (node place (kinds.Subscript a i)) ≡ 1 + max (expression_depth a) (expression_depth i)
  depth-Subscript a i = search (rules, the_lemmas)

  pub depth-Call : (f : List ℕ) (arguments : List Expr)
      → expression_depth (node place (kinds.Call f arguments)) ≡ 1 + deepest (map expression_depth arguments)
  depth-Call f arguments = search (rules, the_lemmas)

  pub depth-Atomic : (o : AtomicOperation) (arguments : List Expr)
      → expression_depth (node place (kinds.Atomic o arguments)) ≡ 1 + deepest (map expression_depth arguments)
  depth-Atomic o arguments = search (rules, the_lemmas)

  pub depth-Member : (e : Expr) (name : Name) → expression_depth (node place (kinds.Member e name)) ≡ 1 + expression_depth e
  depth-Member e name = search (rules, the_lemmas)

  pub depth-PointerMember : (e : Expr) (name : Name)
      → expression_depth (node place (kinds.PointerMember e name)) ≡ 1 + expression_depth e
  depth-PointerMember e name = search (rules, the_lemmas)

  pub depth-Postfix : (e : Expr) (o : IncrementOperator)
      → expression_depth (node place (kinds.Postfix e o)) ≡ 1 + expression_depth e
  depth-Postfix e o = search (rules, the_lemmas)

  pub depth-Prefix : (o : IncrementOperator) (e : Expr)
      → expression_depth (node place (kinds.Prefix o e)) ≡ 1 + expression_depth e
  depth-Prefix o e = search (rules, the_lemmas)

  pub depth-Unary : (o : UnaryOperator) (e : Expr) → expression_depth (node place (kinds.Unary o e)) ≡ 1 + expression_depth e
  depth-Unary o e = search (rules, the_lemmas)

  pub depth-SizeOfExpr : (e : Expr) → expression_depth (node place (kinds.SizeOfExpr e)) ≡ 1 + expression_depth e
  depth-SizeOfExpr e = search (rules, the_lemmas)

  pub depth-Binary : (l : Expr) (o : BinaryOperator) (r : Expr)
      → expression_depth (node place (kinds.Binary l o r)) ≡ 1 + max (expression_depth l) (expression_depth r)
  depth-Binary l o r = search (rules, the_lemmas)

  pub depth-Logical : (l : Expr) (o : LogicalOperator) (r : Expr)
      → expression_depth (node place (kinds.Logical l o r)) ≡ 1 + max (expression_depth l) (expression_depth r)
  depth-Logical l o r = search (rules, the_lemmas)

  pub depth-Conditional : (t a b : Expr) → expression_depth (node place (kinds.Conditional t a b))
      ≡ 1 + max (expression_depth t) (max (expression_depth a) (expression_depth b))
  depth-Conditional t a b = search (rules, the_lemmas)

  pub depth-Assignment : (l : Expr) (o : AssignmentOperator) (r : Expr)
      → expression_depth (node place (kinds.Assignment l o r)) ≡ 1 + max (expression_depth l) (expression_depth r)
  depth-Assignment l o r = search (rules, the_lemmas)

  pub depth-Comma : (l r : Expr)
      → expression_depth (node place (kinds.Comma l r)) ≡ 1 + max (expression_depth l) (expression_depth r)
  depth-Comma l r = search (rules, the_lemmas)

  pub depth-SizeOfType : (name : TypeName) → expression_depth (node place (kinds.SizeOfType name)) ≡ 1 + type_name_depth name
  depth-SizeOfType name = search (rules, the_lemmas)

  pub depth-AlignOf : (name : TypeName) → expression_depth (node place (kinds.AlignOf name)) ≡ 1 + type_name_depth name
  depth-AlignOf name = search (rules, the_lemmas)

  pub depth-Cast : (name : TypeName) (e : Expr)
      → expression_depth (node place (kinds.Cast name e)) ≡ 1 + max (type_name_depth name) (expression_depth e)
  depth-Cast name e = search (rules, the_lemmas)

pub depth-type_name : (s : TypeSpecifier) (p : ℕ) (ls : List Expr)
    → type_name_depth (type_name s p ls) ≡ array_depth (map expression_depth ls) (p + specifier_depth s)
depth-type_name s p ls = search (rules, the_lemmas)

pub depth-Enumerator : (name : Name) (value : Expr)
    → enumerator_depth (roll-Enumerator (record { name = name; value = Some value })) ≡ expression_depth value
depth-Enumerator name value = search (rules, the_lemmas)

pub depth-Implicit : (name : Name) → enumerator_depth (roll-Enumerator (record { name = name; value = None })) ≡ 0
depth-Implicit name = search (rules, the_lemmas)

pub depth-Enumeration : (attributes : List Attribute) (tag : Option Name) (es : List Enumerator)
    → specifier_depth (specifiers.EnumDefinition (roll-EnumDefinition (record {
      attributes = attributes;
      tag = tag;
      enumerators = es;
    })))
    ≡ 1 + deepest (map enumerator_depth es)
depth-Enumeration attributes tag es = search (rules, the_lemmas)

-- single words and tags are one node
pub depth-Integer-type : (type : IntegerType) → specifier_depth (specifiers.Integer type) ≡ 1
depth-Integer-type type = search (rules, the_lemmas)

pub depth-Void : specifier_depth specifiers.Void ≡ 1
depth-Void = search (rules, the_lemmas)

pub depth-Bool : specifier_depth specifiers.Bool ≡ 1
depth-Bool = search (rules, the_lemmas)

pub depth-Typedef : (name : Name) → specifier_depth (specifiers.Typedef name) ≡ 1
depth-Typedef name = search (rules, the_lemmas)

pub depth-Header : (type : HeaderType) → specifier_depth (specifiers.Header type) ≡ 1
depth-Header type = search (rules, the_lemmas)

pub depth-Record : (kind : RecordKind) (attributes : List Attribute) (tag : Name)
    → specifier_depth (specifiers.Record kind attributes tag) ≡ 1
depth-Record kind attributes tag = search (rules, the_lemmas)

pub depth-Enum : (attributes : List Attribute) (tag : Name) → specifier_depth (specifiers.Enum attributes tag) ≡ 1
depth-Enum attributes tag = search (rules, the_lemmas)
