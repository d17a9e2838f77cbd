-- How deep the node of each production is, by the words of the code.
use Rattle.std.proofs.Common.{◌≡◌, ℕ, ◌+◌, max, List, rules}
use Rattle.rc_text.specs.declared.place.Place.{Place}
use Rattle.c_lexer.specs.declared.token.IntegerConstant.{IntegerConstant}
use Rattle.c_lexer.specs.declared.token.CharacterConstant.{CharacterConstant}
use Rattle.c_syntax.specs.declared.expr.Expr.{Expr}
use Rattle.c_syntax.specs.declared.expr.ExprKind.{the_lemmas}
use Rattle.c_syntax.specs.declared.expr.ExprKind.TheVariants as kinds
use Rattle.c_syntax.specs.declared.expr.TypeName.{TypeName}
use Rattle.c_syntax.specs.declared.name.Name.{Name}
use Rattle.c_syntax.specs.declared.operator.IncrementOperator.{IncrementOperator}
use Rattle.c_syntax.specs.Depth.{expression_depth}
use Rattle.c_grammar.specs.Depths.{type_name_depth}
use Rattle.c_grammar.specs.Expressions.{node}
use Rattle.c_expressions.specs.declared.nodes.Before.{Before}
use Rattle.c_expressions.specs.declared.nodes.Before.TheVariants as before
use Rattle.c_expressions.specs.declared.nodes.OfType.{OfType}
use Rattle.c_expressions.specs.declared.nodes.OfType.TheVariants as of_type
use Rattle.c_expressions.specs.declared.nodes.Callee.{Callee}
use Rattle.c_expressions.specs.declared.nodes.Callee.TheVariants as callee
use Rattle.c_expressions.specs.declared.nodes.MemberOf.{MemberOf}
use Rattle.c_expressions.specs.declared.nodes.MemberOf.TheVariants as member_of
use Rattle.c_expressions.specs.declared.nodes.Joint.{Joint}
use Rattle.c_expressions.specs.declared.nodes.Joint.TheVariants as joint
use Rattle.c_expressions.specs.Nodes.{before_kind, of_type_kind, call_kind, member_kind, joint_kind, expressions_depth}

pub depth-Integer : (place : Place) (constant : IntegerConstant) → expression_depth (node place (kinds.Integer constant)) ≡ 1
depth-Integer place constant = search (rules, the_lemmas)

pub depth-Character : (place : Place) (constant : CharacterConstant) → expression_depth (node place (kinds.Character constant)) ≡ 1
depth-Character place constant = search (rules, the_lemmas)

pub depth-NullPointer : (place : Place) → expression_depth (node place kinds.NullPointer) ≡ 1
depth-NullPointer place = search (rules, the_lemmas)

pub depth-Name : (place : Place) (text : List ℕ) → expression_depth (node place (kinds.Name text)) ≡ 1
depth-Name place text = search (rules, the_lemmas)

pub depth-Parenthesized : (place : Place) (e : Expr) → expression_depth (node place (kinds.Parenthesized e)) ≡ 1 + expression_depth e
depth-Parenthesized place e = search (rules, the_lemmas)

pub depth-before : (place : Place) (o : Before) (e : Expr)
    → expression_depth (node place (before_kind o e)) ≡ 1 + expression_depth e
depth-before place (before.Prefix o) e = search (rules, the_lemmas)
depth-before place (before.Unary o) e = search (rules, the_lemmas)
depth-before place before.SizeOf e = search (rules, the_lemmas)

pub depth-Postfix : (place : Place) (e : Expr) (o : IncrementOperator)
    → expression_depth (node place (kinds.Postfix e o)) ≡ 1 + expression_depth e
depth-Postfix place e o = search (rules, the_lemmas)

pub depth-member : (place : Place) (o : MemberOf) (e : Expr) (name : Name)
    → expression_depth (node place (member_kind o e name)) ≡ 1 + expression_depth e
depth-member place member_of.Object e name = search (rules, the_lemmas)
depth-member place member_of.Pointer e name = search (rules, the_lemmas)

pub depth-Subscript : (place : Place) (a i : Expr)
    → expression_depth (node place (kinds.Subscript a i)) ≡ 1 + max (expression_depth a) (expression_depth i)
depth-Subscript place a i = search (rules, the_lemmas)

pub depth-Conditional : (place : Place) (t a b : Expr) → expression_depth (node place (kinds.Conditional t a b))
    ≡ 1 + max (expression_depth t) (max (expression_depth a) (expression_depth b))
depth-Conditional place t a b = search (rules, the_lemmas)

pub depth-call : (place : Place) (o : Callee) (arguments : List Expr)
    → expression_depth (node place (call_kind o arguments)) ≡ 1 + expressions_depth arguments
depth-call place (callee.Function text) arguments = search (rules, the_lemmas)
depth-call place (callee.Operation o) arguments = search (rules, the_lemmas)

pub depth-of_type : (place : Place) (o : OfType) (name : TypeName)
    → expression_depth (node place (of_type_kind o name)) ≡ 1 + type_name_depth name
depth-of_type place of_type.Size name = search (rules, the_lemmas)
depth-of_type place of_type.Align name = search (rules, the_lemmas)

pub depth-Cast : (place : Place) (name : TypeName) (e : Expr)
    → expression_depth (node place (kinds.Cast name e)) ≡ 1 + max (type_name_depth name) (expression_depth e)
depth-Cast place name e = search (rules, the_lemmas)

pub depth-joint : (place : Place) (o : Joint) (l r : Expr)
    → expression_depth (node place (joint_kind o l r)) ≡ 1 + max (expression_depth l) (expression_depth r)
depth-joint place (joint.Binary o) l r = search (rules, the_lemmas)
depth-joint place (joint.Logical o) l r = search (rules, the_lemmas)
depth-joint place (joint.Assignment o) l r = search (rules, the_lemmas)
depth-joint place joint.Comma l r = search (rules, the_lemmas)

pub ruleset depths = (depth-Integer, depth-Character, depth-NullPointer, depth-Name, depth-Parenthesized, depth-before, depth-Postfix, depth-member, depth-Subscript, depth-Conditional, depth-call, depth-of_type, depth-Cast, depth-joint)
