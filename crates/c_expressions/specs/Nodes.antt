-- The kinds of nodes that the code's words for operators make of their operands (inner).
use Rattle.std.specs.Prelude.{ℕ, ◌+◌, List, map}
use Rattle.c_syntax.specs.declared.expr.Expr.{Expr}
use Rattle.c_syntax.specs.declared.expr.ExprKind.{ExprKind}
use Rattle.c_syntax.specs.declared.expr.ExprKind.TheVariants as kinds
use Rattle.c_syntax.specs.declared.expr.TypeName.{TypeName}
use Rattle.c_syntax.specs.declared.name.Name.{Name}
use Rattle.c_syntax.specs.Depth.{expression_depth, deepest}
use Rattle.c_grammar.specs.Operators.{comma_level, assignment_level, cast_level, unary_level}
use Rattle.c_grammar.specs.Operators.{binary_level, logical_level}
use Rattle.c_expressions.specs.declared.nodes.Before.{Before}
use Rattle.c_expressions.specs.declared.nodes.Before.TheVariants as before
use Rattle.c_expressions.specs.declared.nodes.OfType.{OfType}
use Rattle.c_expressions.specs.declared.nodes.OfType.TheVariants as of_type
use Rattle.c_expressions.specs.declared.nodes.Callee.{Callee}
use Rattle.c_expressions.specs.declared.nodes.Callee.TheVariants as callee
use Rattle.c_expressions.specs.declared.nodes.MemberOf.{MemberOf}
use Rattle.c_expressions.specs.declared.nodes.MemberOf.TheVariants as member_of
use Rattle.c_expressions.specs.declared.nodes.Joint.{Joint}
use Rattle.c_expressions.specs.declared.nodes.Joint.TheVariants as joint

abbrev pub before_kind : Before → Expr → ExprKind
before_kind (before.Prefix operator) = kinds.Prefix operator
before_kind (before.Unary operator) = kinds.Unary operator
before_kind before.SizeOf = kinds.SizeOfExpr

-- the category of the operand
abbrev pub before_level : Before → ℕ
before_level (before.Prefix operator) = unary_level
before_level (before.Unary operator) = cast_level
before_level before.SizeOf = unary_level

abbrev pub of_type_kind : OfType → TypeName → ExprKind
of_type_kind of_type.Size = kinds.SizeOfType
of_type_kind of_type.Align = kinds.AlignOf

abbrev pub call_kind : Callee → List Expr → ExprKind
call_kind (callee.Function text) = kinds.Call text.now
call_kind (callee.Operation operation) = kinds.Atomic operation

abbrev pub member_kind : MemberOf → Expr → Name → ExprKind
member_kind member_of.Object = kinds.Member
member_kind member_of.Pointer = kinds.PointerMember

abbrev pub joint_kind : Joint → Expr → Expr → ExprKind
joint_kind (joint.Binary operator) left right = kinds.Binary left operator right
joint_kind (joint.Logical operator) left right = kinds.Logical left operator right
joint_kind (joint.Assignment operator) left right = kinds.Assignment left operator right
joint_kind joint.Comma left right = kinds.Comma left right

-- the category that the operator makes
abbrev pub joint_level : Joint → ℕ
joint_level (joint.Binary operator) = binary_level operator
joint_level (joint.Logical operator) = logical_level operator
joint_level (joint.Assignment operator) = assignment_level
joint_level joint.Comma = comma_level

-- the category of the second operand
abbrev pub right_level : Joint → ℕ
right_level (joint.Binary operator) = binary_level operator + 1
right_level (joint.Logical operator) = logical_level operator + 1
right_level (joint.Assignment operator) = assignment_level
right_level joint.Comma = assignment_level

-- the depth of the deepest of the expressions
abbrev pub expressions_depth : List Expr → ℕ
expressions_depth expressions = deepest (map expression_depth expressions)
