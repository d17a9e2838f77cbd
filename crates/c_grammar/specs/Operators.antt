-- What begins an expression and what goes on with one: by the tokens, and how tightly each binds (C11 6.5, annex
-- A.2.1).
use Rattle.std.specs.Prelude.{ℕ, ◌+◌, List, Option, Some, None, option_and_then}
use Rattle.rc_text.specs.declared.place.Place.{Place}
use Rattle.c_lexer.specs.declared.token.TokenKind.{TokenKind}
use Rattle.c_lexer.specs.declared.token.TokenKind.TheVariants as kinds
use Rattle.c_lexer.specs.declared.token.IntegerConstant.{IntegerConstant}
use Rattle.c_lexer.specs.declared.token.CharacterConstant.{CharacterConstant}
use Rattle.c_lexer.specs.declared.atomic_operation.AtomicOperation.{AtomicOperation}
use Rattle.c_lexer.specs.declared.punctuator.Punctuator.{Punctuator}
use Rattle.c_lexer.specs.declared.punctuator.Punctuator.TheVariants as marks
use Rattle.c_lexer.specs.declared.keyword.Keyword.TheVariants as keywords
use Rattle.c_syntax.specs.declared.operator.UnaryOperator.{UnaryOperator}
use Rattle.c_syntax.specs.declared.operator.UnaryOperator.TheVariants as unary
use Rattle.c_syntax.specs.declared.operator.IncrementOperator.{IncrementOperator}
use Rattle.c_syntax.specs.declared.operator.IncrementOperator.TheVariants as increment
use Rattle.c_syntax.specs.declared.operator.BinaryOperator.{BinaryOperator}
use Rattle.c_syntax.specs.declared.operator.BinaryOperator.TheVariants as binary
use Rattle.c_syntax.specs.declared.operator.LogicalOperator.{LogicalOperator}
use Rattle.c_syntax.specs.declared.operator.LogicalOperator.TheVariants as logical
use Rattle.c_syntax.specs.declared.operator.AssignmentOperator.{AssignmentOperator}
use Rattle.c_syntax.specs.declared.operator.AssignmentOperator.TheVariants as assignment
use Rattle.c_grammar.specs.Names.{Word, TypedefName, HeaderName, OperationName, OrdinaryName, NoName, word_of}
use Rattle.c_grammar.specs.Input.{Input, next}

-- The syntactic categories of expressions, by how tightly their operators bind: each is one of all looser ones.
abbrev pub comma_level : ℕ
comma_level = 0

-- assignment-expression
abbrev pub assignment_level : ℕ
assignment_level = 1

-- conditional-expression
abbrev pub conditional_level : ℕ
conditional_level = 2

-- cast-expression
abbrev pub cast_level : ℕ
cast_level = 13

-- unary-expression
abbrev pub unary_level : ℕ
unary_level = 14

-- postfix-expression
abbrev pub postfix_level : ℕ
postfix_level = 15

-- multiplicative, additive, shift, relational, equality, AND, exclusive OR and inclusive OR expressions
abbrev pub binary_level : BinaryOperator → ℕ
binary_level binary.Multiply = 12
binary_level binary.Divide = 12
binary_level binary.Remainder = 12
binary_level binary.Add = 11
binary_level binary.Subtract = 11
binary_level binary.LeftShift = 10
binary_level binary.RightShift = 10
binary_level binary.Less = 9
binary_level binary.Greater = 9
binary_level binary.LessOrEqual = 9
binary_level binary.GreaterOrEqual = 9
binary_level binary.Equal = 8
binary_level binary.NotEqual = 8
binary_level binary.And = 7
binary_level binary.Xor = 6
binary_level binary.Or = 5

-- logical AND and logical OR expressions
abbrev pub logical_level : LogicalOperator → ℕ
logical_level logical.And = 4
logical_level logical.Or = 3

-- what goes on with an expression
pub data Infix : Type 0 where
  Subscript : Infix
  Member : Infix
  PointerMember : Infix
  Step : IncrementOperator → Infix
  Binary : BinaryOperator → Infix
  Logical : LogicalOperator → Infix
  Question : Infix
  Assign : AssignmentOperator → Infix
  Comma : Infix

-- the category that the operator makes
abbrev pub level_of : Infix → ℕ
level_of Subscript = postfix_level
level_of Member = postfix_level
level_of PointerMember = postfix_level
level_of (Step operator) = postfix_level
level_of (Binary operator) = binary_level operator
level_of (Logical operator) = logical_level operator
level_of Question = conditional_level
level_of (Assign operator) = assignment_level
level_of Comma = comma_level

-- the category of what stands before the operator
abbrev pub left_level : Infix → ℕ
left_level Question = conditional_level + 1
left_level (Assign operator) = unary_level
left_level other = level_of other

-- what a punctuator goes on with
abbrev pub infix_mark : Punctuator → Option Infix
infix_mark marks.OpenBracket = Some Subscript
infix_mark marks.Point = Some Member
infix_mark marks.Arrow = Some PointerMember
infix_mark marks.Increment = Some (Step increment.Increment)
infix_mark marks.Decrement = Some (Step increment.Decrement)
infix_mark marks.Star = Some (Binary binary.Multiply)
infix_mark marks.Slash = Some (Binary binary.Divide)
infix_mark marks.Percent = Some (Binary binary.Remainder)
infix_mark marks.Plus = Some (Binary binary.Add)
infix_mark marks.Minus = Some (Binary binary.Subtract)
infix_mark marks.LeftShift = Some (Binary binary.LeftShift)
infix_mark marks.RightShift = Some (Binary binary.RightShift)
infix_mark marks.Less = Some (Binary binary.Less)
infix_mark marks.Greater = Some (Binary binary.Greater)
infix_mark marks.LessOrEqual = Some (Binary binary.LessOrEqual)
infix_mark marks.GreaterOrEqual = Some (Binary binary.GreaterOrEqual)
infix_mark marks.Equal = Some (Binary binary.Equal)
infix_mark marks.NotEqual = Some (Binary binary.NotEqual)
infix_mark marks.Ampersand = Some (Binary binary.And)
infix_mark marks.Caret = Some (Binary binary.Xor)
infix_mark marks.Bar = Some (Binary binary.Or)
infix_mark marks.LogicalAnd = Some (Logical logical.And)
infix_mark marks.LogicalOr = Some (Logical logical.Or)
infix_mark marks.Question = Some Question
infix_mark marks.Assign = Some (Assign assignment.Assign)
infix_mark marks.MultiplyAssign = Some (Assign assignment.Multiply)
infix_mark marks.DivideAssign = Some (Assign assignment.Divide)
infix_mark marks.RemainderAssign = Some (Assign assignment.Remainder)
infix_mark marks.AddAssign = Some (Assign assignment.Add)
infix_mark marks.SubtractAssign = Some (Assign assignment.Subtract)
infix_mark marks.LeftShiftAssign = Some (Assign assignment.LeftShift)
infix_mark marks.RightShiftAssign = Some (Assign assignment.RightShift)
infix_mark marks.AndAssign = Some (Assign assignment.And)
infix_mark marks.XorAssign = Some (Assign assignment.Xor)
infix_mark marks.OrAssign = Some (Assign assignment.Or)
infix_mark marks.Comma = Some Comma
infix_mark _ = None

-- what a token goes on with
abbrev pub infix_by : TokenKind → Option Infix
infix_by (kinds.Punctuator punctuator) = infix_mark punctuator
infix_by _ = None

-- an operator behind an expression, and what is left behind it
pub record TakenInfix : Type 0 where
  pub operator : Infix
  pub rest : Input

-- the operator that stands next
unfoldable pub behind : Input → Option TakenInfix
behind input = option_and_then (λ taken. option_and_then (λ operator.
    Some (record { operator = operator; rest = taken.rest })) (infix_by taken.token.kind)) (next input)

-- what a token is at the beginning of an expression
pub data Start : Type 0 where
  Integer : IntegerConstant → Start
  Character : CharacterConstant → Start
  NullPointer : Start
  Ordinary : List ℕ → Start
  Operation : AtomicOperation → Start
  Parenthesis : Start
  Prefix : IncrementOperator → Start
  Unary : UnaryOperator → Start
  SizeOf : Start
  AlignOf : Start
  -- it begins none
  Nothing : Start

-- what a name is there
abbrev pub start_word : Word → List ℕ → Start
start_word OrdinaryName text = Ordinary text
start_word (OperationName operation) text = Operation operation
start_word TypedefName text = Nothing
start_word (HeaderName type) text = Nothing
start_word NoName text = Nothing

-- what a punctuator is there
abbrev pub start_mark : Punctuator → Start
start_mark marks.OpenParenthesis = Parenthesis
start_mark marks.Increment = Prefix increment.Increment
start_mark marks.Decrement = Prefix increment.Decrement
start_mark marks.Ampersand = Unary unary.Address
start_mark marks.Star = Unary unary.Indirection
start_mark marks.Plus = Unary unary.Plus
start_mark marks.Minus = Unary unary.Minus
start_mark marks.Tilde = Unary unary.Complement
start_mark marks.Exclamation = Unary unary.Not
start_mark _ = Nothing

-- what a token of this kind, which is this as a name, is there
abbrev pub start_by : TokenKind → Word → List ℕ → Start
start_by (kinds.Integer constant) word text = Integer constant
start_by (kinds.Character constant) word text = Character constant
start_by kinds.NullPointer word text = NullPointer
start_by (kinds.Punctuator punctuator) word text = start_mark punctuator
start_by (kinds.Keyword keywords.Sizeof) word text = SizeOf
start_by (kinds.Keyword keywords.Alignof) word text = AlignOf
start_by (kinds.Keyword keyword) word text = Nothing
start_by _ word text = start_word word text

-- the first token of an expression, and what is left behind it
pub record Started : Type 0 where
  pub start : Start
  pub place : Place
  pub rest : Input

-- what the next token is as the first one of an expression
unfoldable pub start : Input → Option Started
start input = option_and_then (λ taken. Some (record {
  start = start_by taken.token.kind (word_of input.names taken.token) taken.token.text;
  place = taken.token.place;
  rest = taken.rest;
})) (next input)
