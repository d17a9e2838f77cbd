-- What the code's words for tokens are in the grammar (inner).
use Rattle.std.specs.Prelude.{Option, Some, None}
use Rattle.c_lexer.specs.declared.punctuator.Punctuator.{Punctuator}
use Rattle.c_lexer.specs.declared.punctuator.Punctuator.TheVariants as marks
use Rattle.c_syntax.specs.declared.operator.AssignmentOperator.{AssignmentOperator}
use Rattle.c_syntax.specs.declared.operator.AssignmentOperator.TheVariants as assignment
use Rattle.c_grammar.specs.Names as names
use Rattle.c_grammar.specs.Operators as operators
use Rattle.c_grammar.specs.Specifiers as types
use Rattle.c_cursor.specs.declared.starts.Word.{Word}
use Rattle.c_cursor.specs.declared.starts.Word.TheVariants as word
use Rattle.c_cursor.specs.declared.starts.TypeStart.{TypeStart}
use Rattle.c_cursor.specs.declared.starts.TypeStart.TheVariants as start
use Rattle.c_cursor.specs.declared.starts.Start.{Start}
use Rattle.c_cursor.specs.declared.starts.Start.TheVariants as first
use Rattle.c_cursor.specs.declared.infix.Infix.{Infix}
use Rattle.c_cursor.specs.declared.infix.Infix.TheVariants as goes

abbrev pub word_seen : Word → names.Word
word_seen word.TypedefName = names.TypedefName
word_seen (word.HeaderName type) = names.HeaderName type
word_seen (word.OperationName operation) = names.OperationName operation
word_seen word.OrdinaryName = names.OrdinaryName
word_seen word.NoName = names.NoName

abbrev pub type_seen : TypeStart → types.TypeStart
type_seen start.Void = types.Void
type_seen start.Boolean = types.Boolean
type_seen start.Struct = types.Struct
type_seen start.Union = types.Union
type_seen start.Enum = types.Enum
type_seen (start.Typedef place text) = types.Typedef (record { place = place; text = text.now })
type_seen (start.Header type) = types.Header type
type_seen start.SpecifierWord = types.SpecifierWord
type_seen start.NoType = types.NoType

abbrev pub start_seen : Start → operators.Start
start_seen (first.Integer constant) = operators.Integer constant
start_seen (first.Character constant) = operators.Character constant
start_seen first.NullPointer = operators.NullPointer
start_seen (first.Ordinary text) = operators.Ordinary text.now
start_seen (first.Operation operation) = operators.Operation operation
start_seen first.Parenthesis = operators.Parenthesis
start_seen (first.Prefix operator) = operators.Prefix operator
start_seen (first.Unary operator) = operators.Unary operator
start_seen first.SizeOf = operators.SizeOf
start_seen first.AlignOf = operators.AlignOf
start_seen first.Nothing = operators.Nothing

abbrev pub infix_seen : Infix → operators.Infix
infix_seen goes.Subscript = operators.Subscript
infix_seen goes.Member = operators.Member
infix_seen goes.PointerMember = operators.PointerMember
infix_seen (goes.Step operator) = operators.Step operator
infix_seen (goes.Binary operator) = operators.Binary operator
infix_seen (goes.Logical operator) = operators.Logical operator
infix_seen goes.Question = operators.Question
infix_seen (goes.Assign operator) = operators.Assign operator
infix_seen goes.Comma = operators.Comma

abbrev pub infix_found : Option Infix → Option operators.Infix
infix_found None = None
infix_found (Some found) = Some (infix_seen found)

-- the assignment operator that a punctuator is
abbrev pub assignment_mark : Punctuator → Option AssignmentOperator
assignment_mark marks.Assign = Some assignment.Assign
assignment_mark marks.MultiplyAssign = Some assignment.Multiply
assignment_mark marks.DivideAssign = Some assignment.Divide
assignment_mark marks.RemainderAssign = Some assignment.Remainder
assignment_mark marks.AddAssign = Some assignment.Add
assignment_mark marks.SubtractAssign = Some assignment.Subtract
assignment_mark marks.LeftShiftAssign = Some assignment.LeftShift
assignment_mark marks.RightShiftAssign = Some assignment.RightShift
assignment_mark marks.AndAssign = Some assignment.And
assignment_mark marks.XorAssign = Some assignment.Xor
assignment_mark marks.OrAssign = Some assignment.Or
assignment_mark _ = None
