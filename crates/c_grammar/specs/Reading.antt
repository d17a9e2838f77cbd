-- How expressions are read, from the left to the right (inner): what the grammar relates is what this finds.
use Rattle.std.specs.Prelude.{ℕ, zero, suc, ◌+◌, Bool, true, false, ◌&&◌, nat_le, List, [], ◌∷◌, ◌++◌, length, Option}
use Rattle.std.specs.Prelude.{Some, None, if◌then◌else◌}
use Rattle.std.specs.Prelude.{option_and_then}
use Rattle.std.specs.List.{list_all, list_any, filter}
use Rattle.rc_text.specs.declared.place.Place.{Place}
use Rattle.c_lexer.specs.declared.keyword.Keyword.{Keyword}
use Rattle.c_lexer.specs.declared.punctuator.Punctuator.TheVariants as marks
use Rattle.c_syntax.specs.declared.attribute.Attribute.{Attribute}
use Rattle.c_syntax.specs.declared.attribute.AttributeText.{AttributeText}
use Rattle.c_syntax.specs.declared.name.Name.{Name}
use Rattle.c_syntax.specs.declared.specifier.RecordKind.{RecordKind}
use Rattle.c_syntax.specs.declared.specifier.RecordKind.TheVariants as records
use Rattle.c_syntax.specs.declared.specifier.TypeSpecifier.{TypeSpecifier}
use Rattle.c_syntax.specs.declared.specifier.TypeSpecifier.TheVariants as specifiers
use Rattle.c_syntax.specs.declared.specifier.EnumDefinition.{roll-EnumDefinition}
use Rattle.c_syntax.specs.declared.specifier.Enumerator.{Enumerator, roll-Enumerator}
use Rattle.c_syntax.specs.declared.expr.Expr.{Expr}
use Rattle.c_syntax.specs.declared.expr.ExprKind.{ExprKind}
use Rattle.c_syntax.specs.declared.expr.ExprKind.TheVariants as kinds
use Rattle.c_syntax.specs.declared.expr.TypeName.{TypeName}
use Rattle.c_syntax.specs.Depth.{expression_depth}
use Rattle.c_grammar.specs.declared.names.NameKind.TheVariants as names
use Rattle.c_grammar.specs.Input.{Input, mark, identifier, declares}
use Rattle.c_grammar.specs.Attributes.{string, kept}
use Rattle.c_grammar.specs.Operators as operators
use Rattle.c_grammar.specs.Operators.{Start, start, behind, comma_level, assignment_level, conditional_level}
use Rattle.c_grammar.specs.Operators.{cast_level, unary_level, postfix_level, binary_level, logical_level, level_of}
use Rattle.c_grammar.specs.Operators.{left_level}
use Rattle.c_grammar.specs.Specifiers as types
use Rattle.c_grammar.specs.Specifiers.{TypeStart, type_start, word, is_integer_word, is_modifier, is_qualifier}
use Rattle.c_grammar.specs.Specifiers.{is_specifier_word, integer_type}
use Rattle.c_grammar.specs.Expressions.{node, type_name}

-- what is read, and what is left behind it
abbrev pub Reading : Type 0 → Type 0
Reading A = Option (A × Input)

-- how something is read from what is left
abbrev pub Reader : Type 0 → Type 0
Reader A = Input → Reading A

-- goes on with what was read
abbrev pub onward : {A B : Type 0} → Reading A → (A → Input → Option B) → Option B
onward (Some read) next = next read.0 read.1
onward None next = None

-- goes on behind a punctuator
abbrev pub past : {B : Type 0} → Option Input → (Input → Option B) → Option B
past (Some rest) next = next rest
past None next = None

-- one way where something stands next, and another where it doesn't
abbrev pub either : {A B : Type 0} → Option A → B → (A → B) → B
either None otherwise found = otherwise
either (Some x) otherwise found = found x

-- how many turns a loop over the rest takes at most
abbrev pub turns : Input → ℕ
turns input = length input.tokens

-- ---- attributes

-- strings and the closing parenthesis, in so many turns at most
unfoldable pub texts_from : ℕ → Reader (List AttributeText)
texts_from zero from = None
texts_from (suc left) from = option_and_then (λ read. either (mark marks.Comma read.rest)
    (past (mark marks.CloseParenthesis read.rest) λ to. Some (read.text ∷ [], to))
    (λ inner. onward (texts_from left inner) λ texts to. Some (read.text ∷ texts, to))) (string from)

-- behind the opening parenthesis
unfoldable pub clause_inside : Reader (List AttributeText)
clause_inside inner = either (mark marks.CloseParenthesis inner) (texts_from (turns inner) inner) (λ to. Some ([], to))

-- an attribute's strings, where it has parentheses
unfoldable pub clause : Reader (List AttributeText)
clause from = either (mark marks.OpenParenthesis from) (Some ([], from)) clause_inside

-- one attribute
unfoldable pub single : Reader (List Attribute)
single from = option_and_then (λ first. either (mark marks.DoubleColon first.rest)
    (onward (clause first.rest) λ texts to. Some ([], to))
    (λ inner. option_and_then (λ second. onward (clause second.rest) λ texts to.
    Some (kept first.name second.name texts, to)) (identifier inner))) (identifier from)

-- attributes and the two closing brackets, in so many turns at most
unfoldable pub group_from : ℕ → Reader (List Attribute)
group_from zero from = None
group_from (suc left) from = onward (single from) λ one rest. either (mark marks.Comma rest)
    (past (mark marks.CloseBracket rest) λ inner. past (mark marks.CloseBracket inner) λ to. Some (one, to))
    (λ inner. onward (group_from left inner) λ others to. Some (one ++ others, to))

-- attribute specifiers, in so many turns at most
unfoldable pub attributes_from : ℕ → Reader (List Attribute)
attributes_from zero from = None
attributes_from (suc left) from = either (mark marks.OpenBracket from) (Some ([], from)) (λ outer.
    past (mark marks.OpenBracket outer) λ inner. onward (group_from (turns inner) inner) λ group rest.
    onward (attributes_from left rest) λ others to. Some (group ++ others, to))

-- all attribute specifiers that stand next
unfoldable pub attributes : Reader (List Attribute)
attributes from = attributes_from (suc (turns from)) from

-- ---- words

-- the keywords at the front that pass a test
unfoldable pub words_from : (Keyword → Bool) → ℕ → Reader (List Keyword)
words_from test zero from = None
words_from test (suc left) from = either (word test from) (Some ([], from)) (λ taken.
    onward (words_from test left taken.rest) λ words to. Some (taken.word ∷ words, to))

-- all keywords that stand next and pass a test
unfoldable pub words : (Keyword → Bool) → Reader (List Keyword)
words test from = words_from test (suc (turns from)) from

-- `*`s with their qualifiers, in so many turns at most
unfoldable pub pointers_from : ℕ → Reader ℕ
pointers_from zero from = None
pointers_from (suc left) from = either (mark marks.Star from) (Some (0, from)) (λ inner.
    onward (words is_qualifier inner) λ qualifiers rest. onward (pointers_from left rest) λ count to.
    Some (suc count, to))

-- all `*`s that stand next, with their qualifiers
unfoldable pub pointers : Reader ℕ
pointers from = pointers_from (suc (turns from)) from

-- ---- types, with the reader of expressions that stand in them

-- whether it begins a type
abbrev pub is_type : TypeStart → Bool
is_type types.NoType = false
is_type _ = true

-- whether a type begins here
unfoldable pub begins_type : Input → Bool
begins_type from = either (type_start from) false (λ started. is_type started.start)

module _ (expression : ℕ → Reader Expr) where
  -- array lengths, in so many turns at most
  unfoldable pub lengths_from : ℕ → Reader (List Expr)
  lengths_from zero from = None
  lengths_from (suc left) from = either (mark marks.OpenBracket from) (Some ([], from)) (λ inner.
      onward (expression conditional_level inner) λ length close. past (mark marks.CloseBracket close) λ rest.
      onward (lengths_from left rest) λ lengths to. Some (length ∷ lengths, to))

  -- all array lengths that stand next
  unfoldable pub lengths : Reader (List Expr)
  lengths from = lengths_from (suc (turns from)) from

  -- one constant of an enumeration
  unfoldable pub constant : Reader Enumerator
  constant from = option_and_then (λ named. either (mark marks.Assign named.rest)
      (Some (
        roll-Enumerator (record { name = named.name; value = None }),
        declares named.rest named.name.text names.Ordinary,
      ))
      (λ inner. onward (expression conditional_level inner) λ value rest.
      Some (
        roll-Enumerator (record { name = named.name; value = Some value }),
        declares rest named.name.text names.Ordinary,
      ))) (identifier from)

  -- constants of an enumeration and the closing brace, in so many turns at most
  unfoldable pub enumerators_from : ℕ → Reader (List Enumerator)
  enumerators_from zero from = None
  enumerators_from (suc left) from = onward (constant from) λ one rest. either (mark marks.Comma rest)
      (past (mark marks.CloseBrace rest) λ to. Some (one ∷ [], to))
      (λ inner. either (mark marks.CloseBrace inner)
      (onward (enumerators_from left inner) λ others to. Some (one ∷ others, to))
      (λ to. Some (one ∷ [], to)))

  -- behind the opening brace
  unfoldable pub enumeration : List Attribute → Option Name → Reader TypeSpecifier
  enumeration attributes tag inner = onward (enumerators_from (turns inner) inner) λ enumerators to.
      Some (
        specifiers.EnumDefinition (roll-EnumDefinition (record {
          attributes = attributes;
          tag = tag;
          enumerators = enumerators;
        })),
        to,
      )

  -- behind the tag
  unfoldable pub tagged : List Attribute → Name → Reader TypeSpecifier
  tagged attributes tag rest = either (mark marks.OpenBrace rest) (Some (specifiers.Enum attributes tag, rest))
      (enumeration attributes (Some tag))

  -- an enumeration behind its keyword
  unfoldable pub enum_type : Reader TypeSpecifier
  enum_type from = onward (attributes from) λ attributes rest. either (identifier rest)
      (past (mark marks.OpenBrace rest) (enumeration attributes None))
      (λ named. tagged attributes named.name named.rest)

  -- a struct or union behind its keyword, by its tag
  unfoldable pub record_type : RecordKind → Reader TypeSpecifier
  record_type kind from = onward (attributes from) λ attributes rest. option_and_then (λ named.
      Some (specifiers.Record kind attributes named.name, named.rest)) (identifier rest)

  -- a type behind its first token
  abbrev pub single_by : TypeStart → Reader TypeSpecifier
  single_by types.Void rest = Some (specifiers.Void, rest)
  single_by types.Boolean rest = Some (specifiers.Bool, rest)
  single_by (types.Typedef name) rest = Some (specifiers.Typedef name, rest)
  single_by (types.Header type) rest = Some (specifiers.Header type, rest)
  single_by types.Struct rest = record_type records.Struct rest
  single_by types.Union rest = record_type records.Union rest
  single_by types.Enum rest = enum_type rest
  single_by types.SpecifierWord rest = None
  single_by types.NoType rest = None

  -- a type of one word, or of a keyword and a tag
  unfoldable pub single_type : Reader TypeSpecifier
  single_type from = option_and_then (λ started. single_by started.start started.rest) (type_start from)

  -- a type with the words that stand round it
  unfoldable pub specified : Reader (List Keyword × TypeSpecifier)
  specified from = onward (words is_specifier_word from) λ before rest. if list_any is_integer_word before
      then option_and_then (λ type. Some ((filter is_modifier before, specifiers.Integer type), rest))
      (integer_type before)
      else (onward (single_type rest) λ specifier behind. onward (words is_modifier behind) λ after to.
      Some ((before ++ after, specifier), to))

  -- a type's name
  unfoldable pub type_named : Reader TypeName
  type_named from = onward (specified from) λ type rest. if list_all is_qualifier type.0
      then (onward (pointers rest) λ count inner. onward (lengths inner) λ lengths to.
      Some (type_name type.1 count lengths, to))
      else None

-- ---- expressions

-- the readers of what is nested in an expression
pub record Nested : Type 0 where
  pub expression : ℕ → Reader Expr
  pub type_name : Reader TypeName

-- an expression that is read so far, its category, and what is left behind it
pub record Begun : Type 0 where
  pub tree : Expr
  pub level : ℕ
  pub rest : Input

-- a node, where it is not too deep
unfoldable pub made : ℕ → ℕ → Place → ExprKind → Input → Option Begun
made limit level place kind rest = if nat_le (expression_depth (node place kind)) limit
    then Some (record { tree = node place kind; level = level; rest = rest }) else None

-- a parenthesis and the beginning of a type behind it
unfoldable pub begins_cast : Input → Bool
begins_cast from = either (mark marks.OpenParenthesis from) false begins_type

-- whether an expression of a category goes on with the operator, in one of the wanted category
abbrev pub goes_on : ℕ → operators.Infix → ℕ → Bool
goes_on wanted operator level = nat_le wanted (level_of operator) && nat_le (left_level operator) level

module _ (limit : ℕ) (nested : Nested) where
  -- arguments and the closing parenthesis, in so many turns at most
  unfoldable pub arguments_from : ℕ → Reader (List Expr)
  arguments_from zero from = None
  arguments_from (suc left) from = onward (nested.expression assignment_level from) λ argument rest.
      either (mark marks.Comma rest)
      (past (mark marks.CloseParenthesis rest) λ to. Some (argument ∷ [], to))
      (λ inner. onward (arguments_from left inner) λ arguments to. Some (argument ∷ arguments, to))

  -- behind the opening parenthesis
  unfoldable pub arguments : Reader (List Expr)
  arguments inner = either (mark marks.CloseParenthesis inner) (arguments_from (turns inner) inner)
      (λ to. Some ([], to))

  -- behind the opening parenthesis
  unfoldable pub call : (List Expr → ExprKind) → Place → Input → Option Begun
  call kind place inner = onward (arguments inner) λ arguments to. made limit postfix_level place (kind arguments) to

  -- an expression in parentheses, behind the first
  unfoldable pub parenthesized : Place → Input → Option Begun
  parenthesized place inner = onward (nested.expression comma_level inner) λ tree rest.
      past (mark marks.CloseParenthesis rest) λ to. made limit postfix_level place (kinds.Parenthesized tree) to

  -- a cast, behind its opening parenthesis
  unfoldable pub cast : Place → Input → Option Begun
  cast place inner = onward (nested.type_name inner) λ target rest. past (mark marks.CloseParenthesis rest) λ behind.
      onward (nested.expression cast_level behind) λ operand to. made limit cast_level place
      (kinds.Cast target operand) to

  -- a type's name between parentheses, behind the first
  unfoldable pub of_type : (TypeName → ExprKind) → Place → Input → Option Begun
  of_type kind place inner = onward (nested.type_name inner) λ name rest. past (mark marks.CloseParenthesis rest) λ to.
      made limit unary_level place (kind name) to

  -- an operand of a category behind an operator
  unfoldable pub operand : ℕ → (Expr → ExprKind) → Place → Input → Option Begun
  operand level kind place inner = onward (nested.expression level inner) λ operand to.
      made limit unary_level place (kind operand) to

  -- what `sizeof` is of, behind it
  unfoldable pub size_of : Place → Input → Option Begun
  size_of place outer = if begins_cast outer
      then past (mark marks.OpenParenthesis outer) (of_type kinds.SizeOfType place)
      else operand unary_level kinds.SizeOfExpr place outer

  -- a first operand behind its first token
  abbrev pub begun_by : Start → Place → Input → Option Begun
  begun_by (operators.Integer constant) place rest = made limit postfix_level place (kinds.Integer constant) rest
  begun_by (operators.Character constant) place rest = made limit postfix_level place (kinds.Character constant) rest
  begun_by operators.NullPointer place rest = made limit postfix_level place kinds.NullPointer rest
  begun_by (operators.Ordinary text) place rest = either (mark marks.OpenParenthesis rest)
      (made limit postfix_level place (kinds.Name text) rest) (call (kinds.Call text) place)
  begun_by (operators.Operation operation) place rest = past (mark marks.OpenParenthesis rest)
      (call (kinds.Atomic operation) place)
  begun_by operators.Parenthesis place rest = if begins_type rest then cast place rest else parenthesized place rest
  begun_by (operators.Prefix operator) place rest = operand unary_level (kinds.Prefix operator) place rest
  begun_by (operators.Unary operator) place rest = operand cast_level (kinds.Unary operator) place rest
  begun_by operators.SizeOf place rest = size_of place rest
  begun_by operators.AlignOf place rest = past (mark marks.OpenParenthesis rest) (of_type kinds.AlignOf place)
  begun_by operators.Nothing place rest = None

  -- the first operand with the operators before it
  unfoldable pub begun : Input → Option Begun
  begun from = option_and_then (λ first. begun_by first.start first.place first.rest) (start from)

  -- two operands of an operator, the second of this category
  unfoldable pub joined : ℕ → ℕ → (Expr → ExprKind) → Place → Input → Option Begun
  joined level right kind place inner = onward (nested.expression right inner) λ second to.
      made limit level place (kind second) to

  -- the second and third operand of a conditional expression
  unfoldable pub conditional : Expr → Input → Option Begun
  conditional test inner = onward (nested.expression comma_level inner) λ first colon.
      past (mark marks.Colon colon) λ rest. joined conditional_level conditional_level (kinds.Conditional test first)
      test.place rest

  -- an index and the closing bracket
  unfoldable pub subscript : Expr → Input → Option Begun
  subscript array inner = onward (nested.expression comma_level inner) λ index close.
      past (mark marks.CloseBracket close) λ to. made limit postfix_level array.place (kinds.Subscript array index) to

  -- a member's name
  unfoldable pub member : (Name → ExprKind) → Place → Input → Option Begun
  member kind place inner = option_and_then (λ named. made limit postfix_level place (kind named.name) named.rest)
      (identifier inner)

  -- an expression with one more operator behind it
  abbrev pub grown : operators.Infix → Expr → Input → Option Begun
  grown operators.Subscript left inner = subscript left inner
  grown operators.Member left inner = member (kinds.Member left) left.place inner
  grown operators.PointerMember left inner = member (kinds.PointerMember left) left.place inner
  grown (operators.Step operator) left inner = made limit postfix_level left.place (kinds.Postfix left operator) inner
  grown (operators.Binary operator) left inner =
      joined (binary_level operator) (binary_level operator + 1) (kinds.Binary left operator) left.place inner
  grown (operators.Logical operator) left inner =
      joined (logical_level operator) (logical_level operator + 1) (kinds.Logical left operator) left.place inner
  grown operators.Question left inner = conditional left inner
  grown (operators.Assign operator) left inner =
      joined assignment_level assignment_level (kinds.Assignment left operator) left.place inner
  grown operators.Comma left inner = joined comma_level assignment_level (kinds.Comma left) left.place inner

  -- an expression with all operators behind it that belong to one of the wanted category
  unfoldable pub climb : ℕ → ℕ → Begun → Reading Expr
  climb wanted zero so_far = None
  climb wanted (suc left) so_far = either (behind so_far.rest) (Some (so_far.tree, so_far.rest)) (λ taken.
      if goes_on wanted taken.operator so_far.level
      then option_and_then (λ more. climb wanted left more) (grown taken.operator so_far.tree taken.rest)
      else Some (so_far.tree, so_far.rest))

  -- an expression of the wanted category
  unfoldable pub expression_with : ℕ → Reader Expr
  expression_with wanted from = option_and_then (λ first. if nat_le wanted first.level
      then climb wanted (suc (turns first.rest)) first else None) (begun from)

-- nothing is read any more
abbrev pub no_nested : Nested
no_nested = record { expression = λ level from. None; type_name = λ from. None }

-- the readers of what may nest so often, for trees up to a depth
unfoldable pub nested : ℕ → ℕ → Nested
nested limit zero = no_nested
nested limit (suc room) = record {
  expression = expression_with limit (nested limit room);
  type_name = type_named (nested limit room).expression;
}
