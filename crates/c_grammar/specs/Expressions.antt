-- Expressions and the types that stand in them, by the productions of C11 (annex A.2.1 and A.2.2). Each relation is
-- between what is left before, the tree, and what is left behind it.
use Rattle.std.specs.Prelude.{◌≡◌, ℕ, suc, ◌+◌, List, [], ◌∷◌, ◌++◌, Some, None}
use Rattle.std.specs.List.{list_all, filter}
use Rattle.std.specs.Prelude.{IsTrue}
use Rattle.rc_text.specs.declared.place.Place.{Place}
use Rattle.c_lexer.specs.declared.keyword.Keyword.{Keyword}
use Rattle.c_lexer.specs.declared.token.IntegerConstant.{IntegerConstant}
use Rattle.c_lexer.specs.declared.token.CharacterConstant.{CharacterConstant}
use Rattle.c_lexer.specs.declared.header_type.HeaderType.{HeaderType}
use Rattle.c_lexer.specs.declared.atomic_operation.AtomicOperation.{AtomicOperation}
use Rattle.c_lexer.specs.declared.punctuator.Punctuator.TheVariants as marks
use Rattle.c_syntax.specs.declared.attribute.Attribute.{Attribute}
use Rattle.c_syntax.specs.declared.operator.IncrementOperator.{IncrementOperator}
use Rattle.c_syntax.specs.declared.operator.UnaryOperator.{UnaryOperator}
use Rattle.c_syntax.specs.declared.operator.BinaryOperator.{BinaryOperator}
use Rattle.c_syntax.specs.declared.operator.LogicalOperator.{LogicalOperator}
use Rattle.c_syntax.specs.declared.operator.AssignmentOperator.{AssignmentOperator}
use Rattle.c_syntax.specs.declared.specifier.IntegerType.{IntegerType}
use Rattle.c_syntax.specs.declared.specifier.RecordKind.TheVariants as records
use Rattle.c_syntax.specs.declared.specifier.TypeSpecifier.{TypeSpecifier}
use Rattle.c_syntax.specs.declared.specifier.TypeSpecifier.TheVariants as specifiers
use Rattle.c_syntax.specs.declared.specifier.EnumDefinition.{roll-EnumDefinition}
use Rattle.c_syntax.specs.declared.specifier.Enumerator.{Enumerator, roll-Enumerator}
use Rattle.c_syntax.specs.declared.declarator.AbstractDeclarator.{roll-AbstractDeclarator}
use Rattle.c_syntax.specs.declared.expr.Expr.{Expr}
use Rattle.c_syntax.specs.declared.expr.ExprKind.{ExprKind}
use Rattle.c_syntax.specs.declared.expr.ExprKind.TheVariants as kinds
use Rattle.c_syntax.specs.declared.expr.TypeName.{TypeName, roll-TypeName}
use Rattle.c_syntax.specs.declared.name.Name.{Name}
use Rattle.c_grammar.specs.declared.names.NameKind.TheVariants as names
use Rattle.c_grammar.specs.Input.{Input, Named, mark, identifier, declares}
use Rattle.c_grammar.specs.Attributes.{Attributes}
use Rattle.c_grammar.specs.Operators as operators
use Rattle.c_grammar.specs.Operators.{start, comma_level, assignment_level, conditional_level, cast_level, unary_level}
use Rattle.c_grammar.specs.Operators.{postfix_level, binary_level, logical_level}
use Rattle.c_grammar.specs.Specifiers as types
use Rattle.c_grammar.specs.Specifiers.{is_integer_word, is_modifier, is_qualifier, is_specifier_word, integer_type}
use Rattle.c_grammar.specs.Specifiers.{Words, Pointers}

-- an expression of this kind at the place
abbrev pub node : Place → ExprKind → Expr
node place kind = record { place = place; kind = kind }

-- the next token begins an expression in this way, at this place
abbrev pub Starts : Input → operators.Start → Place → Input → Type 0
Starts from begin place rest = start from ≡ Some (record { start = begin; place = place; rest = rest })

-- the next token goes on with an expression in this way
abbrev pub Continues : Input → operators.Infix → Input → Type 0
Continues from operator rest = operators.behind from ≡ Some (record { operator = operator; rest = rest })

-- the next token begins a type in this way
abbrev pub BeginsType : Input → types.TypeStart → Input → Type 0
BeginsType from begin rest = types.type_start from ≡ Some (record { start = begin; rest = rest })

-- a type's name with its `*`s and array lengths
abbrev pub type_name : TypeSpecifier → ℕ → List Expr → TypeName
type_name specifier pointers lengths = roll-TypeName (record {
  specifier = specifier;
  declarator = roll-AbstractDeclarator (record { pointers = pointers; lengths = lengths });
})

mutual
  -- expressions of each category (6.5)
  pub data Expression : ℕ → Input → Expr → Input → Type 0 where
    -- an expression of one category is one of the next looser category
    looser : {level : ℕ} {from : Input} {tree : Expr} {to : Input} → Expression (suc level) from tree to
        → Expression level from tree to
    -- primary-expression: constant
    integer : {from : Input} {constant : IntegerConstant} {place : Place} {to : Input}
        → Starts from (operators.Integer constant) place to
        → Expression postfix_level from (node place (kinds.Integer constant)) to
    character : {from : Input} {constant : CharacterConstant} {place : Place} {to : Input}
        → Starts from (operators.Character constant) place to
        → Expression postfix_level from (node place (kinds.Character constant)) to
    null_pointer : {from : Input} {place : Place} {to : Input} → Starts from operators.NullPointer place to
        → Expression postfix_level from (node place kinds.NullPointer) to
    -- primary-expression: identifier
    name : {from : Input} {text : List ℕ} {place : Place} {to : Input} → Starts from (operators.Ordinary text) place to
        → Expression postfix_level from (node place (kinds.Name text)) to
    -- primary-expression: ( expression )
    parenthesized : {from : Input} {place : Place} {inner : Input} {tree : Expr} {behind to : Input}
        → Starts from operators.Parenthesis place inner → Expression comma_level inner tree behind
        → mark marks.CloseParenthesis behind ≡ Some to
        → Expression postfix_level from (node place (kinds.Parenthesized tree)) to
    -- postfix-expression: a function's name and its arguments
    call : {from : Input} {text : List ℕ} {place : Place} {behind inner : Input} {arguments : List Expr} {to : Input}
        → Starts from (operators.Ordinary text) place behind → mark marks.OpenParenthesis behind ≡ Some inner
        → Arguments inner arguments to → Expression postfix_level from (node place (kinds.Call text arguments)) to
    -- an operation of <stdatomic.h> and its arguments
    atomic : {from : Input} {operation : AtomicOperation} {place : Place} {behind inner : Input}
        {arguments : List Expr} {to : Input} → Starts from (operators.Operation operation) place behind
        → mark marks.OpenParenthesis behind ≡ Some inner → Arguments inner arguments to
        → Expression postfix_level from (node place (kinds.Atomic operation arguments)) to
    -- postfix-expression: a [ i ]
    subscript : {from : Input} {array : Expr} {behind inner : Input} {index : Expr} {close to : Input}
        → Expression postfix_level from array behind → Continues behind operators.Subscript inner
        → Expression comma_level inner index close → mark marks.CloseBracket close ≡ Some to
        → Expression postfix_level from (node array.place (kinds.Subscript array index)) to
    -- postfix-expression: e . name
    member : {from : Input} {object : Expr} {behind inner : Input} {named : Named}
        → Expression postfix_level from object behind → Continues behind operators.Member inner
        → identifier inner ≡ Some named
        → Expression postfix_level from (node object.place (kinds.Member object named.name)) named.rest
    -- postfix-expression: e -> name
    pointer_member : {from : Input} {pointer : Expr} {behind inner : Input} {named : Named}
        → Expression postfix_level from pointer behind → Continues behind operators.PointerMember inner
        → identifier inner ≡ Some named
        → Expression postfix_level from (node pointer.place (kinds.PointerMember pointer named.name)) named.rest
    -- postfix-expression: e ++ and e --
    postfix : {from : Input} {operand : Expr} {behind : Input} {operator : IncrementOperator} {to : Input}
        → Expression postfix_level from operand behind → Continues behind (operators.Step operator) to
        → Expression postfix_level from (node operand.place (kinds.Postfix operand operator)) to
    -- unary-expression: ++ e and -- e
    prefix : {from : Input} {operator : IncrementOperator} {place : Place} {inner : Input} {operand : Expr} {to : Input}
        → Starts from (operators.Prefix operator) place inner → Expression unary_level inner operand to
        → Expression unary_level from (node place (kinds.Prefix operator operand)) to
    -- unary-expression: unary-operator cast-expression
    unary : {from : Input} {operator : UnaryOperator} {place : Place} {inner : Input} {operand : Expr} {to : Input}
        → Starts from (operators.Unary operator) place inner → Expression cast_level inner operand to
        → Expression unary_level from (node place (kinds.Unary operator operand)) to
    -- unary-expression: sizeof e
    size_of_expr : {from : Input} {place : Place} {inner : Input} {operand : Expr} {to : Input}
        → Starts from operators.SizeOf place inner → Expression unary_level inner operand to
        → Expression unary_level from (node place (kinds.SizeOfExpr operand)) to
    -- unary-expression: sizeof ( type-name )
    size_of_type : {from : Input} {place : Place} {outer inner : Input} {name : TypeName} {behind to : Input}
        → Starts from operators.SizeOf place outer → mark marks.OpenParenthesis outer ≡ Some inner
        → TypeNamed inner name behind → mark marks.CloseParenthesis behind ≡ Some to
        → Expression unary_level from (node place (kinds.SizeOfType name)) to
    -- unary-expression: _Alignof ( type-name )
    align_of : {from : Input} {place : Place} {outer inner : Input} {name : TypeName} {behind to : Input}
        → Starts from operators.AlignOf place outer → mark marks.OpenParenthesis outer ≡ Some inner
        → TypeNamed inner name behind → mark marks.CloseParenthesis behind ≡ Some to
        → Expression unary_level from (node place (kinds.AlignOf name)) to
    -- cast-expression: ( type-name ) cast-expression
    cast : {from : Input} {place : Place} {inner : Input} {target : TypeName} {behind rest : Input} {operand : Expr}
        {to : Input} → Starts from operators.Parenthesis place inner → TypeNamed inner target behind
        → mark marks.CloseParenthesis behind ≡ Some rest → Expression cast_level rest operand to
        → Expression cast_level from (node place (kinds.Cast target operand)) to
    -- multiplicative- to inclusive-OR-expression: each groups to the left
    binary : {from : Input} {left : Expr} {behind : Input} {operator : BinaryOperator} {inner : Input} {right : Expr}
        {to : Input} → Expression (binary_level operator) from left behind
        → Continues behind (operators.Binary operator) inner
        → Expression (binary_level operator + 1) inner right to
        → Expression (binary_level operator) from (node left.place (kinds.Binary left operator right)) to
    -- logical-AND- and logical-OR-expression
    logical : {from : Input} {left : Expr} {behind : Input} {operator : LogicalOperator} {inner : Input} {right : Expr}
        {to : Input} → Expression (logical_level operator) from left behind
        → Continues behind (operators.Logical operator) inner
        → Expression (logical_level operator + 1) inner right to
        → Expression (logical_level operator) from (node left.place (kinds.Logical left operator right)) to
    -- conditional-expression: test ? expression : conditional-expression
    conditional : {from : Input} {test : Expr} {behind inner : Input} {then : Expr} {colon rest : Input}
        {otherwise : Expr} {to : Input} → Expression (conditional_level + 1) from test behind
        → Continues behind operators.Question inner → Expression comma_level inner then colon
        → mark marks.Colon colon ≡ Some rest → Expression conditional_level rest otherwise to
        → Expression conditional_level from (node test.place (kinds.Conditional test then otherwise)) to
    -- assignment-expression: unary-expression assignment-operator assignment-expression
    assignment : {from : Input} {target : Expr} {behind : Input} {operator : AssignmentOperator} {inner : Input}
        {value : Expr} {to : Input} → Expression unary_level from target behind
        → Continues behind (operators.Assign operator) inner → Expression assignment_level inner value to
        → Expression assignment_level from (node target.place (kinds.Assignment target operator value)) to
    -- expression: expression , assignment-expression
    comma : {from : Input} {first : Expr} {behind inner : Input} {second : Expr} {to : Input}
        → Expression comma_level from first behind → Continues behind operators.Comma inner
        → Expression assignment_level inner second to
        → Expression comma_level from (node first.place (kinds.Comma first second)) to

  -- argument-expression-list, perhaps of nothing, and the closing parenthesis
  pub data Arguments : Input → List Expr → Input → Type 0 where
    no_argument : {from to : Input} → mark marks.CloseParenthesis from ≡ Some to → Arguments from [] to
    some_arguments : {from : Input} {arguments : List Expr} {to : Input} → ArgumentList from arguments to
        → Arguments from arguments to

  -- arguments with commas between them, and the closing parenthesis
  pub data ArgumentList : Input → List Expr → Input → Type 0 where
    last_argument : {from : Input} {argument : Expr} {behind to : Input}
        → Expression assignment_level from argument behind
        → mark marks.CloseParenthesis behind ≡ Some to → ArgumentList from (argument ∷ []) to
    more_arguments : {from : Input} {argument : Expr} {behind inner : Input} {arguments : List Expr} {to : Input}
        → Expression assignment_level from argument behind → mark marks.Comma behind ≡ Some inner
        → ArgumentList inner arguments to → ArgumentList from (argument ∷ arguments) to

  -- array lengths in brackets, each a constant expression
  pub data Lengths : Input → List Expr → Input → Type 0 where
    no_length : {from : Input} → Lengths from [] from
    more_lengths : {from inner : Input} {length : Expr} {close behind : Input} {lengths : List Expr} {to : Input}
        → mark marks.OpenBracket from ≡ Some inner → Expression conditional_level inner length close
        → mark marks.CloseBracket close ≡ Some behind → Lengths behind lengths to → Lengths from (length ∷ lengths) to

  -- type-name (6.7.7)
  pub data TypeNamed : Input → TypeName → Input → Type 0 where
    type_named : {from : Input} {modifiers : List Keyword} {specifier : TypeSpecifier} {behind : Input} {pointers : ℕ}
        {inner : Input} {lengths : List Expr} {to : Input} → Specified from modifiers specifier behind
        → IsTrue (list_all is_qualifier modifiers) → Pointers behind pointers inner → Lengths inner lengths to
        → TypeNamed from (type_name specifier pointers lengths) to

  -- A type as a declaration or type name begins with it (6.7.2), and the other words that stand among its own, in the
  -- order of the text. No struct or union is defined here.
  pub data Specified : Input → List Keyword → TypeSpecifier → Input → Type 0 where
    integer_words : {from : Input} {words : List Keyword} {to : Input} {type : IntegerType}
        → Words is_specifier_word from words to → integer_type words ≡ Some type
        → Specified from (filter is_modifier words) (specifiers.Integer type) to
    single_type : {from : Input} {before : List Keyword} {inner : Input} {specifier : TypeSpecifier} {behind : Input}
        {after : List Keyword} {to : Input} → Words is_modifier from before inner → SingleType inner specifier behind
        → Words is_modifier behind after to → Specified from (before ++ after) specifier to

  -- a type that one word names, or a tag
  pub data SingleType : Input → TypeSpecifier → Input → Type 0 where
    void : {from to : Input} → BeginsType from types.Void to → SingleType from specifiers.Void to
    bool : {from to : Input} → BeginsType from types.Boolean to → SingleType from specifiers.Bool to
    -- typedef-name
    typedef : {from : Input} {name : Name} {to : Input} → BeginsType from (types.Typedef name) to
        → SingleType from (specifiers.Typedef name) to
    header : {from : Input} {type : HeaderType} {to : Input} → BeginsType from (types.Header type) to
        → SingleType from (specifiers.Header type) to
    -- struct-or-union-specifier without members
    struct : {from outer : Input} {attributes : List Attribute} {behind : Input} {tag : Named}
        → BeginsType from types.Struct outer → Attributes outer attributes behind → identifier behind ≡ Some tag
        → SingleType from (specifiers.Record records.Struct attributes tag.name) tag.rest
    union : {from outer : Input} {attributes : List Attribute} {behind : Input} {tag : Named}
        → BeginsType from types.Union outer → Attributes outer attributes behind → identifier behind ≡ Some tag
        → SingleType from (specifiers.Record records.Union attributes tag.name) tag.rest
    -- enum-specifier without constants
    enum : {from outer : Input} {attributes : List Attribute} {behind : Input} {tag : Named}
        → BeginsType from types.Enum outer → Attributes outer attributes behind → identifier behind ≡ Some tag
        → SingleType from (specifiers.Enum attributes tag.name) tag.rest
    -- enum-specifier with its constants, with a tag or without one
    enumeration : {from outer : Input} {attributes : List Attribute} {behind : Input} {tag : Named} {inner : Input}
        {enumerators : List Enumerator} {to : Input} → BeginsType from types.Enum outer
        → Attributes outer attributes behind → identifier behind ≡ Some tag → mark marks.OpenBrace tag.rest ≡ Some inner
        → Enumerators inner enumerators to
        → SingleType from (specifiers.EnumDefinition (roll-EnumDefinition (record {
          attributes = attributes;
          tag = Some tag.name;
          enumerators = enumerators;
        }))) to
    untagged_enumeration : {from outer : Input} {attributes : List Attribute} {behind inner : Input}
        {enumerators : List Enumerator} {to : Input} → BeginsType from types.Enum outer
        → Attributes outer attributes behind → mark marks.OpenBrace behind ≡ Some inner
        → Enumerators inner enumerators to
        → SingleType from (specifiers.EnumDefinition (roll-EnumDefinition (record {
          attributes = attributes;
          tag = None;
          enumerators = enumerators;
        }))) to

  -- enumerator-list with the closing brace, perhaps with a comma before it
  pub data Enumerators : Input → List Enumerator → Input → Type 0 where
    last_constant : {from : Input} {one : Enumerator} {behind to : Input} → Constant from one behind
        → mark marks.CloseBrace behind ≡ Some to → Enumerators from (one ∷ []) to
    trailing_comma : {from : Input} {one : Enumerator} {behind inner to : Input} → Constant from one behind
        → mark marks.Comma behind ≡ Some inner → mark marks.CloseBrace inner ≡ Some to → Enumerators from (one ∷ []) to
    more_constants : {from : Input} {one : Enumerator} {behind inner : Input} {others : List Enumerator} {to : Input}
        → Constant from one behind → mark marks.Comma behind ≡ Some inner → Enumerators inner others to
        → Enumerators from (one ∷ others) to

  -- enumerator: its name is in scope behind it (6.2.1)
  pub data Constant : Input → Enumerator → Input → Type 0 where
    implicit : {from : Input} {named : Named} → identifier from ≡ Some named
        → Constant from (roll-Enumerator (record { name = named.name; value = None }))
        (declares named.rest named.name.text names.Ordinary)
    valued : {from : Input} {named : Named} {inner : Input} {value : Expr} {behind : Input}
        → identifier from ≡ Some named → mark marks.Assign named.rest ≡ Some inner
        → Expression conditional_level inner value behind
        → Constant from (roll-Enumerator (record { name = named.name; value = Some value }))
        (declares behind named.name.text names.Ordinary)
