-- How declarations are read, from the left to the right (inner), with the reader of expressions.
use Rattle.std.specs.Prelude.{ℕ, zero, suc, Bool, true, false, List, [], ◌∷◌, ◌++◌, Option, Some, None, if◌then◌else◌}
use Rattle.std.specs.Prelude.{option_and_then}
use Rattle.std.specs.List.{list_all, list_any, filter}
use Rattle.c_lexer.specs.declared.keyword.Keyword.{Keyword}
use Rattle.c_lexer.specs.declared.punctuator.Punctuator.TheVariants as marks
use Rattle.c_syntax.specs.declared.attribute.Attribute.{Attribute}
use Rattle.c_syntax.specs.declared.name.Name.{Name}
use Rattle.c_syntax.specs.declared.declaration.Declaration.{Declaration}
use Rattle.c_syntax.specs.declared.declaration.DeclarationKind.TheVariants as kinds
use Rattle.c_syntax.specs.declared.declaration.InitDeclarator.{InitDeclarator}
use Rattle.c_syntax.specs.declared.declaration.InitDeclarator.TheVariants as declarators
use Rattle.c_syntax.specs.declared.declarator.Declarator.{Declarator}
use Rattle.c_syntax.specs.declared.declarator.FunctionDeclarator.{FunctionDeclarator}
use Rattle.c_syntax.specs.declared.declarator.Parameter.{Parameter}
use Rattle.c_syntax.specs.declared.declarator.ParameterDeclarator.TheVariants as parameters
use Rattle.c_syntax.specs.declared.specifier.MemberDeclaration.{MemberDeclaration}
use Rattle.c_syntax.specs.declared.specifier.RecordKind.{RecordKind}
use Rattle.c_syntax.specs.declared.specifier.RecordKind.TheVariants as records
use Rattle.c_syntax.specs.declared.specifier.TypeSpecifier.{TypeSpecifier}
use Rattle.c_syntax.specs.declared.specifier.TypeSpecifier.TheVariants as specifiers
use Rattle.c_syntax.specs.declared.expr.Expr.{Expr}
use Rattle.c_grammar.specs.declared.names.NameKind.TheVariants as names
use Rattle.c_grammar.specs.Input.{Input, mark, identifier, declares}
use Rattle.c_grammar.specs.Specifiers as types
use Rattle.c_grammar.specs.Specifiers.{TypeStart, type_start, is_integer_word, is_modifier, is_qualifier}
use Rattle.c_grammar.specs.Specifiers.{is_specifier_word, integer_type}
use Rattle.c_grammar.specs.Declarations.{declarator, unnamed_parameter, is_void_alone, behind_function, agrees}
use Rattle.c_grammar.specs.Declarations.{is_typedef, is_local, declares_tag, definition, member_declaration}
use Rattle.c_grammar.specs.Declarations.{declaration}
use Rattle.c_grammar.specs.Reading.{Reader, onward, past, either, turns, attributes, words, pointers, lengths}
use Rattle.c_grammar.specs.Reading.{specified, single_by}

-- ---- what a declaration begins with

-- the words of a type, around a type that one word or a struct, union or enumeration names
unfoldable pub specified_with : Reader TypeSpecifier → Reader (List Keyword × TypeSpecifier)
specified_with single from = onward (words is_specifier_word from) λ before rest. if list_any is_integer_word before
    then option_and_then (λ type. Some ((filter is_modifier before, specifiers.Integer type), rest))
    (integer_type before)
    else (onward (single rest) λ specifier behind. onward (words is_modifier behind) λ after to.
    Some ((before ++ after, specifier), to))

-- whether it is `void`
abbrev pub is_void_start : TypeStart → Bool
is_void_start types.Void = true
is_void_start _ = false

-- `void` and the closing parenthesis
unfoldable pub void_alone : Input → Option Input
void_alone from = option_and_then (λ started. if is_void_start started.start
    then mark marks.CloseParenthesis started.rest else None) (type_start from)

module _ (expression : ℕ → Reader Expr) where
  -- ---- declarators

  -- behind the name
  unfoldable pub declared_behind : ℕ → Name → Reader (Declarator × Name)
  declared_behind count name rest = onward (lengths expression rest) λ lengths to.
      Some ((declarator count name lengths, name), to)

  -- a declarator with its name
  unfoldable pub declared : Reader (Declarator × Name)
  declared from = onward (pointers from) λ count rest. option_and_then (λ named.
      declared_behind count named.name named.rest) (identifier rest)

  -- behind the type
  unfoldable pub parameter_behind : TypeSpecifier → Reader Parameter
  parameter_behind specifier from = onward (pointers from) λ count rest. either (identifier rest)
      (onward (lengths expression rest) λ lengths to.
      Some (record { specifier = specifier; declarator = unnamed_parameter count lengths }, to))
      (λ named. onward (declared_behind count named.name named.rest) λ tree to.
      Some (
        record { specifier = specifier; declarator = parameters.Named tree.0 },
        declares to tree.1.text names.Ordinary,
      ))

  -- one parameter
  unfoldable pub parameter : Reader Parameter
  parameter from = onward (specified expression from) λ type rest. if list_all is_qualifier type.0
      then parameter_behind type.1 rest else None

  -- parameters and the closing parenthesis, in so many turns at most
  unfoldable pub parameters_from : ℕ → Reader (List Parameter)
  parameters_from zero from = None
  parameters_from (suc left) from = onward (parameter from) λ one rest. either (mark marks.Comma rest)
      (past (mark marks.CloseParenthesis rest) λ to. Some (one ∷ [], to))
      (λ inner. onward (parameters_from left inner) λ others to. Some (one ∷ others, to))

  -- behind the opening parenthesis
  unfoldable pub parameter_list : Reader (List Parameter)
  parameter_list from = onward (parameters_from (turns from) from) λ list to. if is_void_alone list
      then past (void_alone from) (λ end. Some ([], end)) else Some (list, to)

  -- behind the opening parenthesis
  unfoldable pub function_behind : ℕ → Name → Reader FunctionDeclarator
  function_behind count name inner = onward (parameter_list inner) λ list to.
      Some (record { pointers = count; name = name; parameters = list }, to)

  -- a function's declarator
  unfoldable pub function_declared : Reader FunctionDeclarator
  function_declared from = onward (pointers from) λ count rest. option_and_then (λ named.
      past (mark marks.OpenParenthesis named.rest) (function_behind count named.name)) (identifier rest)

  -- ---- names of declarations

  -- declared types and the semicolon, in so many turns at most
  unfoldable pub typedef_names_from : ℕ → Reader (List Declarator)
  typedef_names_from zero from = None
  typedef_names_from (suc left) from = onward (declared from) λ tree rest.
      either (mark marks.Comma (declares rest tree.1.text names.Typedef))
      (past (mark marks.Semicolon (declares rest tree.1.text names.Typedef)) λ to. Some (tree.0 ∷ [], to))
      (λ inner. onward (typedef_names_from left inner) λ others to. Some (tree.0 ∷ others, to))

  -- behind an object's declarator
  unfoldable pub object_behind : Declarator → Name → Reader InitDeclarator
  object_behind tree name rest = either (mark marks.Assign (declares rest name.text names.Ordinary))
      (Some (declarators.Object tree None, declares rest name.text names.Ordinary))
      (λ inner. onward (expression 1 inner) λ value to. Some (declarators.Object tree (Some value), to))

  -- a declared object or function
  unfoldable pub initialized : Reader InitDeclarator
  initialized from = onward (pointers from) λ count rest. option_and_then (λ named.
      either (mark marks.OpenParenthesis named.rest)
      (onward (declared_behind count named.name named.rest) λ tree behind. object_behind tree.0 tree.1 behind)
      (λ inner. onward (function_behind count named.name inner) λ function to.
      Some (declarators.Function function, behind_function from function to))) (identifier rest)

  -- declared objects and functions and the semicolon, in so many turns at most
  unfoldable pub initialized_names_from : ℕ → Reader (List InitDeclarator)
  initialized_names_from zero from = None
  initialized_names_from (suc left) from = onward (initialized from) λ one rest. either (mark marks.Comma rest)
      (past (mark marks.Semicolon rest) λ to. Some (one ∷ [], to))
      (λ inner. onward (initialized_names_from left inner) λ others to. Some (one ∷ others, to))

  -- a declaration inside a function, behind its type
  unfoldable pub local_behind : List Keyword → TypeSpecifier → Reader Declaration
  local_behind modifiers specifier rest = if is_typedef modifiers
      then (if agrees modifiers then (onward (typedef_names_from (turns rest) rest) λ list to.
      Some (declaration specifier (kinds.Typedef list), to)) else None)
      else either (mark marks.Semicolon rest)
      (onward (initialized_names_from (turns rest) rest) λ list to. Some (declaration specifier (kinds.Names list), to))
      (λ to. if declares_tag specifier then Some (declaration specifier kinds.TypeOnly, to) else None)

  -- a declaration inside a function
  unfoldable pub local_declaration : Reader Declaration
  local_declaration from = onward (specified expression from) λ type rest. if is_local type.0
      then local_behind type.0 type.1 rest else None

  -- ---- structs and unions with their members

  -- members of one type and the semicolon, in so many turns at most
  unfoldable pub member_names_from : ℕ → Reader (List Declarator)
  member_names_from zero from = None
  member_names_from (suc left) from = onward (declared from) λ tree rest. either (mark marks.Comma rest)
      (past (mark marks.Semicolon rest) λ to. Some (tree.0 ∷ [], to))
      (λ inner. onward (member_names_from left inner) λ others to. Some (tree.0 ∷ others, to))

  module _ (member_type : Reader (List Keyword × TypeSpecifier)) where
    -- members behind their type
    unfoldable pub members_behind : List Attribute → TypeSpecifier → Reader MemberDeclaration
    members_behind attributes specifier rest = either (mark marks.Semicolon rest)
        (onward (member_names_from (turns rest) rest) λ list to.
        Some (member_declaration attributes specifier list, to))
        (λ to. if declares_tag specifier then Some (member_declaration attributes specifier [], to) else None)

    -- members of one type, with their attributes
    unfoldable pub member : Reader MemberDeclaration
    member from = onward (attributes from) λ list inner. onward (member_type inner) λ type rest.
        if list_all is_qualifier type.0 then members_behind list type.1 rest else None

    -- members and the closing brace, in so many turns at most
    unfoldable pub members_from : ℕ → Reader (List MemberDeclaration)
    members_from zero from = None
    members_from (suc left) from = onward (member from) λ one rest. either (mark marks.CloseBrace rest)
        (onward (members_from left rest) λ others to. Some (one ∷ others, to))
        (λ to. Some (one ∷ [], to))

    -- behind the tag
    unfoldable pub record_behind : RecordKind → List Attribute → Name → Reader TypeSpecifier
    record_behind kind attributes tag rest = either (mark marks.OpenBrace rest)
        (Some (specifiers.Record kind attributes tag, rest))
        (λ inner. onward (members_from (turns inner) inner) λ list to.
        Some (specifiers.RecordDefinition (definition kind attributes tag list), to))

    -- a struct or union behind its keyword, with members or without
    unfoldable pub record_or_definition : RecordKind → Reader TypeSpecifier
    record_or_definition kind outer = onward (attributes outer) λ list rest. option_and_then (λ named.
        record_behind kind list named.name named.rest) (identifier rest)

    -- a type behind its first token, with members or without
    abbrev pub defining_by : TypeStart → Reader TypeSpecifier
    defining_by types.Struct rest = record_or_definition records.Struct rest
    defining_by types.Union rest = record_or_definition records.Union rest
    defining_by start rest = single_by expression start rest

    -- a type of one word, or a struct, union or enumeration
    unfoldable pub defining_type : Reader TypeSpecifier
    defining_type from = option_and_then (λ started. defining_by started.start started.rest) (type_start from)

    -- a type with the words that stand round it
    unfoldable pub defining_with : Reader (List Keyword × TypeSpecifier)
    defining_with = specified_with defining_type

  -- definitions that nest so often at most
  unfoldable pub defining : ℕ → Reader (List Keyword × TypeSpecifier)
  defining zero from = None
  defining (suc room) from = defining_with (defining room) from

  -- ---- declarations at file scope

  -- what stands behind a function's declarator that has no body
  unfoldable pub function_names_from : ℕ → Reader (List InitDeclarator)
  function_names_from zero from = None
  function_names_from (suc left) from = onward (function_declared from) λ function rest.
      either (mark marks.Comma (behind_function from function rest))
      (past (mark marks.Semicolon (behind_function from function rest)) λ to.
      Some (declarators.Function function ∷ [], to))
      (λ inner. onward (function_names_from left inner) λ others to. Some (declarators.Function function ∷ others, to))
