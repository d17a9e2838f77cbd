-- Declarations, by the productions of C11 (annex A.2.2), as the profile has them.
use Rattle.std.specs.Prelude.{◌≡◌, ℕ, ◌+◌, ◌==◌, nat_le, Bool, true, false, ◌&&◌, List, [], ◌∷◌, ◌++◌, Some, None}
use Rattle.std.specs.Prelude.{IsTrue}
use Rattle.std.specs.List.{list_all}
use Rattle.c_lexer.specs.declared.keyword.Keyword.{Keyword}
use Rattle.c_lexer.specs.declared.keyword.Keyword.TheVariants as words
use Rattle.c_lexer.specs.declared.punctuator.Punctuator.TheVariants as marks
use Rattle.c_syntax.specs.declared.attribute.Attribute.{Attribute}
use Rattle.c_syntax.specs.declared.name.Name.{Name}
use Rattle.c_syntax.specs.declared.declaration.Declaration.{Declaration}
use Rattle.c_syntax.specs.declared.declaration.DeclarationKind.{DeclarationKind}
use Rattle.c_syntax.specs.declared.declaration.DeclarationKind.TheVariants as kinds
use Rattle.c_syntax.specs.declared.declaration.InitDeclarator.{InitDeclarator}
use Rattle.c_syntax.specs.declared.declaration.InitDeclarator.TheVariants as declarators
use Rattle.c_syntax.specs.declared.declarator.AbstractDeclarator.{roll-AbstractDeclarator, out-AbstractDeclarator}
use Rattle.c_syntax.specs.declared.declarator.Declarator.{Declarator, roll-Declarator}
use Rattle.c_syntax.specs.declared.declarator.FunctionDeclarator.{FunctionDeclarator}
use Rattle.c_syntax.specs.declared.declarator.Parameter.{Parameter}
use Rattle.c_syntax.specs.declared.declarator.ParameterDeclarator.{ParameterDeclarator}
use Rattle.c_syntax.specs.declared.declarator.ParameterDeclarator.TheVariants as parameters
use Rattle.c_syntax.specs.declared.specifier.MemberDeclaration.{MemberDeclaration, roll-MemberDeclaration}
use Rattle.c_syntax.specs.declared.specifier.RecordDefinition.{RecordDefinition, roll-RecordDefinition}
use Rattle.c_syntax.specs.declared.specifier.RecordKind.{RecordKind}
use Rattle.c_syntax.specs.declared.specifier.RecordKind.TheVariants as records
use Rattle.c_syntax.specs.declared.specifier.TypeSpecifier.{TypeSpecifier, out-TypeSpecifier}
use Rattle.c_syntax.specs.declared.specifier.TypeSpecifier.TheVariants as specifiers
use Rattle.c_syntax.specs.declared.expr.Expr.{Expr}
use Rattle.c_syntax.specs.declared.expr.ExprKind.TheOpen.{TypeSpecifier-F, AbstractDeclarator-F}
use Rattle.c_grammar.specs.declared.names.NameKind.TheVariants as names
use Rattle.c_grammar.specs.Input.{Input, Named, mark, identifier, declares}
use Rattle.c_grammar.specs.Attributes.{Attributes}
use Rattle.c_grammar.specs.Specifiers as types
use Rattle.c_grammar.specs.Specifiers.{TypeStart, is_modifier, is_qualifier, times, Words, Pointers}
use Rattle.c_grammar.specs.Expressions.{Expression, Lengths, Specified, BeginsType}

-- what is left, under the names that were in scope before
abbrev pub under : Input → Input → Input
under outer rest = record { tokens = rest.tokens; names = outer.names }

-- ---- declarators

-- a declarator, behind which its name comes into scope (6.7.6)
abbrev pub declarator : ℕ → Name → List Expr → Declarator
declarator pointers name lengths = roll-Declarator (record { pointers = pointers; name = name; lengths = lengths })

-- a declared name with its `*`s and array lengths
pub data Declared : Input → Declarator → Name → Input → Type 0 where
  declared : {from : Input} {pointers : ℕ} {behind : Input} {named : Named} {lengths : List Expr} {to : Input}
      → Pointers from pointers behind → identifier behind ≡ Some named → Lengths named.rest lengths to
      → Declared from (declarator pointers named.name lengths) named.name to

-- a parameter without a name
abbrev pub unnamed_parameter : ℕ → List Expr → ParameterDeclarator
unnamed_parameter pointers lengths =
    parameters.Unnamed (roll-AbstractDeclarator (record { pointers = pointers; lengths = lengths }))

-- parameter-declaration: a name is in scope behind it
pub data ParameterDeclared : Input → Parameter → Input → Type 0 where
  named : {from : Input} {modifiers : List Keyword} {specifier : TypeSpecifier} {behind : Input} {tree : Declarator}
      {name : Name} {to : Input} → Specified from modifiers specifier behind → IsTrue (list_all is_qualifier modifiers)
      → Declared behind tree name to
      → ParameterDeclared from (record { specifier = specifier; declarator = parameters.Named tree })
      (declares to name.text names.Ordinary)
  unnamed : {from : Input} {modifiers : List Keyword} {specifier : TypeSpecifier} {behind : Input} {pointers : ℕ}
      {inner : Input} {lengths : List Expr} {to : Input} → Specified from modifiers specifier behind
      → IsTrue (list_all is_qualifier modifiers) → Pointers behind pointers inner → Lengths inner lengths to
      → ParameterDeclared from (record { specifier = specifier; declarator = unnamed_parameter pointers lengths }) to

-- whether a list has nothing
abbrev pub is_empty : {A : Type 0} → List A → Bool
is_empty [] = true
is_empty (x ∷ xs) = false

-- no `*` and no length
abbrev pub is_bare_node : {A B C D E F G H I J : Type 0} → AbstractDeclarator-F A B C D E F G H I J → Bool
is_bare_node node = node.pointers == 0 && is_empty node.lengths

-- neither a name nor `*`s nor lengths
abbrev pub is_bare : ParameterDeclarator → Bool
is_bare (parameters.Named tree) = false
is_bare (parameters.Unnamed tree) = is_bare_node (out-AbstractDeclarator tree)

-- the type is `void`
abbrev pub is_void_node : {A B C D E F G H I J : Type 0} → TypeSpecifier-F A B C D E F G H I J → Bool
is_void_node TypeSpecifier-F.Void = true
is_void_node _ = false

-- a parameter that is `void` and nothing else
abbrev pub is_void : Parameter → Bool
is_void parameter = is_void_node (out-TypeSpecifier parameter.specifier) && is_bare parameter.declarator

-- a list of one parameter that is `void`
abbrev pub is_void_alone : List Parameter → Bool
is_void_alone (parameter ∷ []) = is_void parameter
is_void_alone _ = false

-- parameters with commas between them, and the closing parenthesis
pub data ParameterList : Input → List Parameter → Input → Type 0 where
  last : {from : Input} {parameter : Parameter} {behind to : Input} → ParameterDeclared from parameter behind
      → mark marks.CloseParenthesis behind ≡ Some to → ParameterList from (parameter ∷ []) to
  more : {from : Input} {parameter : Parameter} {behind inner : Input} {others : List Parameter} {to : Input}
      → ParameterDeclared from parameter behind → mark marks.Comma behind ≡ Some inner → ParameterList inner others to
      → ParameterList from (parameter ∷ others) to

-- parameter-type-list with the closing parenthesis: `void` alone for none
pub data Parameters : Input → List Parameter → Input → Type 0 where
  void : {from behind to : Input} → BeginsType from types.Void behind → mark marks.CloseParenthesis behind ≡ Some to
      → Parameters from [] to
  list : {from : Input} {list : List Parameter} {to : Input} → ParameterList from list to → is_void_alone list ≡ false
      → Parameters from list to

-- A function's declarator. What is left behind it is under the names of its parameters, too (6.2.1).
pub data FunctionDeclared : Input → FunctionDeclarator → Input → Type 0 where
  function_declarator : {from : Input} {pointers : ℕ} {behind : Input} {named : Named} {inner : Input}
      {list : List Parameter}
      {to : Input} → Pointers from pointers behind → identifier behind ≡ Some named
      → mark marks.OpenParenthesis named.rest ≡ Some inner → Parameters inner list to
      → FunctionDeclared from (record { pointers = pointers; name = named.name; parameters = list }) to

-- what is left behind a function's declarator, the function in scope and its parameters no more
abbrev pub behind_function : Input → FunctionDeclarator → Input → Input
behind_function from tree to = declares (under from to) tree.name.text names.Ordinary

-- ---- the words before them

-- how often a word of storage stands there
abbrev pub storage : List Keyword → ℕ
storage modifiers = times words.Typedef modifiers + times words.Static modifiers + times words.Extern modifiers

-- the words may stand together: one of storage at most (6.7.1)
abbrev pub agrees : List Keyword → Bool
agrees modifiers = nat_le (storage modifiers) 1

-- whether the declaration is of types
abbrev pub is_typedef : List Keyword → Bool
is_typedef modifiers = nat_le 1 (times words.Typedef modifiers)

-- whether the words may stand in a function: objects of the whole file are left out there, too
abbrev pub is_local : List Keyword → Bool
is_local modifiers = times words.Static modifiers + times words.Extern modifiers == 0

-- whether a type may stand alone: a struct, union or enumeration is declared with it
abbrev pub declares_tag_node : {A B C D E F G H I J : Type 0} → TypeSpecifier-F A B C D E F G H I J → Bool
declares_tag_node (TypeSpecifier-F.Record kind attributes tag) = true
declares_tag_node (TypeSpecifier-F.RecordDefinition definition) = true
declares_tag_node (TypeSpecifier-F.Enum attributes tag) = true
declares_tag_node (TypeSpecifier-F.EnumDefinition definition) = true
declares_tag_node _ = false

-- whether a type declares a struct, union or enumeration, so that it may stand alone
abbrev pub declares_tag : TypeSpecifier → Bool
declares_tag specifier = declares_tag_node (out-TypeSpecifier specifier)

-- ---- structs and unions with their members, which stand at file scope (6.7.2.1)

-- struct-declarator-list with the semicolon: no bit field
pub data MemberNames : Input → List Declarator → Input → Type 0 where
  last : {from : Input} {tree : Declarator} {name : Name} {behind to : Input} → Declared from tree name behind
      → mark marks.Semicolon behind ≡ Some to → MemberNames from (tree ∷ []) to
  more : {from : Input} {tree : Declarator} {name : Name} {behind inner : Input} {others : List Declarator} {to : Input}
      → Declared from tree name behind → mark marks.Comma behind ≡ Some inner → MemberNames inner others to
      → MemberNames from (tree ∷ others) to

-- a struct's or union's keyword
abbrev pub record_start : RecordKind → TypeStart
record_start records.Struct = types.Struct
record_start records.Union = types.Union

-- a struct or union with its members
abbrev pub definition : RecordKind → List Attribute → Name → List MemberDeclaration → RecordDefinition
definition kind attributes tag members =
    roll-RecordDefinition (record { kind = kind; attributes = attributes; tag = tag; members = members })

-- members of one type
abbrev pub member_declaration : List Attribute → TypeSpecifier → List Declarator → MemberDeclaration
member_declaration attributes specifier declarators =
    roll-MemberDeclaration (record { attributes = attributes; specifier = specifier; declarators = declarators })

mutual
  -- a type as a declaration at file scope or of members begins with it, and the other words among its own
  pub data Defining : Input → List Keyword → TypeSpecifier → Input → Type 0 where
    specified : {from : Input} {modifiers : List Keyword} {specifier : TypeSpecifier} {to : Input}
        → Specified from modifiers specifier to → Defining from modifiers specifier to
    defined : {from : Input} {before : List Keyword} {inner : Input} {tree : RecordDefinition} {behind : Input}
        {after : List Keyword} {to : Input} → Words is_modifier from before inner → RecordDefined inner tree behind
        → Words is_modifier behind after to → Defining from (before ++ after) (specifiers.RecordDefinition tree) to

  -- struct-or-union-specifier with members
  pub data RecordDefined : Input → RecordDefinition → Input → Type 0 where
    record_of : (kind : RecordKind) {from : Input} {outer : Input} {attributes : List Attribute} {behind : Input}
        {tag : Named} {inner : Input} {members : List MemberDeclaration} {to : Input}
        → BeginsType from (record_start kind) outer → Attributes outer attributes behind → identifier behind ≡ Some tag
        → mark marks.OpenBrace tag.rest ≡ Some inner → Members inner members to
        → RecordDefined from (definition kind attributes tag.name members) to

  -- struct-declaration-list with the closing brace
  pub data Members : Input → List MemberDeclaration → Input → Type 0 where
    last_member : {from : Input} {one : MemberDeclaration} {behind to : Input} → MemberDeclared from one behind
        → mark marks.CloseBrace behind ≡ Some to → Members from (one ∷ []) to
    more_members : {from : Input} {one : MemberDeclaration} {behind : Input} {others : List MemberDeclaration}
        {to : Input} → MemberDeclared from one behind → Members behind others to → Members from (one ∷ others) to

  -- struct-declaration
  pub data MemberDeclared : Input → MemberDeclaration → Input → Type 0 where
    members : {from : Input} {attributes : List Attribute} {inner : Input} {modifiers : List Keyword}
        {specifier : TypeSpecifier} {behind : Input} {declarators : List Declarator} {to : Input}
        → Attributes from attributes inner → Defining inner modifiers specifier behind
        → IsTrue (list_all is_qualifier modifiers) → MemberNames behind declarators to
        → MemberDeclared from (member_declaration attributes specifier declarators) to
    no_members : {from : Input} {attributes : List Attribute} {inner : Input} {modifiers : List Keyword}
        {specifier : TypeSpecifier} {behind to : Input} → Attributes from attributes inner
        → Defining inner modifiers specifier behind → IsTrue (list_all is_qualifier modifiers)
        → IsTrue (declares_tag specifier) → mark marks.Semicolon behind ≡ Some to
        → MemberDeclared from (member_declaration attributes specifier []) to

-- ---- declarations

-- the declared types, each of whose names is in scope behind it, and the semicolon
pub data TypedefNames : Input → List Declarator → Input → Type 0 where
  last : {from : Input} {tree : Declarator} {name : Name} {behind to : Input} → Declared from tree name behind
      → mark marks.Semicolon (declares behind name.text names.Typedef) ≡ Some to → TypedefNames from (tree ∷ []) to
  more : {from : Input} {tree : Declarator} {name : Name} {behind inner : Input} {others : List Declarator} {to : Input}
      → Declared from tree name behind → mark marks.Comma (declares behind name.text names.Typedef) ≡ Some inner
      → TypedefNames inner others to → TypedefNames from (tree ∷ others) to

-- a declared object or function, which is in scope behind its declarator (init-declarator)
pub data Initialized : Input → InitDeclarator → Input → Type 0 where
  object : {from : Input} {tree : Declarator} {name : Name} {behind : Input} → Declared from tree name behind
      → Initialized from (declarators.Object tree None) (declares behind name.text names.Ordinary)
  initialized : {from : Input} {tree : Declarator} {name : Name} {behind inner : Input} {value : Expr} {to : Input}
      → Declared from tree name behind → mark marks.Assign (declares behind name.text names.Ordinary) ≡ Some inner
      → Expression 1 inner value to → Initialized from (declarators.Object tree (Some value)) to
  function : {from : Input} {tree : FunctionDeclarator} {to : Input} → FunctionDeclared from tree to
      → Initialized from (declarators.Function tree) (behind_function from tree to)

-- init-declarator-list with the semicolon
pub data InitializedNames : Input → List InitDeclarator → Input → Type 0 where
  last : {from : Input} {one : InitDeclarator} {behind to : Input} → Initialized from one behind
      → mark marks.Semicolon behind ≡ Some to → InitializedNames from (one ∷ []) to
  more : {from : Input} {one : InitDeclarator} {behind inner : Input} {others : List InitDeclarator} {to : Input}
      → Initialized from one behind → mark marks.Comma behind ≡ Some inner → InitializedNames inner others to
      → InitializedNames from (one ∷ others) to

-- declared functions with commas between them, and the semicolon: at file scope there are no objects
pub data FunctionNames : Input → List InitDeclarator → Input → Type 0 where
  last : {from : Input} {tree : FunctionDeclarator} {behind to : Input} → FunctionDeclared from tree behind
      → mark marks.Semicolon (behind_function from tree behind) ≡ Some to
      → FunctionNames from (declarators.Function tree ∷ []) to
  more : {from : Input} {tree : FunctionDeclarator} {behind inner : Input} {others : List InitDeclarator} {to : Input}
      → FunctionDeclared from tree behind → mark marks.Comma (behind_function from tree behind) ≡ Some inner
      → FunctionNames inner others to → FunctionNames from (declarators.Function tree ∷ others) to

-- what a declaration of a type alone, of types, and of other names is
abbrev pub declaration : TypeSpecifier → DeclarationKind → Declaration
declaration specifier kind = record { specifier = specifier; kind = kind }

-- a declaration inside a function (6.7)
pub data LocalDeclaration : Input → Declaration → Input → Type 0 where
  tag : {from : Input} {modifiers : List Keyword} {specifier : TypeSpecifier} {behind to : Input}
      → Specified from modifiers specifier behind → IsTrue (is_local modifiers) → is_typedef modifiers ≡ false
      → IsTrue (declares_tag specifier) → mark marks.Semicolon behind ≡ Some to
      → LocalDeclaration from (declaration specifier kinds.TypeOnly) to
  typedefs : {from : Input} {modifiers : List Keyword} {specifier : TypeSpecifier} {behind : Input}
      {declared : List Declarator} {to : Input} → Specified from modifiers specifier behind
      → IsTrue (is_local modifiers)
      → IsTrue (agrees modifiers) → is_typedef modifiers ≡ true → TypedefNames behind declared to
      → LocalDeclaration from (declaration specifier (kinds.Typedef declared)) to
  declared_names : {from : Input} {modifiers : List Keyword} {specifier : TypeSpecifier} {behind : Input}
      {declared : List InitDeclarator} {to : Input} → Specified from modifiers specifier behind
      → IsTrue (is_local modifiers) → is_typedef modifiers ≡ false → InitializedNames behind declared to
      → LocalDeclaration from (declaration specifier (kinds.Names declared)) to

-- a declaration at file scope
pub data FileDeclaration : Input → Declaration → Input → Type 0 where
  tag : {from : Input} {modifiers : List Keyword} {specifier : TypeSpecifier} {behind to : Input}
      → Defining from modifiers specifier behind → IsTrue (agrees modifiers) → is_typedef modifiers ≡ false
      → IsTrue (declares_tag specifier) → mark marks.Semicolon behind ≡ Some to
      → FileDeclaration from (declaration specifier kinds.TypeOnly) to
  typedefs : {from : Input} {modifiers : List Keyword} {specifier : TypeSpecifier} {behind : Input}
      {declared : List Declarator} {to : Input} → Defining from modifiers specifier behind → IsTrue (agrees modifiers)
      → is_typedef modifiers ≡ true → TypedefNames behind declared to
      → FileDeclaration from (declaration specifier (kinds.Typedef declared)) to
  functions : {from : Input} {modifiers : List Keyword} {specifier : TypeSpecifier} {behind : Input}
      {declared : List InitDeclarator} {to : Input} → Defining from modifiers specifier behind
      → IsTrue (agrees modifiers) → is_typedef modifiers ≡ false → FunctionNames behind declared to
      → FileDeclaration from (declaration specifier (kinds.Names declared)) to
