-- Whole files, by the productions of C11 (annex A.2.4), as the profile has them: this is the grammar.
use Rattle.std.specs.Prelude.{◌≡◌, Bool, true, false, List, [], ◌∷◌, Some, None, IsTrue}
use Rattle.std.specs.List.{list_all}
use Rattle.rc_text.specs.declared.place.Place.{Place}
use Rattle.c_lexer.specs.TokenLists.{TokenLists}
use Rattle.c_lexer.specs.declared.keyword.Keyword.{Keyword}
use Rattle.c_lexer.specs.declared.punctuator.Punctuator.TheVariants as marks
use Rattle.c_syntax.specs.declared.attribute.Attribute.{Attribute}
use Rattle.c_syntax.specs.declared.declaration.Declaration.{Declaration}
use Rattle.c_syntax.specs.declared.declarator.FunctionDeclarator.{FunctionDeclarator}
use Rattle.c_syntax.specs.declared.declarator.ParameterDeclarator.{ParameterDeclarator}
use Rattle.c_syntax.specs.declared.declarator.ParameterDeclarator.TheVariants as parameters
use Rattle.c_syntax.specs.declared.specifier.TypeSpecifier.{TypeSpecifier}
use Rattle.c_syntax.specs.declared.stmt.Stmt.{Stmt}
use Rattle.c_syntax.specs.declared.stmt.StmtKind.{StmtKind}
use Rattle.c_syntax.specs.declared.stmt.StmtKind.TheVariants as statements
use Rattle.c_syntax.specs.declared.unit.Item.{Item}
use Rattle.c_syntax.specs.declared.unit.ItemKind.{ItemKind}
use Rattle.c_syntax.specs.declared.unit.ItemKind.TheVariants as items
use Rattle.c_syntax.specs.declared.unit.Unit as unit
use Rattle.c_grammar.specs.declared.names.NameKind.TheVariants as names
use Rattle.c_grammar.specs.Input.{Input, next, mark, declares}
use Rattle.c_grammar.specs.Attributes.{Attributes}
use Rattle.c_grammar.specs.Declarations.{Defining, FunctionDeclared, FileDeclaration, agrees, is_typedef}
use Rattle.c_grammar.specs.Declarations.{behind_function}
use Rattle.c_grammar.specs.Statements.{outermost, place_of, Children}

-- whether a parameter has a name, as each of a function with a body has
abbrev pub is_named : ParameterDeclarator → Bool
is_named (parameters.Named tree) = true
is_named (parameters.Unnamed tree) = false

-- a statement without labels and attributes
abbrev pub bare_statement : Place → StmtKind → Stmt
bare_statement place kind = record { place = place; labels = []; attributes = []; kind = kind }

-- The function's body: its parameters and itself are in scope.
pub data Body : Input → Stmt → Input → Type 0 where
  body : {from inner : Input} {place : Place} {children : List Stmt} {to : Input} → place_of from ≡ Some place
      → mark marks.OpenBrace from ≡ Some inner → Children outermost inner children to
      → Body from (bare_statement place (statements.Compound children)) to

-- external-declaration without its attributes (6.9)
pub data ItemKindRead : Input → ItemKind → Input → Type 0 where
  function : {from : Input} {modifiers : List Keyword} {specifier : TypeSpecifier} {behind : Input}
      {tree : FunctionDeclarator} {inner : Input} {block : Stmt} {to : Input} → Defining from modifiers specifier behind
      → IsTrue (agrees modifiers) → is_typedef modifiers ≡ false → FunctionDeclared behind tree inner
      → IsTrue (list_all (λ parameter. is_named parameter.declarator) tree.parameters)
      → Body (declares inner tree.name.text names.Ordinary) block to
      → ItemKindRead from
      (items.Function (record { specifier = specifier; declarator = tree; body = block }))
      (behind_function behind tree to)
  declaration : {from : Input} {tree : Declaration} {to : Input} → FileDeclaration from tree to
      → ItemKindRead from (items.Declaration tree) to

-- the definitions and declarations of a file up to its end (translation-unit)
pub data Items : Input → List Item → Type 0 where
  none : {from : Input} → next from ≡ None → Items from []
  more : {from : Input} {attributes : List Attribute} {start : Input} {place : Place} {kind : ItemKind} {behind : Input}
      {others : List Item} → Attributes from attributes start → place_of start ≡ Some place
      → ItemKindRead start kind behind → Items behind others
      → Items from (record { place = place; attributes = attributes; kind = kind } ∷ others)

-- a file is spelled by its tokens: no name is in scope where it begins, but for what its includes make of tokens
pub record Derives (file : TokenLists) (tree : unit.Unit) : Type 0 where
  pub includes : tree.includes ≡ file.includes
  pub items : Items (record { tokens = file.tokens; names = [] }) tree.items
