-- How files are read, from the left to the right (inner): what the grammar relates is what this finds.
use Rattle.std.specs.Prelude.{ℕ, zero, suc, nat_le, List, [], ◌∷◌, length, Option, Some, None, if◌then◌else◌}
use Rattle.std.specs.Prelude.{option_and_then, option_map}
use Rattle.std.specs.List.{list_all}
use Rattle.rc_text.specs.declared.place.Place.{Place}
use Rattle.c_lexer.specs.TokenLists.{TokenLists}
use Rattle.c_lexer.specs.declared.keyword.Keyword.{Keyword}
use Rattle.c_lexer.specs.declared.punctuator.Punctuator.TheVariants as marks
use Rattle.c_syntax.specs.declared.declaration.DeclarationKind.TheVariants as kinds
use Rattle.c_syntax.specs.declared.declaration.InitDeclarator.TheVariants as declarators
use Rattle.c_syntax.specs.declared.declarator.FunctionDeclarator.{FunctionDeclarator}
use Rattle.c_syntax.specs.declared.specifier.TypeSpecifier.{TypeSpecifier}
use Rattle.c_syntax.specs.declared.stmt.StmtKind.TheVariants as statements
use Rattle.c_syntax.specs.declared.unit.Item.{Item}
use Rattle.c_syntax.specs.declared.unit.ItemKind.{ItemKind}
use Rattle.c_syntax.specs.declared.unit.ItemKind.TheVariants as items
use Rattle.c_syntax.specs.declared.unit.Unit as unit
use Rattle.c_syntax.specs.Depth.{item_depth}
use Rattle.c_grammar.specs.declared.names.NameKind.TheVariants as names
use Rattle.c_grammar.specs.Input.{Input, next, mark, declares}
use Rattle.c_grammar.specs.Declarations.{agrees, is_typedef, declares_tag, declaration, behind_function}
use Rattle.c_grammar.specs.Statements.{outermost, place_of}
use Rattle.c_grammar.specs.Grammar.{is_named, bare_statement}
use Rattle.c_grammar.specs.Reading.{Reader, onward, past, either, turns, attributes, nested}
use Rattle.c_grammar.specs.DeclarationReading.{function_declared, function_names_from, typedef_names_from, defining}
use Rattle.c_grammar.specs.StatementReading.{children_from, kind_at}

module _ (limit : ℕ) where
  -- a function's body, behind its opening brace
  unfoldable pub function_body : TypeSpecifier → FunctionDeclarator → Input → Place → Reader ItemKind
  function_body specifier tree behind place start =
      onward (children_from (nested limit limit).expression (kind_at (nested limit limit).expression limit) outermost
      (turns start) start) λ children to.
      Some (
        items.Function (record {
          specifier = specifier;
          declarator = tree;
          body = bare_statement place (statements.Compound children);
        }),
        behind_function behind tree to,
      )

  -- a function with a body
  unfoldable pub defined : TypeSpecifier → FunctionDeclarator → Input → Input → Reader ItemKind
  defined specifier tree behind inner start = if list_all (λ parameter. is_named parameter.declarator) tree.parameters
      then option_and_then (λ place. function_body specifier tree behind place start)
      (place_of (declares inner tree.name.text names.Ordinary))
      else None

  -- functions without bodies, behind the first
  unfoldable pub functions_behind : TypeSpecifier → FunctionDeclarator → Reader ItemKind
  functions_behind specifier tree after = either (mark marks.Comma after)
      (past (mark marks.Semicolon after) λ to.
      Some (items.Declaration (declaration specifier (kinds.Names (declarators.Function tree ∷ []))), to))
      (λ inner. onward (function_names_from (nested limit limit).expression (turns inner) inner) λ others to.
      Some (items.Declaration (declaration specifier (kinds.Names (declarators.Function tree ∷ others))), to))

  -- functions behind the words of their result's type, the first perhaps with a body
  unfoldable pub functions : TypeSpecifier → Reader ItemKind
  functions specifier behind = onward (function_declared (nested limit limit).expression behind) λ tree inner.
      either (mark marks.OpenBrace (declares inner tree.name.text names.Ordinary))
      (functions_behind specifier tree (behind_function behind tree inner))
      (defined specifier tree behind inner)

  -- an item behind the words of its type
  unfoldable pub item_behind : List Keyword → TypeSpecifier → Reader ItemKind
  item_behind modifiers specifier behind = if is_typedef modifiers
      then (onward (typedef_names_from (nested limit limit).expression (turns behind) behind) λ list to.
      Some (items.Declaration (declaration specifier (kinds.Typedef list)), to))
      else either (mark marks.Semicolon behind) (functions specifier behind)
      (λ to. if declares_tag specifier then Some (items.Declaration (declaration specifier kinds.TypeOnly), to)
      else None)

  -- a definition or declaration, however deep
  unfoldable pub any_item : Reader ItemKind
  any_item from = onward (defining (nested limit limit).expression (suc limit) from) λ type behind. if agrees type.0
      then item_behind type.0 type.1 behind else None

  -- an item, where it is not too deep
  unfoldable pub item : Reader ItemKind
  item from = onward (any_item from) λ kind to. if nat_le (item_depth kind) limit then Some (kind, to) else None

  -- the items up to the end of the file
  unfoldable pub items_from : ℕ → Input → Option (List Item)
  items_from zero from = None
  items_from (suc left) from = either (next from) (Some [])
      (λ _. onward (attributes from) λ list start. option_and_then (λ place. onward (item start) λ kind rest.
      option_map (λ others. record { place = place; attributes = list; kind = kind } ∷ others) (items_from left rest))
      (place_of start))

  -- the file's tree
  unfoldable pub unit_of : TokenLists → Option unit.Unit
  unit_of file = option_map (λ list. record { includes = file.includes; items = list })
      (items_from (suc (length file.tokens)) (record { tokens = file.tokens; names = [] }))
