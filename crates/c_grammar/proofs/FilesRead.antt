-- Files that the grammar relates are what is read, where they are no deeper than the limit.
use Rattle.std.proofs.Common.{◌≡◌, ℕ, zero, suc, ◌≤◌, ◌<◌, true, List, [], ◌∷◌, map, length, Option, Some, None, sym, refl, arith}
use Rattle.std.proofs.lemmas.Option.{none-some}
use Rattle.rc_text.specs.declared.place.Place.{Place}
use Rattle.c_lexer.specs.TokenLists.{TokenLists}
use Rattle.c_lexer.specs.declared.punctuator.Punctuator.TheVariants as marks
use Rattle.c_syntax.specs.declared.stmt.Stmt.{Stmt}
use Rattle.c_syntax.specs.declared.stmt.StmtKind.TheVariants as statements
use Rattle.c_syntax.specs.declared.unit.Item.{Item}
use Rattle.c_syntax.specs.declared.unit.ItemKind.{ItemKind}
use Rattle.c_syntax.specs.declared.unit.ItemKind.TheVariants as items
use Rattle.c_syntax.specs.declared.unit.Unit as unit
use Rattle.std.specs.List.{list_all}
use Rattle.c_lexer.specs.declared.token.Token.{Token}
use Rattle.c_syntax.specs.declared.declaration.DeclarationKind.TheVariants as kinds
use Rattle.c_syntax.specs.declared.declaration.InitDeclarator.{InitDeclarator}
use Rattle.c_syntax.specs.declared.declarator.FunctionDeclarator.{FunctionDeclarator}
use Rattle.c_syntax.specs.declared.specifier.TypeSpecifier.{TypeSpecifier}
use Rattle.c_syntax.specs.Depth.{specifier_depth, function_depth, initialized_depth, statement_depth, item_depth, unit_depth, deepest}
use Rattle.c_grammar.specs.declared.names.NameEntry.{NameEntry}
use Rattle.c_grammar.specs.declared.names.NameKind.TheVariants as names
use Rattle.c_grammar.specs.Input.{Input, Taken, first_of_tokens, next, mark, declares}
use Rattle.c_grammar.specs.Declarations as declarations
use Rattle.c_grammar.specs.Declarations.{Defining, FunctionDeclared, FunctionNames, declaration, behind_function}
use Rattle.c_grammar.specs.Statements.{outermost, place_of, Children}
use Rattle.c_grammar.specs.Grammar as grammar
use Rattle.c_grammar.specs.Grammar.{Body, ItemKindRead, Items, Derives, bare_statement}
use Rattle.c_grammar.specs.Reading.{turns}
use Rattle.c_grammar.specs.FileReading as files
use Rattle.c_grammar.proofs.Steps.{is_le}
use Rattle.c_grammar.proofs.Terminals.{next_is, no_mark_at, other_mark, mark-turns}
use Rattle.c_grammar.proofs.AttributesRead.{attributes-read, attributes-turns}
use Rattle.c_grammar.proofs.Complete.{is_true}
use Rattle.c_grammar.proofs.DeclarationsRead.{function-read, function-turns, function_ends, ends_at_mark}
use Rattle.c_grammar.proofs.NamesRead.{typedef_names-read, typedef_names-turns, typedef_names-end, function_names-read, function_names-turns, function_names-end, function_names-no_semicolon, function-no_semicolon}
use Rattle.c_grammar.proofs.RecordsRead.{defining-read, defining-turns, defining-deep, defining_first}
use Rattle.c_grammar.proofs.StatementDepths.{depth-stated, depth-Compound}
use Rattle.c_grammar.proofs.StatementsRead.{children-read, children-turns}

-- ---- something is left behind

pub item-turns : {from : Input} {kind : ItemKind} {to : Input} → ItemKindRead from kind to → turns to < turns from
item-turns (grammar.ItemKindRead.function {tree = tree} {inner = inner} d a t f n (grammar.Body.body {inner = start} p o c)) =
    omega (arith, defining-turns d, function-turns f, mark-turns _ (declares inner tree.name.text names.Ordinary) start o, children-turns c)
item-turns (grammar.ItemKindRead.declaration (declarations.FileDeclaration.tag {behind = behind} {to = to} d a t g m)) =
    omega (arith, defining-turns d, mark-turns _ behind to m)
item-turns (grammar.ItemKindRead.declaration (declarations.FileDeclaration.typedefs d a t n)) = omega (arith, defining-turns d, typedef_names-turns n)
item-turns (grammar.ItemKindRead.declaration (declarations.FileDeclaration.functions d a t n)) = omega (arith, defining-turns d, function_names-turns n)

-- attributes stand before an item, whose first token is no bracket
item_first : {from : Input} {kind : ItemKind} {to : Input} → ItemKindRead from kind to → mark marks.OpenBracket from ≡ None
item_first (grammar.ItemKindRead.function d a t f n b) = (defining_first d).bracket
item_first (grammar.ItemKindRead.declaration (declarations.FileDeclaration.tag d a t g m)) = (defining_first d).bracket
item_first (grammar.ItemKindRead.declaration (declarations.FileDeclaration.typedefs d a t n)) = (defining_first d).bracket
item_first (grammar.ItemKindRead.declaration (declarations.FileDeclaration.functions d a t n)) = (defining_first d).bracket

-- where something is left to be read, a token stands next
some_next : (from : Input) (o : Option Taken) → next from ≡ o → 0 < turns from → (taken : Taken) × (next from ≡ Some taken)
some_next from (Some taken) e h = (taken, e)
some_next from None e h = absurd (no_next from.tokens from.names h e)
  where
    no_next : (tokens : List Token) (entries : List NameEntry) → 0 < length tokens → first_of_tokens tokens entries ≡ None → ⊥
    no_next [] entries h e = omega (arith, h)
    no_next (token ∷ tokens) entries h e = none-some _ (sym e)

module _ (limit : ℕ) where
  defined-read : (behind : Input) (specifier : TypeSpecifier) (tree : FunctionDeclarator) (inner : Input) {place : Place} {start : Input}
      {children : List Stmt} {to : Input} → list_all (λ parameter. grammar.is_named parameter.declarator) tree.parameters ≡ true
      → place_of (declares inner tree.name.text names.Ordinary) ≡ Some place → Children outermost start children to
      → deepest (map statement_depth children) ≤ limit
      → files.defined limit specifier tree behind inner start
      ≡ Some (
        items.Function (record { specifier = specifier; declarator = tree; body = bare_statement place (statements.Compound children) }),
        behind_function behind tree to,
      )
  unfolding files.defined files.function_body
  defined-read behind specifier tree inner {start = start} n p c within = rw (n, p, children-read limit c limit (turns start) (omega arith) within within) refl

  function_item-read : {behind : Input} {specifier : TypeSpecifier} {tree : FunctionDeclarator} {inner : Input} {block : Stmt} {to : Input}
      → FunctionDeclared behind tree inner → list_all (λ parameter. grammar.is_named parameter.declarator) tree.parameters ≡ true
      → Body (declares inner tree.name.text names.Ordinary) block to → 1 ≤ limit
      → function_depth (specifier_depth specifier) tree ≤ limit → statement_depth block ≤ limit
      → files.functions limit specifier behind
      ≡ Some (items.Function (record { specifier = specifier; declarator = tree; body = block }), behind_function behind tree to)
  unfolding files.functions
  function_item-read {behind = behind} {specifier = specifier} {tree = tree} {inner = inner} f n (grammar.Body.body {place = place} {children = children} p o c) some within deep =
      let d = depth-stated place [] [] (statements.Compound children) in
      let e = depth-Compound children in
      rw (function-read limit (specifier_depth specifier) f some within, o) (defined-read behind specifier tree inner n p c (omega (arith, d, e, deep)))

  names_item-read : {behind : Input} {specifier : TypeSpecifier} {list : List InitDeclarator} {to : Input} → FunctionNames behind list to → 1 ≤ limit
      → deepest (map (initialized_depth (specifier_depth specifier)) list) ≤ limit
      → files.functions limit specifier behind ≡ Some (items.Declaration (declaration specifier (kinds.Names list)), to)
  unfolding files.functions files.functions_behind
  names_item-read {specifier = specifier} (declarations.FunctionNames.last {from = from} {tree = tree} {behind = inner} {to = to} f m) some within =
      rw (
        function-read limit (specifier_depth specifier) f some (omega (arith, within)),
        no_mark_at marks.Semicolon marks.OpenBrace (declares inner tree.name.text names.Ordinary) (next_is _ (behind_function from tree inner) to m) refl,
        other_mark _ marks.Comma (behind_function from tree inner) to m refl,
        m,
      ) refl
  names_item-read {specifier = specifier} (declarations.FunctionNames.more {from = from} {tree = tree} {behind = inner} {inner = after} f m others) some within =
      rw (
        function-read limit (specifier_depth specifier) f some (omega (arith, within)),
        no_mark_at marks.Comma marks.OpenBrace (declares inner tree.name.text names.Ordinary) (next_is _ (behind_function from tree inner) after m) refl,
        m,
        function_names-read limit (specifier_depth specifier) others (turns after) (omega arith) some (omega (arith, within)),
      ) refl

  item-read : {from : Input} {kind : ItemKind} {to : Input} → ItemKindRead from kind to → item_depth kind ≤ limit
      → files.item limit from ≡ Some (kind, to)
  unfolding files.item files.any_item files.item_behind
  item-read (grammar.ItemKindRead.function {specifier = type} d a t f n b) within =
      let some = defining-deep d in
      rw (
        defining-read limit d limit (omega (arith, within)) (omega (arith, within)) (function_ends f),
        is_true a,
        t,
        function-no_semicolon f,
        function_item-read {specifier = type} f (is_true n) b (omega (arith, some, within)) (omega (arith, within)) (omega (arith, within)),
        is_le within,
      ) refl
  item-read (grammar.ItemKindRead.declaration (declarations.FileDeclaration.tag {behind = behind} {to = to} d a t g m)) within =
      rw (
        defining-read limit d limit (omega (arith, within)) (omega (arith, within)) (ends_at_mark marks.Semicolon behind (next_is _ behind to m) refl),
        is_true a,
        t,
        m,
        is_true g,
        is_le within,
      ) refl
  item-read (grammar.ItemKindRead.declaration (declarations.FileDeclaration.typedefs {specifier = type} {behind = behind} d a t n)) within =
      rw (
        defining-read limit d limit (omega (arith, within)) (omega (arith, within)) (typedef_names-end n),
        is_true a,
        t,
        typedef_names-read limit (specifier_depth type) n (turns behind) (omega arith) (omega (arith, within)),
        is_le within,
      ) refl
  item-read (grammar.ItemKindRead.declaration (declarations.FileDeclaration.functions {specifier = type} d a t n)) within =
      let some = defining-deep d in
      rw (
        defining-read limit d limit (omega (arith, within)) (omega (arith, within)) (function_names-end n),
        is_true a,
        t,
        function_names-no_semicolon n,
        names_item-read {specifier = type} n (omega (arith, some, within)) (omega (arith, within)),
        is_le within,
      ) refl

  items-read : {from : Input} {list : List Item} → Items from list → (left : ℕ) → turns from < left
      → deepest (map (λ item. item_depth item.kind) list) ≤ limit → files.items_from limit left from ≡ Some list
  unfolding files.items_from
  items-read (grammar.Items.none n) zero h within = absurd (omega (arith, h))
  items-read (grammar.Items.none n) (suc left) h within = rw n refl
  items-read (grammar.Items.more a p k others) zero h within = absurd (omega (arith, h))
  items-read (grammar.Items.more {from = from} a p k others) (suc left) h within =
      let some = some_next from (next from) refl (omega (arith, attributes-turns a, item-turns k)) in
      rw (
        some.1,
        attributes-read a (item_first k),
        p,
        item-read k (omega (arith, within)),
        items-read others left (omega (arith, h, attributes-turns a, item-turns k)) (omega (arith, within)),
      ) refl

  -- every file of the grammar is read, where it is no deeper than the limit
  pub unit-read : (file : TokenLists) (tree : unit.Unit) → Derives file tree → unit_depth tree ≤ limit → files.unit_of limit file ≡ Some tree
  unfolding files.unit_of
  unit-read file tree d within = rw (items-read d.items (suc (length file.tokens)) (omega arith) within, ← d.includes) refl
