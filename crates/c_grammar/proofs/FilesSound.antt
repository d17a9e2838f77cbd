-- What is read of a file is in the grammar, and no deeper than the limit.
use Rattle.std.proofs.Common.{◌≡◌, ℕ, zero, suc, ◌≤◌, true, false, List, [], ◌∷◌, map, length, Option, Some, None, refl, arith}
use Rattle.std.specs.Prelude.{nat_le, option_map}
use Rattle.std.specs.List.{list_all}
use Rattle.std.proofs.lemmas.Option.{none-some, same_Some, some_pair_parts}
use Rattle.c_lexer.specs.TokenLists.{TokenLists}
use Rattle.c_lexer.specs.declared.keyword.Keyword.{Keyword}
use Rattle.c_lexer.specs.declared.punctuator.Punctuator.TheVariants as marks
use Rattle.c_syntax.specs.declared.declaration.DeclarationKind.TheVariants as kinds
use Rattle.c_syntax.specs.declared.declaration.InitDeclarator.TheVariants as declarators
use Rattle.c_syntax.specs.declared.declarator.FunctionDeclarator.{FunctionDeclarator}
use Rattle.c_syntax.specs.declared.specifier.TypeSpecifier.{TypeSpecifier}
use Rattle.c_syntax.specs.declared.stmt.StmtKind.TheVariants as statements
use Rattle.c_syntax.specs.declared.unit.Item.{Item}
use Rattle.c_syntax.specs.declared.unit.ItemKind.{ItemKind}
use Rattle.c_syntax.specs.declared.unit.ItemKind.TheVariants as items
use Rattle.c_syntax.specs.declared.unit.Unit as unit
use Rattle.c_syntax.specs.Depth.{item_depth, unit_depth, deepest}
use Rattle.c_grammar.specs.declared.names.NameKind.TheVariants as names
use Rattle.c_grammar.specs.Input.{Input, next, mark, declares}
use Rattle.c_grammar.specs.Declarations as declarations
use Rattle.c_grammar.specs.Declarations.{Defining, FunctionDeclared, agrees, is_typedef, declares_tag, declaration, behind_function}
use Rattle.c_grammar.specs.Statements.{outermost, place_of}
use Rattle.c_grammar.specs.Grammar as grammar
use Rattle.c_grammar.specs.Grammar.{ItemKindRead, Items, Derives, bare_statement}
use Rattle.c_grammar.specs.Reading as reading
use Rattle.c_grammar.specs.Reading.{turns, nested}
use Rattle.c_grammar.specs.DeclarationReading as declared
use Rattle.c_grammar.specs.StatementReading.{children_from, kind_at}
use Rattle.c_grammar.specs.FileReading as files
use Rattle.c_grammar.proofs.Steps.{into, into_onward, into_past, into_either, into_if, le_is}
use Rattle.c_grammar.proofs.AttributesRead.{attributes-sound}
use Rattle.c_grammar.proofs.Sound.{nested-sound}
use Rattle.c_grammar.proofs.DeclarationsSound.{function-sound, typedef_names-sound, function_names-sound, defining-sound}
use Rattle.c_grammar.proofs.DeclarationsRead.{whole}
use Rattle.c_grammar.proofs.StatementsSound.{block-sound}

into_map : {A B P : Type 0} (f : A → B) (o : Option A) (y : B) → option_map f o ≡ Some y → ((x : A) → o ≡ Some x → f x ≡ y → P) → P
into_map f None y e k = absurd (none-some y e)
into_map f (Some x) y e k = k x refl (same_Some (f x) y e)

module _ (limit : ℕ) where
  defined-sound : (from : Input) (words : List Keyword) (type : TypeSpecifier) (behind : Input) (tree : FunctionDeclarator) (inner start : Input)
      (kind : ItemKind) (to : Input) → Defining from words type behind → agrees words ≡ true → is_typedef words ≡ false
      → FunctionDeclared behind tree inner → mark marks.OpenBrace (declares inner tree.name.text names.Ordinary) ≡ Some start
      → files.defined limit type tree behind inner start ≡ Some (kind, to) → ItemKindRead from kind to
  unfolding files.defined files.function_body
  defined-sound from words type behind tree inner start kind to d a t f o e =
      into_if (list_all (λ parameter. grammar.is_named parameter.declarator) tree.parameters) _ _ _ e
      (λ known found. into _ (place_of (declares inner tree.name.text names.Ordinary)) _ found λ place p more.
      into_onward (children_from (whole limit) (kind_at (whole limit) limit) outermost (turns start) start) _ _ more λ children end c same.
      let parts = some_pair_parts (items.Function (record { specifier = type; declarator = tree; body = bare_statement place (statements.Compound children) }))
      kind (behind_function behind tree end) to same in
      rw (← parts.0, ← parts.1) (grammar.ItemKindRead.function d (rw a refl) t f (rw known refl)
      (grammar.Body.body p o (block-sound limit (whole limit) (nested-sound limit limit).expressions limit outermost (turns start) start children end c))))
      (λ _ none. absurd (none-some _ none))

  functions-sound : (from : Input) (words : List Keyword) (type : TypeSpecifier) (behind : Input) (kind : ItemKind) (to : Input)
      → Defining from words type behind → agrees words ≡ true → is_typedef words ≡ false
      → files.functions limit type behind ≡ Some (kind, to) → ItemKindRead from kind to
  unfolding files.functions files.functions_behind
  functions-sound from words type behind kind to d a t e = into_onward (declared.function_declared (whole limit) behind) _ _ e λ tree inner f found.
      let function = function-sound limit (whole limit) (nested-sound limit limit).expressions behind tree inner f in
      into_either (mark marks.OpenBrace (declares inner tree.name.text names.Ordinary)) _ _ _ found
      (λ _ more. into_either (mark marks.Comma (behind_function behind tree inner)) _ _ _ more
      (λ _ last. into_past _ _ _ last λ end m same.
      let parts = some_pair_parts (items.Declaration (declaration type (kinds.Names (declarators.Function tree ∷ [])))) kind end to same in
      rw (← parts.0, ← parts.1) (grammar.ItemKindRead.declaration (declarations.FileDeclaration.functions d (rw a refl) t
      (declarations.FunctionNames.last function m))))
      (λ after m last. into_onward (declared.function_names_from (whole limit) (turns after) after) _ _ last λ others end n same.
      let parts = some_pair_parts (items.Declaration (declaration type (kinds.Names (declarators.Function tree ∷ others)))) kind end to same in
      rw (← parts.0, ← parts.1) (grammar.ItemKindRead.declaration (declarations.FileDeclaration.functions d (rw a refl) t
      (declarations.FunctionNames.more function m
      (function_names-sound limit (whole limit) (nested-sound limit limit).expressions (turns after) after others end n))))))
      (λ start o more. defined-sound from words type behind tree inner start kind to d a t function o more)

  any_item-sound : (from : Input) (kind : ItemKind) (to : Input) → files.any_item limit from ≡ Some (kind, to) → ItemKindRead from kind to
  unfolding files.any_item files.item_behind
  any_item-sound from kind to e = into_onward (declared.defining (whole limit) (suc limit) from) _ _ e λ type behind d found.
      let defining = defining-sound limit (whole limit) (nested-sound limit limit).expressions (suc limit) from type.0 type.1 behind d in
      into_if (agrees type.0) _ _ _ found
      (λ agree more. into_if (is_typedef type.0) _ _ _ more
      (λ typedef last. into_onward (declared.typedef_names_from (whole limit) (turns behind) behind) _ _ last λ list end n same.
      let parts = some_pair_parts (items.Declaration (declaration type.1 (kinds.Typedef list))) kind end to same in
      rw (← parts.0, ← parts.1) (grammar.ItemKindRead.declaration (declarations.FileDeclaration.typedefs defining (rw agree refl) typedef
      (typedef_names-sound limit (whole limit) (nested-sound limit limit).expressions (turns behind) behind list end n))))
      (λ typedef last. into_either (mark marks.Semicolon behind) _ _ _ last
      (λ _ functions. functions-sound from type.0 type.1 behind kind to defining agree typedef functions)
      (λ end m tag. into_if (declares_tag type.1) _ _ _ tag
      (λ known same. let parts = some_pair_parts (items.Declaration (declaration type.1 kinds.TypeOnly)) kind end to same in
      rw (← parts.0, ← parts.1) (grammar.ItemKindRead.declaration (declarations.FileDeclaration.tag defining (rw agree refl) typedef (rw known refl) m)))
      (λ _ none. absurd (none-some _ none)))))
      (λ _ none. absurd (none-some _ none))

  item-sound : (from : Input) (kind : ItemKind) (to : Input) → files.item limit from ≡ Some (kind, to)
      → ItemKindRead from kind to × (item_depth kind ≤ limit)
  unfolding files.item
  item-sound from kind to e = into_onward (files.any_item limit from) _ _ e λ found rest i more.
      into_if (nat_le (item_depth found) limit) _ _ _ more
      (λ known same. let parts = some_pair_parts found kind rest to same in
      rw (← parts.0, ← parts.1) (any_item-sound from found rest i, le_is _ limit known))
      (λ _ none. absurd (none-some _ none))

  items-sound : (left : ℕ) (from : Input) (list : List Item) → files.items_from limit left from ≡ Some list
      → Items from list × (deepest (map (λ item. item_depth item.kind) list) ≤ limit)
  unfolding files.items_from
  items-sound zero from list e = absurd (none-some _ e)
  items-sound (suc left) from list e = into_either (next from) _ _ _ e
      (λ none same. rw (← same_Some _ list same) (grammar.Items.none none, omega arith))
      (λ taken _ found. into_onward (reading.attributes from) _ _ found λ attributes start a more. into _ (place_of start) _ more λ place p rest.
      into_onward (files.item limit start) _ _ rest λ kind behind i last. into_map _ (files.items_from limit left behind) _ last λ others o same.
      let item = item-sound start kind behind i in
      let behind_it = items-sound left behind others o in
      rw (← same) (grammar.Items.more (attributes-sound from attributes start a) p item.0 behind_it.0, omega (arith, item.1, behind_it.1)))

  -- what is read of a file is its tree, no deeper than the limit
  pub unit-sound : (file : TokenLists) (tree : unit.Unit) → files.unit_of limit file ≡ Some tree → Derives file tree × (unit_depth tree ≤ limit)
  unfolding files.unit_of
  unit-sound file tree e = into_map _ (files.items_from limit (suc (length file.tokens)) (record { tokens = file.tokens; names = [] })) _ e λ list i same.
      let items = items-sound (suc (length file.tokens)) (record { tokens = file.tokens; names = [] }) list i in
      rw (← same) (record { includes = refl; items = items.0 }, items.1)
