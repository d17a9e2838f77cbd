-- What is read of declarations is related by the grammar.
use Rattle.std.proofs.Common.{◌≡◌, ℕ, zero, suc, true, List, [], ◌∷◌, ◌++◌, Some, None, refl, ap, ◌∙◌}
use Rattle.std.specs.List.{list_all, list_any, filter}
use Rattle.std.proofs.lemmas.Bool.{false≢true}
use Rattle.std.proofs.lemmas.Option.{none-some, some_pair_parts}
use Rattle.c_lexer.specs.declared.keyword.Keyword.{Keyword}
use Rattle.c_lexer.specs.declared.punctuator.Punctuator.TheVariants as marks
use Rattle.c_syntax.specs.declared.attribute.Attribute.{Attribute}
use Rattle.c_syntax.specs.declared.name.Name.{Name}
use Rattle.c_syntax.specs.declared.declaration.Declaration.{Declaration}
use Rattle.c_syntax.specs.declared.declaration.DeclarationKind.TheVariants as kinds
use Rattle.c_syntax.specs.declared.declaration.InitDeclarator.{InitDeclarator}
use Rattle.c_syntax.specs.declared.declaration.InitDeclarator.TheVariants as declarators
use Rattle.c_syntax.specs.declared.declarator.Declarator.{Declarator}
use Rattle.c_syntax.specs.declared.declarator.FunctionDeclarator.{FunctionDeclarator}
use Rattle.c_syntax.specs.declared.declarator.Parameter.{Parameter}
use Rattle.c_syntax.specs.declared.declarator.ParameterDeclarator.TheVariants as parameters
use Rattle.c_syntax.specs.declared.specifier.MemberDeclaration.{MemberDeclaration}
use Rattle.c_syntax.specs.declared.specifier.RecordKind.{RecordKind}
use Rattle.c_syntax.specs.declared.specifier.RecordKind.TheVariants as records
use Rattle.c_syntax.specs.declared.specifier.TypeSpecifier.{TypeSpecifier}
use Rattle.c_syntax.specs.declared.specifier.TypeSpecifier.TheVariants as specifiers
use Rattle.c_syntax.specs.declared.expr.Expr.{Expr}
use Rattle.c_grammar.specs.declared.names.NameKind.TheVariants as names
use Rattle.c_grammar.specs.Input.{Input, Named, mark, identifier, declares}
use Rattle.c_grammar.specs.Attributes.{Attributes}
use Rattle.c_grammar.specs.Specifiers as types
use Rattle.c_grammar.specs.Specifiers.{TypeStart, type_start, is_specifier_word, is_integer_word, is_modifier, is_qualifier, integer_type, Words}
use Rattle.c_grammar.specs.Expressions as expressions
use Rattle.c_grammar.specs.Expressions.{Expression, Specified, SingleType, BeginsType}
use Rattle.c_grammar.specs.Declarations as grammar
use Rattle.c_grammar.specs.Declarations.{declarator, unnamed_parameter, definition, member_declaration, declaration, behind_function, is_void_alone, is_typedef, is_local, agrees, declares_tag, Declared, ParameterDeclared, ParameterList, Parameters, FunctionDeclared, TypedefNames, Initialized, InitializedNames, FunctionNames, MemberNames, Defining, RecordDefined, Members, MemberDeclared, LocalDeclaration}
use Rattle.c_grammar.specs.Reading as reading
use Rattle.c_grammar.specs.Reading.{Reader, turns}
use Rattle.c_grammar.specs.DeclarationReading as declarations
use Rattle.c_grammar.proofs.Steps.{into, into_onward, into_past, into_either, into_if}
use Rattle.c_grammar.proofs.AttributesRead.{attributes-sound}
use Rattle.c_grammar.proofs.TypesRead.{words-sound, words-modifiers, pointers-sound}
use Rattle.c_grammar.proofs.Sound.{SoundExpressions, lengths-sound, specified-sound, single_by-sound}

-- what a pair of a list's element and a tree says
pair_parts : {A B : Type 0} (a x : A) (b y : B) → ◌≡◌ {A = A × B} (a, b) (x, y) → (a ≡ x) × (b ≡ y)
pair_parts {A} {B} a x b y e = (ap (λ (p : A × B). p.0) e, ap (λ (p : A × B). p.1) e)

module _ (limit : ℕ) (expression : ℕ → Reader Expr) (s : SoundExpressions limit expression) where
  declared_behind-sound : (count : ℕ) (from behind : Input) (named : Named) (tree : Declarator × Name) (to : Input)
      → types.Pointers from count behind → identifier behind ≡ Some named
      → declarations.declared_behind expression count named.name named.rest ≡ Some (tree, to) → Declared from tree.0 tree.1 to
  unfolding declarations.declared_behind
  declared_behind-sound count from behind named tree to p i e = into_onward (reading.lengths expression named.rest) _ _ e λ lengths rest l same.
      let parts = some_pair_parts {A = Declarator × Name} (declarator count named.name lengths, named.name) tree rest to same in
      rw (← parts.0, ← parts.1) (grammar.Declared.declared p i (lengths-sound limit expression s named.rest lengths rest l))

  declared-sound : (from : Input) (tree : Declarator × Name) (to : Input) → declarations.declared expression from ≡ Some (tree, to)
      → Declared from tree.0 tree.1 to
  unfolding declarations.declared
  declared-sound from tree to e = into_onward (reading.pointers from) _ _ e λ count rest p found. into _ (identifier rest) _ found λ named i more.
      declared_behind-sound count from rest named tree to (pointers-sound from count rest p) i more

  parameter-sound : (from : Input) (parameter : Parameter) (to : Input) → declarations.parameter expression from ≡ Some (parameter, to)
      → ParameterDeclared from parameter to
  unfolding declarations.parameter declarations.parameter_behind
  parameter-sound from parameter to e = into_onward (reading.specified expression from) _ _ e λ type rest t found.
      into_if (list_all is_qualifier type.0) _ _ _ found
      (λ known more. into_onward (reading.pointers rest) _ _ more λ count inner p next.
      into_either (identifier inner) _ _ _ next
      (λ none last. into_onward (reading.lengths expression inner) _ _ last λ lengths end l same.
      let parts = some_pair_parts (record { specifier = type.1; declarator = unnamed_parameter count lengths }) parameter end to same in
      rw (← parts.0, ← parts.1) (grammar.ParameterDeclared.unnamed (specified-sound limit expression s from type.0 type.1 rest t) (rw known refl)
      (pointers-sound rest count inner p) (lengths-sound limit expression s inner lengths end l)))
      (λ named i last. into_onward (declarations.declared_behind expression count named.name named.rest) _ _ last λ tree end d same.
      let parts = some_pair_parts (record { specifier = type.1; declarator = parameters.Named tree.0 }) parameter
      (declares end tree.1.text names.Ordinary) to same in
      rw (← parts.0, ← parts.1) (grammar.ParameterDeclared.named (specified-sound limit expression s from type.0 type.1 rest t) (rw known refl)
      (declared_behind-sound count rest inner named tree end (pointers-sound rest count inner p) i d))))
      (λ known none. absurd (none-some _ none))

  parameter_list-sound : (left : ℕ) (from : Input) (list : List Parameter) (to : Input)
      → declarations.parameters_from expression left from ≡ Some (list, to) → ParameterList from list to
  unfolding declarations.parameters_from
  parameter_list-sound zero from list to e = absurd (none-some _ e)
  parameter_list-sound (suc left) from list to e = into_onward (declarations.parameter expression from) _ _ e λ one rest p found.
      into_either (mark marks.Comma rest) _ _ _ found
      (λ none last. into_past _ _ _ last λ end m same. let parts = some_pair_parts (one ∷ []) list end to same in
      rw (← parts.0, ← parts.1) (grammar.ParameterList.last (parameter-sound from one rest p) m))
      (λ inner m more. into_onward (declarations.parameters_from expression left inner) _ _ more λ others end known same.
      let parts = some_pair_parts (one ∷ others) list end to same in
      rw (← parts.0, ← parts.1) (grammar.ParameterList.more (parameter-sound from one rest p) m (parameter_list-sound left inner others end known)))

  is_void : (begin : TypeStart) → declarations.is_void_start begin ≡ true → begin ≡ types.Void
  is_void types.Void e = refl
  is_void _ e = absurd (false≢true e)

  pub parameters-sound : (from : Input) (list : List Parameter) (to : Input) → declarations.parameter_list expression from ≡ Some (list, to)
      → Parameters from list to
  unfolding declarations.parameter_list declarations.void_alone
  parameters-sound from list to e = into_onward (declarations.parameters_from expression (turns from) from) _ _ e λ found rest p more.
      into_if (is_void_alone found) _ _ _ more
      (λ known alone. into_past _ _ _ alone λ end v same. let parts = some_pair_parts [] list end to same in
      into _ (type_start from) _ v λ started b closed. into_if (declarations.is_void_start started.start) _ _ _ closed
      (λ void m. rw (← parts.0, ← parts.1) (grammar.Parameters.void (b ∙ ap (λ begin. Some (record { start = begin; rest = started.rest }))
      (is_void started.start void)) m))
      (λ _ none. absurd (none-some _ none)))
      (λ known same. let parts = some_pair_parts found list rest to same in
      rw (← parts.0, ← parts.1) (grammar.Parameters.list (parameter_list-sound (turns from) from found rest p) known))

  function_behind-sound : (count : ℕ) (from behind : Input) (named : Named) (inner : Input) (tree : FunctionDeclarator) (to : Input)
      → types.Pointers from count behind → identifier behind ≡ Some named → mark marks.OpenParenthesis named.rest ≡ Some inner
      → declarations.function_behind expression count named.name inner ≡ Some (tree, to) → FunctionDeclared from tree to
  unfolding declarations.function_behind
  function_behind-sound count from behind named inner tree to p i o e = into_onward (declarations.parameter_list expression inner) _ _ e λ list rest l same.
      let parts = some_pair_parts (record { pointers = count; name = named.name; parameters = list }) tree rest to same in
      rw (← parts.0, ← parts.1) (grammar.FunctionDeclared.function_declarator p i o (parameters-sound inner list rest l))

  pub function-sound : (from : Input) (tree : FunctionDeclarator) (to : Input) → declarations.function_declared expression from ≡ Some (tree, to)
      → FunctionDeclared from tree to
  unfolding declarations.function_declared
  function-sound from tree to e = into_onward (reading.pointers from) _ _ e λ count rest p found. into _ (identifier rest) _ found λ named i more.
      into_past _ _ _ more λ inner o last.
      function_behind-sound count from rest named inner tree to (pointers-sound from count rest p) i o last

  pub typedef_names-sound : (left : ℕ) (from : Input) (list : List Declarator) (to : Input)
      → declarations.typedef_names_from expression left from ≡ Some (list, to) → TypedefNames from list to
  unfolding declarations.typedef_names_from
  typedef_names-sound zero from list to e = absurd (none-some _ e)
  typedef_names-sound (suc left) from list to e = into_onward (declarations.declared expression from) _ _ e λ tree rest d found.
      into_either (mark marks.Comma (declares rest tree.1.text names.Typedef)) _ _ _ found
      (λ none last. into_past _ _ _ last λ end m same. let parts = some_pair_parts (tree.0 ∷ []) list end to same in
      rw (← parts.0, ← parts.1) (grammar.TypedefNames.last (declared-sound from tree rest d) m))
      (λ inner m more. into_onward (declarations.typedef_names_from expression left inner) _ _ more λ others end known same.
      let parts = some_pair_parts (tree.0 ∷ others) list end to same in
      rw (← parts.0, ← parts.1) (grammar.TypedefNames.more (declared-sound from tree rest d) m (typedef_names-sound left inner others end known)))

  member_names-sound : (left : ℕ) (from : Input) (list : List Declarator) (to : Input)
      → declarations.member_names_from expression left from ≡ Some (list, to) → MemberNames from list to
  unfolding declarations.member_names_from
  member_names-sound zero from list to e = absurd (none-some _ e)
  member_names-sound (suc left) from list to e = into_onward (declarations.declared expression from) _ _ e λ tree rest d found.
      into_either (mark marks.Comma rest) _ _ _ found
      (λ none last. into_past _ _ _ last λ end m same. let parts = some_pair_parts (tree.0 ∷ []) list end to same in
      rw (← parts.0, ← parts.1) (grammar.MemberNames.last (declared-sound from tree rest d) m))
      (λ inner m more. into_onward (declarations.member_names_from expression left inner) _ _ more λ others end known same.
      let parts = some_pair_parts (tree.0 ∷ others) list end to same in
      rw (← parts.0, ← parts.1) (grammar.MemberNames.more (declared-sound from tree rest d) m (member_names-sound left inner others end known)))

  initialized-sound : (from : Input) (one : InitDeclarator) (to : Input) → declarations.initialized expression from ≡ Some (one, to)
      → Initialized from one to
  unfolding declarations.initialized declarations.object_behind
  initialized-sound from one to e = into_onward (reading.pointers from) _ _ e λ count rest p found. into _ (identifier rest) _ found λ named i more.
      into_either (mark marks.OpenParenthesis named.rest) _ _ _ more
      (λ none object. into_onward (declarations.declared_behind expression count named.name named.rest) _ _ object λ tree behind d last.
      let declared = declared_behind-sound count from rest named tree behind (pointers-sound from count rest p) i d in
      into_either (mark marks.Assign (declares behind tree.1.text names.Ordinary)) _ _ _ last
      (λ none same. let parts = some_pair_parts (declarators.Object tree.0 None) one (declares behind tree.1.text names.Ordinary) to same in
      rw (← parts.0, ← parts.1) (grammar.Initialized.object declared))
      (λ inner m value. into_onward (expression 1 inner) _ _ value λ v end k same.
      let parts = some_pair_parts (declarators.Object tree.0 (Some v)) one end to same in
      rw (← parts.0, ← parts.1) (grammar.Initialized.initialized declared m (s.sound 1 inner v end k).0)))
      (λ inner o function. into_onward (declarations.function_behind expression count named.name inner) _ _ function λ tree end f same.
      let parts = some_pair_parts (declarators.Function tree) one (behind_function from tree end) to same in
      rw (← parts.0, ← parts.1) (grammar.Initialized.function
      (function_behind-sound count from rest named inner tree end (pointers-sound from count rest p) i o f)))

  initialized_names-sound : (left : ℕ) (from : Input) (list : List InitDeclarator) (to : Input)
      → declarations.initialized_names_from expression left from ≡ Some (list, to) → InitializedNames from list to
  unfolding declarations.initialized_names_from
  initialized_names-sound zero from list to e = absurd (none-some _ e)
  initialized_names-sound (suc left) from list to e = into_onward (declarations.initialized expression from) _ _ e λ one rest d found.
      into_either (mark marks.Comma rest) _ _ _ found
      (λ none last. into_past _ _ _ last λ end m same. let parts = some_pair_parts (one ∷ []) list end to same in
      rw (← parts.0, ← parts.1) (grammar.InitializedNames.last (initialized-sound from one rest d) m))
      (λ inner m more. into_onward (declarations.initialized_names_from expression left inner) _ _ more λ others end known same.
      let parts = some_pair_parts (one ∷ others) list end to same in
      rw (← parts.0, ← parts.1) (grammar.InitializedNames.more (initialized-sound from one rest d) m (initialized_names-sound left inner others end known)))

  pub function_names-sound : (left : ℕ) (from : Input) (list : List InitDeclarator) (to : Input)
      → declarations.function_names_from expression left from ≡ Some (list, to) → FunctionNames from list to
  unfolding declarations.function_names_from
  function_names-sound zero from list to e = absurd (none-some _ e)
  function_names-sound (suc left) from list to e = into_onward (declarations.function_declared expression from) _ _ e λ tree rest f found.
      into_either (mark marks.Comma (behind_function from tree rest)) _ _ _ found
      (λ none last. into_past _ _ _ last λ end m same. let parts = some_pair_parts (declarators.Function tree ∷ []) list end to same in
      rw (← parts.0, ← parts.1) (grammar.FunctionNames.last (function-sound from tree rest f) m))
      (λ inner m more. into_onward (declarations.function_names_from expression left inner) _ _ more λ others end known same.
      let parts = some_pair_parts (declarators.Function tree ∷ others) list end to same in
      rw (← parts.0, ← parts.1) (grammar.FunctionNames.more (function-sound from tree rest f) m (function_names-sound left inner others end known)))

  pub local-sound : (from : Input) (tree : Declaration) (to : Input) → declarations.local_declaration expression from ≡ Some (tree, to)
      → LocalDeclaration from tree to
  unfolding declarations.local_declaration declarations.local_behind
  local-sound from tree to e = into_onward (reading.specified expression from) _ _ e λ type rest t found.
      let specified = specified-sound limit expression s from type.0 type.1 rest t in
      into_if (is_local type.0) _ _ _ found
      (λ local more. into_if (is_typedef type.0) _ _ _ more
      (λ typedef next. into_if (agrees type.0) _ _ _ next
      (λ agree last. into_onward (declarations.typedef_names_from expression (turns rest) rest) _ _ last λ list end n same.
      let parts = some_pair_parts (declaration type.1 (kinds.Typedef list)) tree end to same in
      rw (← parts.0, ← parts.1) (grammar.LocalDeclaration.typedefs specified (rw local refl) (rw agree refl) typedef
      (typedef_names-sound (turns rest) rest list end n)))
      (λ _ none. absurd (none-some _ none)))
      (λ typedef next. into_either (mark marks.Semicolon rest) _ _ _ next
      (λ none last. into_onward (declarations.initialized_names_from expression (turns rest) rest) _ _ last λ list end n same.
      let parts = some_pair_parts (declaration type.1 (kinds.Names list)) tree end to same in
      rw (← parts.0, ← parts.1) (grammar.LocalDeclaration.declared_names specified (rw local refl) typedef
      (initialized_names-sound (turns rest) rest list end n)))
      (λ end m last. into_if (declares_tag type.1) _ _ _ last
      (λ tag same. let parts = some_pair_parts (declaration type.1 kinds.TypeOnly) tree end to same in
      rw (← parts.0, ← parts.1) (grammar.LocalDeclaration.tag specified (rw local refl) typedef (rw tag refl) m))
      (λ _ none. absurd (none-some _ none)))))
      (λ _ none. absurd (none-some _ none))

  -- ---- structs and unions with their members

  module _ (member_type : Reader (List Keyword × TypeSpecifier))
      (m : (from : Input) (words : List Keyword) (type : TypeSpecifier) (to : Input) → member_type from ≡ Some ((words, type), to) → Defining from words type to) where
    member-sound : (from : Input) (one : MemberDeclaration) (to : Input) → declarations.member expression member_type from ≡ Some (one, to)
        → MemberDeclared from one to
    unfolding declarations.member declarations.members_behind
    member-sound from one to e = into_onward (reading.attributes from) _ _ e λ list inner a found.
        into_onward (member_type inner) _ _ found λ type rest t more. into_if (list_all is_qualifier type.0) _ _ _ more
        (λ known next. into_either (mark marks.Semicolon rest) _ _ _ next
        (λ none last. into_onward (declarations.member_names_from expression (turns rest) rest) _ _ last λ declared end n same.
        let parts = some_pair_parts (member_declaration list type.1 declared) one end to same in
        rw (← parts.0, ← parts.1) (grammar.MemberDeclared.members (attributes-sound from list inner a) (m inner type.0 type.1 rest t) (rw known refl)
        (member_names-sound (turns rest) rest declared end n)))
        (λ end c last. into_if (declares_tag type.1) _ _ _ last
        (λ tag same. let parts = some_pair_parts (member_declaration list type.1 []) one end to same in
        rw (← parts.0, ← parts.1) (grammar.MemberDeclared.no_members (attributes-sound from list inner a) (m inner type.0 type.1 rest t)
        (rw known refl) (rw tag refl) c))
        (λ _ none. absurd (none-some _ none))))
        (λ _ none. absurd (none-some _ none))

    members-sound : (left : ℕ) (from : Input) (list : List MemberDeclaration) (to : Input)
        → declarations.members_from expression member_type left from ≡ Some (list, to) → Members from list to
    unfolding declarations.members_from
    members-sound zero from list to e = absurd (none-some _ e)
    members-sound (suc left) from list to e = into_onward (declarations.member expression member_type from) _ _ e λ one rest d found.
        into_either (mark marks.CloseBrace rest) _ _ _ found
        (λ none more. into_onward (declarations.members_from expression member_type left rest) _ _ more λ others end known same.
        let parts = some_pair_parts (one ∷ others) list end to same in
        rw (← parts.0, ← parts.1) (grammar.Members.more_members (member-sound from one rest d) (members-sound left rest others end known)))
        (λ end c same. let parts = some_pair_parts (one ∷ []) list end to same in
        rw (← parts.0, ← parts.1) (grammar.Members.last_member (member-sound from one rest d) c))

    -- a type that a definition or a single word gives, with the modifiers round it
    Around : TypeSpecifier → Input → Input → Type 0
    Around type from to = (before after : List Keyword) (start end : Input) → Words is_modifier start before from → Words is_modifier to after end
        → Defining start (before ++ after) type end

    plain : (type : TypeSpecifier) (from to : Input) → SingleType from type to → Around type from to
    unfolding Around
    plain type from to t before after start end a b = grammar.Defining.specified (expressions.Specified.single_type a t b)

    record-sound : (kind : RecordKind) (from outer : Input) (type : TypeSpecifier) (to : Input) → BeginsType from (grammar.record_start kind) outer
        → declarations.record_or_definition expression member_type kind outer ≡ Some (type, to)
        → ((list : List Attribute) (rest : Input) (tag : Named) → Attributes outer list rest → identifier rest ≡ Some tag
        → SingleType from (specifiers.Record kind list tag.name) tag.rest)
        → Around type from to
    unfolding declarations.record_or_definition declarations.record_behind Around
    record-sound kind from outer type to b e k = into_onward (reading.attributes outer) _ _ e λ list rest a found.
        into _ (identifier rest) _ found λ tag i more. into_either (mark marks.OpenBrace tag.rest) _ _ _ more
        (λ none same. let parts = some_pair_parts (specifiers.Record kind list tag.name) type tag.rest to same in
        rw (← parts.0, ← parts.1) (plain (specifiers.Record kind list tag.name) from tag.rest (k list rest tag (attributes-sound outer list rest a) i)))
        (λ inner o last. into_onward (declarations.members_from expression member_type (turns inner) inner) _ _ last λ members end c same.
        let parts = some_pair_parts (specifiers.RecordDefinition (definition kind list tag.name members)) type end to same in
        rw (← parts.0, ← parts.1) (λ before after start stop x y. grammar.Defining.defined x
        (grammar.RecordDefined.record_of kind b (attributes-sound outer list rest a) i o (members-sound (turns inner) inner members end c)) y))

    by-sound : (begin : TypeStart) (from rest : Input) (type : TypeSpecifier) (to : Input) → BeginsType from begin rest
        → declarations.defining_by expression member_type begin rest ≡ Some (type, to) → Around type from to
    by-sound types.Struct from rest type to b e = record-sound records.Struct from rest type to b e
        (λ list inner tag a i. expressions.SingleType.struct b a i)
    by-sound types.Union from rest type to b e = record-sound records.Union from rest type to b e
        (λ list inner tag a i. expressions.SingleType.union b a i)
    by-sound types.Void from rest type to b e = plain type from to (single_by-sound limit expression s types.Void from rest type to b e)
    by-sound types.Boolean from rest type to b e = plain type from to (single_by-sound limit expression s types.Boolean from rest type to b e)
    by-sound types.Enum from rest type to b e = plain type from to (single_by-sound limit expression s types.Enum from rest type to b e)
    by-sound (types.Typedef name) from rest type to b e = plain type from to (single_by-sound limit expression s (types.Typedef name) from rest type to b e)
    by-sound (types.Header h) from rest type to b e = plain type from to (single_by-sound limit expression s (types.Header h) from rest type to b e)
    by-sound types.SpecifierWord from rest type to b e = absurd (none-some _ e)
    by-sound types.NoType from rest type to b e = absurd (none-some _ e)

    with-sound : (from : Input) (words : List Keyword) (type : TypeSpecifier) (to : Input)
        → declarations.defining_with expression member_type from ≡ Some ((words, type), to) → Defining from words type to
    unfolding declarations.defining_with declarations.specified_with declarations.defining_type Around
    with-sound from words type to e = into_onward (reading.words is_specifier_word from) _ _ e λ before rest w found.
        into_if (list_any is_integer_word before) _ _ _ found
        (λ known more. into _ (integer_type before) _ more λ integer i same.
        let parts = some_pair_parts {A = List Keyword × TypeSpecifier} (filter is_modifier before, specifiers.Integer integer) (words, type) rest to same in
        let inner = pair_parts (filter is_modifier before) words (specifiers.Integer integer) type parts.0 in
        rw (← inner.0, ← inner.1, ← parts.1)
        (grammar.Defining.specified (expressions.Specified.integer_words (words-sound is_specifier_word from before rest w) i)))
        (λ known more. into_onward (option_start rest) _ _ more λ specifier behind t last.
        into_onward (reading.words is_modifier behind) _ _ last λ after end a same.
        let parts = some_pair_parts {A = List Keyword × TypeSpecifier} (before ++ after, specifier) (words, type) end to same in
        let inner = pair_parts (before ++ after) words specifier type parts.0 in
        into _ (type_start rest) _ t λ started b by.
        rw (← inner.0, ← inner.1, ← parts.1)
        (by-sound started.start rest started.rest specifier behind b by before after from end
        (words-modifiers (words-sound is_specifier_word from before rest w) known) (words-sound is_modifier behind after end a)))
      where
        option_start : Reader TypeSpecifier
        option_start = declarations.defining_type expression member_type

  pub defining-sound : (room : ℕ) (from : Input) (words : List Keyword) (type : TypeSpecifier) (to : Input)
      → declarations.defining expression room from ≡ Some ((words, type), to) → Defining from words type to
  unfolding declarations.defining
  defining-sound zero from words type to e = absurd (none-some _ e)
  defining-sound (suc room) from words type to e = with-sound (declarations.defining expression room) (defining-sound room) from words type to e
