-- Structs and unions with their members: what is related is read.
use denote.Enum.Bare.{sameb}
use Rattle.std.proofs.Common.{◌≡◌, ℕ, zero, suc, ◌+◌, ◌≤◌, ◌<◌, max, Bool, true, false, List, [], ◌∷◌, ◌++◌, map, Some, None, sym, refl, ap, ◌∙◌, arith, rules}
use Rattle.std.specs.List.{list_all}
use Rattle.std.proofs.lemmas.Option.{none-some}
use Rattle.c_lexer.specs.declared.keyword.Keyword.{Keyword}
use Rattle.c_lexer.specs.declared.punctuator.Punctuator.{Punctuator}
use Rattle.c_lexer.specs.declared.punctuator.Punctuator.TheVariants as marks
use Rattle.c_syntax.specs.declared.attribute.Attribute.{Attribute}
use Rattle.c_syntax.specs.declared.name.Name.{Name}
use Rattle.c_syntax.specs.declared.declarator.Declarator.{Declarator}
use Rattle.c_syntax.specs.declared.specifier.IntegerType.{IntegerType}
use Rattle.c_syntax.specs.declared.specifier.MemberDeclaration.{MemberDeclaration}
use Rattle.c_syntax.specs.declared.specifier.RecordDefinition.{RecordDefinition}
use Rattle.c_syntax.specs.declared.specifier.RecordKind.{RecordKind}
use Rattle.c_syntax.specs.declared.specifier.RecordKind.TheVariants as records
use Rattle.c_syntax.specs.declared.specifier.TypeSpecifier.{TypeSpecifier}
use Rattle.c_syntax.specs.declared.specifier.TypeSpecifier.TheVariants as specifiers
use Rattle.c_syntax.specs.declared.expr.Expr.{Expr}
use Rattle.c_syntax.specs.declared.expr.ExprKind.{the_lemmas}
use Rattle.c_syntax.specs.Depth.{specifier_depth, deepest, declared_depth}
use Rattle.c_grammar.specs.Depths.{declarator_depth, member_depth}
use Rattle.c_grammar.specs.Input.{Input, Named, mark, identifier}
use Rattle.c_grammar.specs.Attributes as attributes
use Rattle.c_grammar.specs.Attributes.{Attributes}
use Rattle.c_lexer.specs.contracts.punctuator.Punctuator as punctuator
use Rattle.c_grammar.specs.Specifiers as types
use Rattle.c_grammar.specs.Specifiers.{TypeStart, type_start, integer_type, word, is_specifier_word, is_modifier, is_qualifier, Words}
use Rattle.c_grammar.specs.Expressions as expressions
use Rattle.c_grammar.specs.Expressions.{Specified, SingleType, BeginsType}
use Rattle.c_grammar.specs.Declarations as grammar
use Rattle.c_grammar.specs.Declarations.{definition, member_declaration, record_start, Defining, RecordDefined, Members, MemberDeclared, MemberNames, declares_tag}
use Rattle.c_grammar.specs.Reading.{Reader, turns, is_type}
use Rattle.c_grammar.specs.DeclarationReading as declarations
use Rattle.c_grammar.proofs.Terminals.{next_is, other_mark, mark-turns, identifier-turns, no_mark_at_identifier, no_mark_at_type, type_start-turns}
use Rattle.c_grammar.proofs.AttributesRead.{attributes-read, attributes-turns}
use Rattle.c_grammar.proofs.TypesRead.{words-read, words-turns, no-other, no_mark_at_word, no_word_at_single, modifier-specifier, modifiers-words, modifiers-no_integer, some_named}
use Rattle.c_grammar.proofs.Sizes.{specified-turns}
use Rattle.c_grammar.proofs.ExpressionsRead as read
use Rattle.c_grammar.proofs.ExpressionsRead.{EndsType, single_here, specified-deep}
use Rattle.c_grammar.proofs.Complete.{is_true, single-read, no_brace}
use Rattle.c_grammar.proofs.DeclarationsRead.{whole, ends_at_mark}
use Rattle.c_grammar.proofs.NamesRead.{member_names-turns, member_names-end, member_names-no_semicolon, member_names-read}

pub depth-definition : (kind : RecordKind) (attributes : List Attribute) (tag : Name) (members : List MemberDeclaration)
    → specifier_depth (specifiers.RecordDefinition (definition kind attributes tag members)) ≡ 1 + deepest (map member_depth members)
depth-definition kind attributes tag members = search (rules, the_lemmas)

pub depth-folded : (attributes : List Attribute) (specifier : TypeSpecifier) (declarators : List Declarator)
    → member_depth (member_declaration attributes specifier declarators)
    ≡ max (specifier_depth specifier) (deepest (map (λ (depth : ℕ → ℕ). depth (specifier_depth specifier)) (map declarator_depth declarators)))
depth-folded attributes specifier declarators = search (rules, the_lemmas)

depth-one : (pointers : ℕ) (name : Name) (lengths : List Expr) (specified : ℕ)
    → declarator_depth (grammar.declarator pointers name lengths) specified ≡ declared_depth specified (grammar.declarator pointers name lengths)
depth-one pointers name lengths specified = search (rules, the_lemmas)

depth-names : {from : Input} {list : List Declarator} {to : Input} (specified : ℕ) → MemberNames from list to
    → map (λ (depth : ℕ → ℕ). depth specified) (map declarator_depth list) ≡ map (declared_depth specified) list
depth-names specified (grammar.MemberNames.last (grammar.Declared.declared {pointers = p} {named = n} {lengths = l} a b c) m) =
    ap (λ d. d ∷ []) (depth-one p n.name l specified)
depth-names specified (grammar.MemberNames.more {others = others} (grammar.Declared.declared {pointers = p} {named = n} {lengths = l} a b c) m rest) =
    rw (depth-one p n.name l specified, depth-names specified rest) refl

-- the parts of members' depth
member-parts : (attributes : List Attribute) (specifier : TypeSpecifier) {from : Input} {names : List Declarator} {to : Input} → MemberNames from names to
    → member_depth (member_declaration attributes specifier names)
    ≡ max (specifier_depth specifier) (deepest (map (declared_depth (specifier_depth specifier)) names))
member-parts attributes specifier {names = names} n = depth-folded attributes specifier names
    ∙ ap (λ l. max (specifier_depth specifier) (deepest l)) (depth-names (specifier_depth specifier) n)

pub defining-deep : {from : Input} {words : List Keyword} {type : TypeSpecifier} {to : Input} → Defining from words type to → 1 ≤ specifier_depth type
defining-deep (grammar.Defining.specified s) = specified-deep s
defining-deep (grammar.Defining.defined a (grammar.RecordDefined.record_of kind {attributes = list} {tag = tag} {members = members} c d e f g) b) =
    omega (arith, depth-definition kind list tag.name members)

-- ---- something is left behind

mutual
  pub defining-turns : {from : Input} {words : List Keyword} {type : TypeSpecifier} {to : Input} → Defining from words type to → turns to ≤ turns from
  defining-turns (grammar.Defining.specified s) = specified-turns s
  defining-turns (grammar.Defining.defined a r b) = omega (arith, words-turns a, record-turns r, words-turns b)

  pub record-turns : {from : Input} {tree : RecordDefinition} {to : Input} → RecordDefined from tree to → turns to < turns from
  record-turns (grammar.RecordDefined.record_of kind {from = from} {behind = behind} {tag = tag} {inner = inner} b a i o m) =
      omega (arith, type_start-turns from _ b, attributes-turns a, identifier-turns behind tag i, mark-turns _ tag.rest inner o, members-turns m)

  pub members-turns : {from : Input} {list : List MemberDeclaration} {to : Input} → Members from list to → turns to < turns from
  members-turns (grammar.Members.last_member {behind = behind} {to = to} m c) = omega (arith, member-turns m, mark-turns _ behind to c)
  members-turns (grammar.Members.more_members m others) = omega (arith, member-turns m, members-turns others)

  pub member-turns : {from : Input} {one : MemberDeclaration} {to : Input} → MemberDeclared from one to → turns to < turns from
  member-turns (grammar.MemberDeclared.members a d q n) = omega (arith, attributes-turns a, defining-turns d, member_names-turns n)
  member-turns (grammar.MemberDeclared.no_members {behind = behind} {to = to} a d q t m) =
      omega (arith, attributes-turns a, defining-turns d, mark-turns _ behind to m)

-- ---- what may stand first

record_here : {from : Input} {tree : RecordDefinition} {to : Input} → RecordDefined from tree to → word is_specifier_word from ≡ None
record_here (grammar.RecordDefined.record_of records.Struct {from = from} b a i o m) = no_word_at_single from _ b refl
record_here (grammar.RecordDefined.record_of records.Union {from = from} b a i o m) = no_word_at_single from _ b refl

-- no bracket and no brace begins a type
pub record EndsAttributes (from : Input) : Type 0 where
  pub bracket : mark marks.OpenBracket from ≡ None
  pub brace : mark marks.CloseBrace from ≡ None

at_word : (test : Keyword → Bool) {from : Input} {found : types.TakenWord} → word test from ≡ Some found → EndsAttributes from
at_word test {from} {found} w = record {
  bracket = no_mark_at_word marks.OpenBracket test from found w;
  brace = no_mark_at_word marks.CloseBrace test from found w;
}

at_type : {from : Input} {begin : TypeStart} {rest : Input} (known_begin : Unit {0}) → BeginsType from begin rest → is_type begin ≡ true → EndsAttributes from
at_type {from = from} _ b known = record {
  bracket = no_mark_at_type marks.OpenBracket from _ b known;
  brace = no_mark_at_type marks.CloseBrace from _ b known;
}

single_first : {from : Input} {type : TypeSpecifier} {to : Input} → SingleType from type to → EndsAttributes from
single_first (expressions.SingleType.void s) = at_type tt s refl
single_first (expressions.SingleType.bool s) = at_type tt s refl
single_first (expressions.SingleType.typedef s) = at_type tt s refl
single_first (expressions.SingleType.header s) = at_type tt s refl
single_first (expressions.SingleType.struct s a n) = at_type tt s refl
single_first (expressions.SingleType.union s a n) = at_type tt s refl
single_first (expressions.SingleType.enum s a n) = at_type tt s refl
single_first (expressions.SingleType.enumeration s a n o e) = at_type tt s refl
single_first (expressions.SingleType.untagged_enumeration s a o e) = at_type tt s refl

record_first : {from : Input} {tree : RecordDefinition} {to : Input} → RecordDefined from tree to → EndsAttributes from
record_first (grammar.RecordDefined.record_of records.Struct b a i o m) = at_type tt b refl
record_first (grammar.RecordDefined.record_of records.Union b a i o m) = at_type tt b refl

words_first : {test : Keyword → Bool} {from : Input} {words : List Keyword} {to : Input} → Words test from words to → EndsAttributes to → EndsAttributes from
words_first types.Words.none ends = ends
words_first (types.Words.more w others) ends = at_word _ w

some_words_first : {from : Input} {words : List Keyword} {to : Input} (type : IntegerType) → Words is_specifier_word from words to
    → integer_type words ≡ Some type → EndsAttributes from
some_words_first type types.Words.none e = absurd (none-some type e)
some_words_first type (types.Words.more w others) e = at_word _ w

pub specified_first : {from : Input} {words : List Keyword} {type : TypeSpecifier} {to : Input} → Specified from words type to → EndsAttributes from
specified_first (expressions.Specified.integer_words {type = type} w e) = some_words_first type w e
specified_first (expressions.Specified.single_type a s b) = words_first a (single_first s)

pub defining_first : {from : Input} {words : List Keyword} {type : TypeSpecifier} {to : Input} → Defining from words type to → EndsAttributes from
defining_first (grammar.Defining.specified s) = specified_first s
defining_first (grammar.Defining.defined a r b) = words_first a (record_first r)

-- no closing brace begins attributes, nor a member
pub attributes_first : {from : Input} {list : List Attribute} {to : Input} (p : Punctuator) → sameb punctuator.the_type p marks.OpenBracket ≡ false
    → Attributes from list to → mark p to ≡ None → mark p from ≡ None
attributes_first p differs attributes.Attributes.none none = none
attributes_first p differs (attributes.Attributes.more {from = from} {outer = outer} a b group others) none = other_mark _ p from outer a differs

member_first : {from : Input} {one : MemberDeclaration} {to : Input} → MemberDeclared from one to → mark marks.CloseBrace from ≡ None
member_first (grammar.MemberDeclared.members a d q n) = attributes_first marks.CloseBrace refl a (defining_first d).brace
member_first (grammar.MemberDeclared.no_members a d q t m) = attributes_first marks.CloseBrace refl a (defining_first d).brace

members_first : {from : Input} {list : List MemberDeclaration} {to : Input} → Members from list to → mark marks.CloseBrace from ≡ None
members_first (grammar.Members.last_member m c) = member_first m
members_first (grammar.Members.more_members m others) = member_first m

-- ---- what is related is read

module _ (limit : ℕ) (member_type : Reader (List Keyword × TypeSpecifier)) where
  defining_start : (from : Input) (begin : TypeStart) (rest : Input) → BeginsType from begin rest
      → declarations.defining_type (whole limit) member_type from ≡ declarations.defining_by (whole limit) member_type begin rest
  unfolding declarations.defining_type
  defining_start from begin rest b = rw b refl

  tag-read : (kind : RecordKind) {outer rest : Input} {list : List Attribute} (tag : Named) → Attributes outer list rest → identifier rest ≡ Some tag
      → mark marks.OpenBrace tag.rest ≡ None
      → declarations.record_or_definition (whole limit) member_type kind outer ≡ Some (specifiers.Record kind list tag.name, tag.rest)
  unfolding declarations.record_or_definition declarations.record_behind
  tag-read kind {outer} {rest} tag a i none = rw (attributes-read a (no_mark_at_identifier marks.OpenBracket rest tag i), i, none) refl

  -- a type that defines no struct or union
  plain-read : {from : Input} {type : TypeSpecifier} {to : Input} → SingleType from type to → specifier_depth type ≤ limit
      → mark marks.OpenBrace to ≡ None → declarations.defining_type (whole limit) member_type from ≡ Some (type, to)
  plain-read (expressions.SingleType.void {from = from} {to = to} s) within ends = defining_start from _ to s
  plain-read (expressions.SingleType.bool {from = from} {to = to} s) within ends = defining_start from _ to s
  plain-read (expressions.SingleType.typedef {from = from} {to = to} s) within ends = defining_start from _ to s
  plain-read (expressions.SingleType.header {from = from} {to = to} s) within ends = defining_start from _ to s
  plain-read (expressions.SingleType.struct {from = from} {outer = outer} {tag = tag} s a n) within ends =
      defining_start from _ outer s ∙ tag-read records.Struct tag a n ends
  plain-read (expressions.SingleType.union {from = from} {outer = outer} {tag = tag} s a n) within ends =
      defining_start from _ outer s ∙ tag-read records.Union tag a n ends
  plain-read (expressions.SingleType.enum {from = from} {outer = outer} s a n) within ends =
      defining_start from _ outer s ∙ (sym (read.single_start (whole limit) from _ outer s)
      ∙ single-read limit (expressions.SingleType.enum s a n) limit (omega (arith, within)) within ends)
  plain-read (expressions.SingleType.enumeration {from = from} {outer = outer} s a n o e) within ends =
      defining_start from _ outer s ∙ (sym (read.single_start (whole limit) from _ outer s)
      ∙ single-read limit (expressions.SingleType.enumeration s a n o e) limit (omega (arith, within)) within ends)
  plain-read (expressions.SingleType.untagged_enumeration {from = from} {outer = outer} s a o e) within ends =
      defining_start from _ outer s ∙ (sym (read.single_start (whole limit) from _ outer s)
      ∙ single-read limit (expressions.SingleType.untagged_enumeration s a o e) limit (omega (arith, within)) within ends)

  around : {from : Input} {before : List Keyword} {inner : Input} (type : TypeSpecifier) {rest : Input} {after : List Keyword} {to : Input}
      → Words is_modifier from before inner → word is_specifier_word inner ≡ None
      → declarations.defining_type (whole limit) member_type inner ≡ Some (type, rest) → Words is_modifier rest after to → EndsType to
      → declarations.defining_with (whole limit) member_type from ≡ Some ((before ++ after, type), to)
  unfolding declarations.defining_with declarations.specified_with
  around type {to = to} a none e b ends =
      rw (
        words-read (modifiers-words a) none,
        modifiers-no_integer a,
        e,
        words-read b (no-other is_modifier is_specifier_word to modifier-specifier ends.words),
      ) refl

  specified-defining : {from : Input} {words : List Keyword} {type : TypeSpecifier} {to : Input} → Specified from words type to
      → specifier_depth type ≤ limit → EndsType to → declarations.defining_with (whole limit) member_type from ≡ Some ((words, type), to)
  unfolding declarations.defining_with declarations.specified_with
  specified-defining (expressions.Specified.integer_words {words = words} {type = type} w e) within ends =
      rw (words-read w ends.words, some_named words type e, e) refl
  specified-defining (expressions.Specified.single_type {specifier = type} a s b) within ends =
      around type a (single_here s).1 (plain-read s within (no_brace b ends.brace)) b ends

  record_start-read : (kind : RecordKind) (outer : Input) → declarations.defining_by (whole limit) member_type (record_start kind) outer
      ≡ declarations.record_or_definition (whole limit) member_type kind outer
  record_start-read records.Struct outer = refl
  record_start-read records.Union outer = refl

  definition-read : (kind : RecordKind) {outer : Input} {list : List Attribute} {behind : Input} {tag : Named} {inner : Input}
      {members : List MemberDeclaration} {to : Input} → Attributes outer list behind → identifier behind ≡ Some tag
      → mark marks.OpenBrace tag.rest ≡ Some inner
      → declarations.members_from (whole limit) member_type (turns inner) inner ≡ Some (members, to)
      → declarations.record_or_definition (whole limit) member_type kind outer
      ≡ Some (specifiers.RecordDefinition (definition kind list tag.name members), to)
  unfolding declarations.record_or_definition declarations.record_behind
  definition-read kind {behind = behind} {tag = tag} a i o m =
      rw (attributes-read a (no_mark_at_identifier marks.OpenBracket behind tag i), i, o, m) refl

  last_member-is : (left : ℕ) (from : Input) (one : MemberDeclaration) (rest to : Input)
      → declarations.member (whole limit) member_type from ≡ Some (one, rest) → mark marks.CloseBrace rest ≡ Some to
      → declarations.members_from (whole limit) member_type (suc left) from ≡ Some (one ∷ [], to)
  unfolding declarations.members_from
  last_member-is left from one rest to e m = rw (e, m) refl

  more_members-are : (left : ℕ) (from : Input) (one : MemberDeclaration) (rest : Input) (others : List MemberDeclaration) (to : Input)
      → declarations.member (whole limit) member_type from ≡ Some (one, rest) → mark marks.CloseBrace rest ≡ None
      → declarations.members_from (whole limit) member_type left rest ≡ Some (others, to)
      → declarations.members_from (whole limit) member_type (suc left) from ≡ Some (one ∷ others, to)
  unfolding declarations.members_from
  more_members-are left from one rest others to e none o = rw (e, none, o) refl

  members-are : {from : Input} {list : List Attribute} {inner : Input} {words : List Keyword} {type : TypeSpecifier} {behind : Input}
      {names : List Declarator} {to : Input} → Attributes from list inner → mark marks.OpenBracket inner ≡ None
      → member_type inner ≡ Some ((words, type), behind) → list_all is_qualifier words ≡ true → MemberNames behind names to
      → deepest (map (declared_depth (specifier_depth type)) names) ≤ limit
      → declarations.member (whole limit) member_type from ≡ Some (member_declaration list type names, to)
  unfolding declarations.member declarations.members_behind
  members-are {type = type} {behind = behind} a none e q n within =
      rw (
        attributes-read a none,
        e,
        q,
        member_names-no_semicolon n,
        member_names-read limit (specifier_depth type) n (turns behind) (omega arith) within,
      ) refl

  no_members-are : {from : Input} {list : List Attribute} {inner : Input} {words : List Keyword} {type : TypeSpecifier} {behind to : Input}
      → Attributes from list inner → mark marks.OpenBracket inner ≡ None
      → member_type inner ≡ Some ((words, type), behind) → list_all is_qualifier words ≡ true → declares_tag type ≡ true
      → mark marks.Semicolon behind ≡ Some to
      → declarations.member (whole limit) member_type from ≡ Some (member_declaration list type [], to)
  unfolding declarations.member declarations.members_behind
  no_members-are a none e q t m = rw (attributes-read a none, e, q, m, t) refl

module _ (limit : ℕ) where
  next_room : (room : ℕ) (from : Input) → declarations.defining (whole limit) (suc room) from
      ≡ declarations.defining_with (whole limit) (declarations.defining (whole limit) room) from
  unfolding declarations.defining
  next_room room from = refl

  mutual
    pub defining-read : {from : Input} {words : List Keyword} {type : TypeSpecifier} {to : Input} → Defining from words type to → (room : ℕ)
        → specifier_depth type ≤ suc room → specifier_depth type ≤ limit → EndsType to
        → declarations.defining (whole limit) (suc room) from ≡ Some ((words, type), to)
    defining-read (grammar.Defining.specified {from = from} s) room deep within ends =
        next_room room from ∙ specified-defining limit (declarations.defining (whole limit) room) s within ends
    defining-read (grammar.Defining.defined {from = from} {tree = tree} a r b) room deep within ends =
        next_room room from ∙ around limit (declarations.defining (whole limit) room) (specifiers.RecordDefinition tree) a (record_here r)
        (record-read r room deep within) b ends

    record-read : {from : Input} {tree : RecordDefinition} {to : Input} → RecordDefined from tree to → (room : ℕ)
        → specifier_depth (specifiers.RecordDefinition tree) ≤ suc room → specifier_depth (specifiers.RecordDefinition tree) ≤ limit
        → declarations.defining_type (whole limit) (declarations.defining (whole limit) room) from ≡ Some (specifiers.RecordDefinition tree, to)
    record-read (grammar.RecordDefined.record_of kind {from = from} {outer = outer} {attributes = list} {tag = tag} {inner = inner} {members = members} b a i o m) room deep within =
        let d = depth-definition kind list tag.name members in
        defining_start limit (declarations.defining (whole limit) room) from _ outer b
        ∙ (record_start-read limit (declarations.defining (whole limit) room) kind outer
        ∙ definition-read limit (declarations.defining (whole limit) room) kind a i o
        (members-read m room (turns inner) (omega arith) (omega (arith, d, deep)) (omega (arith, d, within))))

    members-read : {from : Input} {list : List MemberDeclaration} {to : Input} → Members from list to → (room left : ℕ) → turns from ≤ left
        → deepest (map member_depth list) ≤ room → deepest (map member_depth list) ≤ limit
        → declarations.members_from (whole limit) (declarations.defining (whole limit) room) left from ≡ Some (list, to)
    members-read (grammar.Members.last_member m c) room zero h deep within = absurd (omega (arith, h, member-turns m))
    members-read (grammar.Members.last_member {from = from} {one = one} {behind = rest} {to = to} m c) room (suc left) h deep within =
        last_member-is limit (declarations.defining (whole limit) room) left from one rest to (member-read m room (omega (arith, deep)) (omega (arith, within))) c
    members-read (grammar.Members.more_members m others) room zero h deep within = absurd (omega (arith, h, member-turns m))
    members-read (grammar.Members.more_members {from = from} {one = one} {behind = rest} {others = list} {to = to} m others) room (suc left) h deep within =
        more_members-are limit (declarations.defining (whole limit) room) left from one rest list to
        (member-read m room (omega (arith, deep)) (omega (arith, within))) (members_first others)
        (members-read others room left (omega (arith, h, member-turns m)) (omega (arith, deep)) (omega (arith, within)))

    member-read : {from : Input} {one : MemberDeclaration} {to : Input} → MemberDeclared from one to → (room : ℕ)
        → member_depth one ≤ room → member_depth one ≤ limit
        → declarations.member (whole limit) (declarations.defining (whole limit) room) from ≡ Some (one, to)
    member-read (grammar.MemberDeclared.members {attributes = list} {specifier = type} {declarators = names} a d q n) zero deep within =
        absurd (omega (arith, deep, depth-folded list type names, defining-deep d))
    member-read (grammar.MemberDeclared.members {attributes = list} {specifier = type} {declarators = names} a d q n) (suc room) deep within =
        let e = member-parts list type n in
        members-are limit (declarations.defining (whole limit) (suc room)) a (defining_first d).bracket
        (defining-read d room (omega (arith, e, deep)) (omega (arith, e, within)) (member_names-end n)) (is_true q) n (omega (arith, e, within))
    member-read (grammar.MemberDeclared.no_members {attributes = list} {specifier = type} a d q t m) zero deep within =
        absurd (omega (arith, deep, depth-folded list type [], defining-deep d))
    member-read (grammar.MemberDeclared.no_members {attributes = list} {specifier = type} {behind = behind} {to = to} a d q t m) (suc room) deep within =
        let e = depth-folded list type [] in
        no_members-are limit (declarations.defining (whole limit) (suc room)) a (defining_first d).bracket
        (defining-read d room (omega (arith, e, deep)) (omega (arith, e, within)) (ends_at_mark marks.Semicolon behind (next_is _ behind to m) refl))
        (is_true q) (is_true t) m
