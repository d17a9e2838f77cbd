-- Reading only adds names to those in scope: expressions and types.
use Rattle.std.proofs.Common.{◌≡◌, ℕ, ◌+◌, ◌-◌, Bool, List, [], ◌∷◌, ◌++◌, length, drop, Some, refl, sym, ap, subst, ◌∙◌, append_assoc, length-append, arith}
use Rattle.std.proofs.Math.Seq.{drop-append_seam}
use Rattle.std.proofs.lemmas.Option.{none-some, same_Some}
use Rattle.c_lexer.specs.declared.token.Token.{Token}
use Rattle.c_lexer.specs.declared.keyword.Keyword.{Keyword}
use Rattle.c_lexer.specs.declared.punctuator.Punctuator.{Punctuator}
use Rattle.c_syntax.specs.declared.attribute.Attribute.{Attribute}
use Rattle.c_syntax.specs.declared.attribute.AttributeText.{AttributeText}
use Rattle.c_syntax.specs.declared.specifier.TypeSpecifier.{TypeSpecifier}
use Rattle.c_syntax.specs.declared.specifier.Enumerator.{Enumerator}
use Rattle.c_syntax.specs.declared.expr.Expr.{Expr}
use Rattle.c_syntax.specs.declared.expr.TypeName.{TypeName}
use Rattle.c_grammar.specs.declared.names.NameKind.{NameKind}
use Rattle.c_grammar.specs.declared.names.NameKind.TheVariants as names
use Rattle.c_grammar.specs.declared.names.NameEntry.{NameEntry}
use Rattle.c_grammar.specs.Input.{Input, Taken, Named, first_of_tokens, next, mark, is_identifier, identifier, declares}
use Rattle.c_grammar.specs.Attributes as attribute
use Rattle.c_grammar.specs.Attributes.{ReadText, string, Texts, Clause, Single, Group, Attributes}
use Rattle.c_grammar.specs.Operators.{Started, TakenInfix, start, behind}
use Rattle.c_grammar.specs.Specifiers as types
use Rattle.c_grammar.specs.Specifiers.{TypeStarted, TakenWord, type_start, word, Words, Pointers}
use Rattle.c_grammar.specs.Expressions as grammar
use Rattle.c_grammar.specs.Expressions.{Expression, Arguments, ArgumentList, Lengths, TypeNamed, Specified, SingleType, Enumerators, Constant}
use Rattle.c_grammar.specs.Declarations.{under}
use Rattle.c_grammar.proofs.Steps.{into, into_if}
use Rattle.c_grammar.proofs.Terminals.{marked, begins, begins_as_type, goes_on_by, text_by-rest, word_by-rest}

-- the names that were in scope are so still, behind those that came since
pub record Extends (from to : Input) : Type 0 where
  pub new : List NameEntry
  pub names : to.names ≡ new ++ from.names

pub nothing : (from : Input) → Extends from from
nothing from = record { new = []; names = refl }

pub through : {from between to : Input} → Extends from between → Extends between to → Extends from to
through {from} first second = record {
  new = second.new ++ first.new;
  names = second.names ∙ ap (λ list. second.new ++ list) first.names ∙ sym (append_assoc second.new first.new from.names);
}

pub declares-kept : (from : Input) (name : List ℕ) (kind : NameKind) → Extends from (declares from name kind)
declares-kept from name kind = record { new = record { name = name; kind = kind } ∷ []; names = refl }

pub under-kept : (from rest : Input) → Extends from (under from rest)
under-kept from rest = record { new = []; names = refl }

-- what a block's end leaves of the names in scope: those that were there before it
pub left : {from rest : Input} → Extends from rest
    → record { tokens = rest.tokens; names = drop (length rest.names - length from.names) rest.names } ≡ under from rest
left {from} {rest} extends =
    let long : length rest.names ≡ length extends.new + length from.names =
    ap length extends.names ∙ length-append extends.new from.names in
    let count : length rest.names - length from.names ≡ length extends.new = omega (arith, long) in
    let kept : drop (length rest.names - length from.names) rest.names ≡ from.names =
    rw (count, extends.names) (drop-append_seam extends.new from.names) in
    ap (λ (list : List NameEntry). under (record { tokens = rest.tokens; names = list }) rest) kept

-- ---- tokens

first-kept : (tokens : List Token) (names : List NameEntry) (taken : Taken) → first_of_tokens tokens names ≡ Some taken
    → taken.rest.names ≡ names
first-kept [] names taken e = absurd (none-some taken e)
first-kept (token ∷ tokens) names taken e = ap (λ (t : Taken). t.rest.names) (sym (same_Some _ taken e))

pub next-kept : (from : Input) (taken : Taken) → next from ≡ Some taken → Extends from taken.rest
next-kept from taken e = record { new = []; names = first-kept from.tokens from.names taken e }

pub mark-kept : (p : Punctuator) (from to : Input) → mark p from ≡ Some to → Extends from to
mark-kept p from to e =
    let m = marked p from to e in subst (λ (i : Input). Extends from i) m.rest (next-kept from m.taken m.next)

pub identifier-kept : (from : Input) (named : Named) → identifier from ≡ Some named → Extends from named.rest
unfolding identifier
identifier-kept from named e = into _ (next from) named e λ taken is found.
    into_if (is_identifier taken.token.kind) _ _ named found
    (λ _ some. subst (λ (n : Named). Extends from n.rest) (same_Some _ named some) (next-kept from taken is))
    (λ _ none. absurd (none-some named none))

pub string-kept : (from : Input) (read : ReadText) → string from ≡ Some read → Extends from read.rest
unfolding string
string-kept from read e = into _ (next from) read e λ taken is found.
    subst (λ (i : Input). Extends from i) (text_by-rest taken.token.kind taken.token taken.rest read found)
    (next-kept from taken is)

pub word-kept : (test : Keyword → Bool) (from : Input) (taken : TakenWord) → word test from ≡ Some taken
    → Extends from taken.rest
unfolding word
word-kept test from read e = into _ (next from) read e λ taken is found.
    subst (λ (i : Input). Extends from i) (word_by-rest test taken.token.kind taken.rest read found)
    (next-kept from taken is)

pub start-kept : (from : Input) (started : Started) → start from ≡ Some started → Extends from started.rest
start-kept from started e =
    let b = begins from started e in subst (λ (i : Input). Extends from i) b.rest (next-kept from b.taken b.next)

pub type_start-kept : (from : Input) (started : TypeStarted) → type_start from ≡ Some started → Extends from started.rest
type_start-kept from started e =
    let b = begins_as_type from started e in subst (λ (i : Input). Extends from i) b.rest (next-kept from b.taken b.next)

pub behind-kept : (from : Input) (found : TakenInfix) → behind from ≡ Some found → Extends from found.rest
behind-kept from found e =
    let g = goes_on_by from found e in subst (λ (i : Input). Extends from i) g.rest (next-kept from g.taken g.next)

-- ---- attributes and words

pub texts-kept : {from : Input} {texts : List AttributeText} {to : Input} → Texts from texts to → Extends from to
texts-kept (attribute.Texts.last {from = from} {read = read} {to = to} s m) =
    through (string-kept from read s) (mark-kept _ read.rest to m)
texts-kept (attribute.Texts.more {from = from} {read = read} {behind = behind} s m others) =
    through (string-kept from read s) (through (mark-kept _ read.rest behind m) (texts-kept others))

pub clause-kept : {from : Input} {texts : List AttributeText} {to : Input} → Clause from texts to → Extends from to
clause-kept attribute.Clause.none = nothing _
clause-kept (attribute.Clause.empty {from = from} {behind = behind} {to = to} o c) =
    through (mark-kept _ from behind o) (mark-kept _ behind to c)
clause-kept (attribute.Clause.some {from = from} {behind = behind} o texts) =
    through (mark-kept _ from behind o) (texts-kept texts)

pub attribute-kept : {from : Input} {one : List Attribute} {to : Input} → Single from one to → Extends from to
attribute-kept (attribute.Single.unprefixed {from = from} {name = name} n c) =
    through (identifier-kept from name n) (clause-kept c)
attribute-kept (attribute.Single.prefixed {from = from} {prefix = prefix} {behind = behind} {name = name} p m n c) =
    through (identifier-kept from prefix p) (through (mark-kept _ prefix.rest behind m) (through (identifier-kept behind name n) (clause-kept c)))

pub group-kept : {from : Input} {group : List Attribute} {to : Input} → Group from group to → Extends from to
group-kept (attribute.Group.last {behind = behind} {inner = inner} {to = to} s a b) =
    through (attribute-kept s) (through (mark-kept _ behind inner a) (mark-kept _ inner to b))
group-kept (attribute.Group.more {behind = behind} {inner = inner} s c others) =
    through (attribute-kept s) (through (mark-kept _ behind inner c) (group-kept others))

pub attributes-kept : {from : Input} {list : List Attribute} {to : Input} → Attributes from list to → Extends from to
attributes-kept attribute.Attributes.none = nothing _
attributes-kept (attribute.Attributes.more {from = from} {outer = outer} {inner = inner} a b group others) =
    through (mark-kept _ from outer a) (through (mark-kept _ outer inner b) (through (group-kept group) (attributes-kept others)))

pub words-kept : {test : Keyword → Bool} {from : Input} {words : List Keyword} {to : Input} → Words test from words to → Extends from to
words-kept types.Words.none = nothing _
words-kept {test} (types.Words.more {from = from} {taken = taken} w others) =
    through (word-kept test from taken w) (words-kept others)

pub pointers-kept : {from : Input} {count : ℕ} {to : Input} → Pointers from count to → Extends from to
pointers-kept types.Pointers.none = nothing _
pointers-kept (types.Pointers.more {from = from} {behind = behind} m w others) =
    through (mark-kept _ from behind m) (through (words-kept w) (pointers-kept others))

-- ---- expressions and types

mutual
  pub expression-kept : {level : ℕ} {from : Input} {tree : Expr} {to : Input} → Expression level from tree to → Extends from to
  expression-kept (grammar.Expression.looser e) = expression-kept e
  expression-kept (grammar.Expression.integer {from = from} s) = start-kept from _ s
  expression-kept (grammar.Expression.character {from = from} s) = start-kept from _ s
  expression-kept (grammar.Expression.null_pointer {from = from} s) = start-kept from _ s
  expression-kept (grammar.Expression.name {from = from} s) = start-kept from _ s
  expression-kept (grammar.Expression.parenthesized {from = from} {behind = behind} {to = to} s e m) =
      through (start-kept from _ s) (through (expression-kept e) (mark-kept _ behind to m))
  expression-kept (grammar.Expression.call {from = from} {behind = behind} {inner = inner} s m a) =
      through (start-kept from _ s) (through (mark-kept _ behind inner m) (arguments-kept a))
  expression-kept (grammar.Expression.atomic {from = from} {behind = behind} {inner = inner} s m a) =
      through (start-kept from _ s) (through (mark-kept _ behind inner m) (arguments-kept a))
  expression-kept (grammar.Expression.subscript {behind = behind} {close = close} {to = to} l c e m) =
      through (expression-kept l) (through (behind-kept behind _ c) (through (expression-kept e) (mark-kept _ close to m)))
  expression-kept (grammar.Expression.member {behind = behind} {inner = inner} {named = named} l c n) =
      through (expression-kept l) (through (behind-kept behind _ c) (identifier-kept inner named n))
  expression-kept (grammar.Expression.pointer_member {behind = behind} {inner = inner} {named = named} l c n) =
      through (expression-kept l) (through (behind-kept behind _ c) (identifier-kept inner named n))
  expression-kept (grammar.Expression.postfix {behind = behind} l c) =
      through (expression-kept l) (behind-kept behind _ c)
  expression-kept (grammar.Expression.prefix {from = from} s e) = through (start-kept from _ s) (expression-kept e)
  expression-kept (grammar.Expression.unary {from = from} s e) = through (start-kept from _ s) (expression-kept e)
  expression-kept (grammar.Expression.size_of_expr {from = from} s e) = through (start-kept from _ s) (expression-kept e)
  expression-kept (grammar.Expression.size_of_type {from = from} {outer = outer} {inner = inner} {behind = behind} {to = to} s o t m) =
      through (start-kept from _ s) (through (mark-kept _ outer inner o) (through (type-kept t) (mark-kept _ behind to m)))
  expression-kept (grammar.Expression.align_of {from = from} {outer = outer} {inner = inner} {behind = behind} {to = to} s o t m) =
      through (start-kept from _ s) (through (mark-kept _ outer inner o) (through (type-kept t) (mark-kept _ behind to m)))
  expression-kept (grammar.Expression.cast {from = from} {behind = behind} {rest = rest} s t m e) =
      through (start-kept from _ s) (through (type-kept t) (through (mark-kept _ behind rest m) (expression-kept e)))
  expression-kept (grammar.Expression.binary {behind = behind} l c r) =
      through (expression-kept l) (through (behind-kept behind _ c) (expression-kept r))
  expression-kept (grammar.Expression.logical {behind = behind} l c r) =
      through (expression-kept l) (through (behind-kept behind _ c) (expression-kept r))
  expression-kept (grammar.Expression.conditional {behind = behind} {colon = colon} {rest = rest} t c a m b) =
      through (expression-kept t) (through (behind-kept behind _ c) (through (expression-kept a) (through (mark-kept _ colon rest m) (expression-kept b))))
  expression-kept (grammar.Expression.assignment {behind = behind} l c r) =
      through (expression-kept l) (through (behind-kept behind _ c) (expression-kept r))
  expression-kept (grammar.Expression.comma {behind = behind} l c r) =
      through (expression-kept l) (through (behind-kept behind _ c) (expression-kept r))

  pub arguments-kept : {from : Input} {arguments : List Expr} {to : Input} → Arguments from arguments to → Extends from to
  arguments-kept (grammar.Arguments.no_argument {from = from} {to = to} m) = mark-kept _ from to m
  arguments-kept (grammar.Arguments.some_arguments l) = list-kept l

  pub list-kept : {from : Input} {arguments : List Expr} {to : Input} → ArgumentList from arguments to → Extends from to
  list-kept (grammar.ArgumentList.last_argument {behind = behind} {to = to} e m) =
      through (expression-kept e) (mark-kept _ behind to m)
  list-kept (grammar.ArgumentList.more_arguments {behind = behind} {inner = inner} e m others) =
      through (expression-kept e) (through (mark-kept _ behind inner m) (list-kept others))

  pub lengths-kept : {from : Input} {lengths : List Expr} {to : Input} → Lengths from lengths to → Extends from to
  lengths-kept grammar.Lengths.no_length = nothing _
  lengths-kept (grammar.Lengths.more_lengths {from = from} {inner = inner} {close = close} {behind = behind} o e m others) =
      through (mark-kept _ from inner o) (through (expression-kept e) (through (mark-kept _ close behind m) (lengths-kept others)))

  pub type-kept : {from : Input} {name : TypeName} {to : Input} → TypeNamed from name to → Extends from to
  type-kept (grammar.TypeNamed.type_named s q p l) = through (specified-kept s) (through (pointers-kept p) (lengths-kept l))

  pub specified-kept : {from : Input} {words : List Keyword} {type : TypeSpecifier} {to : Input} → Specified from words type to → Extends from to
  specified-kept (grammar.Specified.integer_words w e) = words-kept w
  specified-kept (grammar.Specified.single_type a s b) = through (words-kept a) (through (single-kept s) (words-kept b))

  pub single-kept : {from : Input} {type : TypeSpecifier} {to : Input} → SingleType from type to → Extends from to
  single-kept (grammar.SingleType.void {from = from} s) = type_start-kept from _ s
  single-kept (grammar.SingleType.bool {from = from} s) = type_start-kept from _ s
  single-kept (grammar.SingleType.typedef {from = from} s) = type_start-kept from _ s
  single-kept (grammar.SingleType.header {from = from} s) = type_start-kept from _ s
  single-kept (grammar.SingleType.struct {from = from} {behind = behind} {tag = tag} s a n) =
      through (type_start-kept from _ s) (through (attributes-kept a) (identifier-kept behind tag n))
  single-kept (grammar.SingleType.union {from = from} {behind = behind} {tag = tag} s a n) =
      through (type_start-kept from _ s) (through (attributes-kept a) (identifier-kept behind tag n))
  single-kept (grammar.SingleType.enum {from = from} {behind = behind} {tag = tag} s a n) =
      through (type_start-kept from _ s) (through (attributes-kept a) (identifier-kept behind tag n))
  single-kept (grammar.SingleType.enumeration {from = from} {behind = behind} {tag = tag} {inner = inner} s a n o es) =
      through (type_start-kept from _ s) (through (attributes-kept a) (through (identifier-kept behind tag n) (through (mark-kept _ tag.rest inner o) (constants-kept es))))
  single-kept (grammar.SingleType.untagged_enumeration {from = from} {behind = behind} {inner = inner} s a o es) =
      through (type_start-kept from _ s) (through (attributes-kept a) (through (mark-kept _ behind inner o) (constants-kept es)))

  pub constants-kept : {from : Input} {list : List Enumerator} {to : Input} → Enumerators from list to → Extends from to
  constants-kept (grammar.Enumerators.last_constant {behind = behind} {to = to} c m) =
      through (constant-kept c) (mark-kept _ behind to m)
  constants-kept (grammar.Enumerators.trailing_comma {behind = behind} {inner = inner} {to = to} c m n) =
      through (constant-kept c) (through (mark-kept _ behind inner m) (mark-kept _ inner to n))
  constants-kept (grammar.Enumerators.more_constants {behind = behind} {inner = inner} c m others) =
      through (constant-kept c) (through (mark-kept _ behind inner m) (constants-kept others))

  pub constant-kept : {from : Input} {one : Enumerator} {to : Input} → Constant from one to → Extends from to
  constant-kept (grammar.Constant.implicit {from = from} {named = named} n) =
      through (identifier-kept from named n) (declares-kept named.rest named.name.text names.Ordinary)
  constant-kept (grammar.Constant.valued {from = from} {named = named} {inner = inner} {behind = behind} n m e) =
      through (identifier-kept from named n) (through (mark-kept _ named.rest inner m)
      (through (expression-kept e) (declares-kept behind named.name.text names.Ordinary)))
