-- Expressions and types that the grammar relates are what is read.
use denote.Enum.Bare.{sameb}
use Rattle.std.proofs.Common.{◌≡◌, ℕ, zero, suc, ◌≤◌, ◌<◌, ◌⊎◌, true, false, List, [], ◌∷◌, ◌++◌, Option, Some, None, sym, refl, ap, ◌∙◌, arith}
use mathlib.Core.Logic.{inl, inr}
use Rattle.std.specs.List.{list_all, list_any, filter}
use Rattle.std.proofs.lemmas.Bool.{false≢true}
use Rattle.std.proofs.lemmas.Option.{none-some, same_Some}
use Rattle.rc_text.specs.declared.place.Place.{Place}
use Rattle.c_lexer.specs.declared.atomic_operation.AtomicOperation.{AtomicOperation}
use Rattle.c_lexer.specs.declared.keyword.Keyword.{Keyword}
use Rattle.c_syntax.specs.declared.name.Name.{Name}
use Rattle.c_lexer.specs.declared.punctuator.Punctuator.{Punctuator}
use Rattle.c_lexer.specs.declared.punctuator.Punctuator.TheVariants as marks
use Rattle.c_lexer.specs.contracts.punctuator.Punctuator as punctuator
use Rattle.c_syntax.specs.declared.operator.BinaryOperator.{BinaryOperator}
use Rattle.c_syntax.specs.declared.operator.BinaryOperator.TheVariants as binaries
use Rattle.c_syntax.specs.declared.operator.LogicalOperator.{LogicalOperator}
use Rattle.c_syntax.specs.declared.operator.LogicalOperator.TheVariants as logicals
use Rattle.c_syntax.specs.declared.specifier.TypeSpecifier.{TypeSpecifier}
use Rattle.c_syntax.specs.declared.specifier.TypeSpecifier.TheVariants as specifiers
use Rattle.c_syntax.specs.declared.specifier.IntegerType.{IntegerType}
use Rattle.c_syntax.specs.declared.specifier.RecordKind.{RecordKind}
use Rattle.c_syntax.specs.declared.specifier.EnumDefinition.{roll-EnumDefinition}
use Rattle.c_syntax.specs.declared.specifier.Enumerator.{Enumerator, roll-Enumerator}
use Rattle.c_syntax.specs.declared.attribute.Attribute.{Attribute}
use Rattle.c_grammar.specs.declared.names.NameKind.TheVariants as names
use Rattle.c_syntax.specs.declared.expr.Expr.{Expr}
use Rattle.c_syntax.specs.declared.expr.ExprKind.{ExprKind}
use Rattle.c_syntax.specs.declared.expr.ExprKind.TheVariants as kinds
use Rattle.c_syntax.specs.declared.expr.TypeName.{TypeName}
use Rattle.c_syntax.specs.Depth.{expression_depth, specifier_depth}
use Rattle.c_grammar.specs.Input.{Input, Named, mark, identifier, declares}
use Rattle.c_grammar.specs.Operators as operators
use Rattle.c_grammar.specs.Operators.{Start, Started, start, TakenInfix, behind, binary_level, logical_level, level_of, left_level}
use Rattle.c_grammar.specs.Specifiers.{word, is_specifier_word, is_integer_word, is_modifier, is_qualifier, integer_type, TypeStart, Words}
use Rattle.c_grammar.specs.Expressions as grammar
use Rattle.c_grammar.specs.Expressions.{node, Expression, Arguments, ArgumentList, Lengths, TypeNamed, Specified, SingleType, Enumerators, Constant}
use Rattle.c_grammar.specs.Reading as reading
use Rattle.c_grammar.specs.Reading.{turns, Reader, Nested, Begun, nested, made, begun, climb, expression_with, grown, goes_on, begins_type, begins_cast}
use Rattle.c_syntax.specs.declared.specifier.RecordKind.TheVariants as records
use Rattle.c_grammar.proofs.Depths.{depth-Integer-type, depth-Void, depth-Bool, depth-Typedef, depth-Header, depth-Record, depth-Enum, depth-Enumeration}
use Rattle.c_grammar.proofs.Steps.{is_le, is_not_le}
use Rattle.c_grammar.proofs.Terminals.{NextIs, no_mark_at, nothing_behind_at, behind_at, no_open_behind, other_mark, behind-turns, is_open, open_at_start, no_open_at_start, no_identifier_at_mark}
use Rattle.c_grammar.proofs.TypesRead.{words-read, word-passes, word-other, modifier-specifier, modifiers-words, modifiers-no_integer, some_named, is_start, no_type_at_start, no_mark_at_start, type_at_word, type_at, no_word_at_single}

-- ---- what may stand behind an expression

-- No operator behind it belongs to an expression of the category that goes on with it.
pub record Follows (level : ℕ) (from : Input) : Type 0 where
  pub opens : mark marks.OpenParenthesis from ≡ None
  pub operator : (found : TakenInfix) → behind from ≡ Some found
      → (level_of found.operator < level) ⊎ (left_level found.operator ≤ level)

-- each operator behind it belongs to looser categories
pub record Ends (level : ℕ) (from : Input) : Type 0 where
  pub opens : mark marks.OpenParenthesis from ≡ None
  pub operator : (found : TakenInfix) → behind from ≡ Some found → level_of found.operator < level

pub ends-follows : (level : ℕ) (from : Input) → Ends level from → Follows level from
ends-follows level from e = record { opens = e.opens; operator = λ found is. inl (e.operator found is) }

pub follows-tighter : (level more : ℕ) (from : Input) → level ≤ more → Follows level from → Follows more from
follows-tighter level more from h f = record { opens = f.opens; operator = λ found is. wider (f.operator found is) }
  where
    wider : {a b : ℕ} → (a < level) ⊎ (b ≤ level) → (a < more) ⊎ (b ≤ more)
    wider (inl less) = inl (omega arith)
    wider (inr less) = inr (omega arith)

-- behind a punctuator that goes on with nothing
pub ends_at : (level : ℕ) (p : Punctuator) (from : Input) → NextIs p from.tokens
    → sameb punctuator.the_type marks.OpenParenthesis p ≡ false → operators.infix_mark p ≡ None → Ends level from
ends_at level p from n opens none = record {
  opens = no_mark_at p marks.OpenParenthesis from n opens;
  operator = λ found is. absurd (none-some found (sym (nothing_behind_at p from n none) ∙ is));
}

-- behind a comma
pub ends_at_comma : (level : ℕ) (from : Input) → NextIs marks.Comma from.tokens → 0 < level → Ends level from
ends_at_comma level from n h = record {
  opens = no_mark_at marks.Comma marks.OpenParenthesis from n refl;
  operator = λ found is. rw (behind_at marks.Comma operators.Comma from n refl found is) h;
}

-- behind an operator, what stands before it
pub follows_before : (from : Input) (found : TakenInfix) → behind from ≡ Some found → Follows (left_level found.operator) from
follows_before from found is = record {
  opens = no_open_behind from found is;
  operator = λ other known. inr (rw (ap (λ (t : TakenInfix). left_level t.operator) (same_Some other found (sym known ∙ is))) (omega arith));
}

-- ---- the table of operators

pub binary-levels : (operator : BinaryOperator) → (5 ≤ binary_level operator) × (binary_level operator ≤ 12)
binary-levels binaries.Multiply = omega arith
binary-levels binaries.Divide = omega arith
binary-levels binaries.Remainder = omega arith
binary-levels binaries.Add = omega arith
binary-levels binaries.Subtract = omega arith
binary-levels binaries.LeftShift = omega arith
binary-levels binaries.RightShift = omega arith
binary-levels binaries.Less = omega arith
binary-levels binaries.Greater = omega arith
binary-levels binaries.LessOrEqual = omega arith
binary-levels binaries.GreaterOrEqual = omega arith
binary-levels binaries.Equal = omega arith
binary-levels binaries.NotEqual = omega arith
binary-levels binaries.And = omega arith
binary-levels binaries.Xor = omega arith
binary-levels binaries.Or = omega arith

pub logical-levels : (operator : LogicalOperator) → (3 ≤ logical_level operator) × (logical_level operator ≤ 4)
logical-levels logicals.And = omega arith
logical-levels logicals.Or = omega arith

-- behind which categories no operator follows that belongs to the same
abbrev pub Settles : ℕ → ℕ → Type 0
Settles level bound = (operator : operators.Infix) → (level_of operator < level) ⊎ (left_level operator ≤ level) → level_of operator < bound

pub settles_tighter : (level : ℕ) → Settles level (suc level)
settles_tighter level operators.Subscript (inl h) = omega arith
settles_tighter level operators.Subscript (inr h) = omega arith
settles_tighter level operators.Member (inl h) = omega arith
settles_tighter level operators.Member (inr h) = omega arith
settles_tighter level operators.PointerMember (inl h) = omega arith
settles_tighter level operators.PointerMember (inr h) = omega arith
settles_tighter level (operators.Step o) (inl h) = omega arith
settles_tighter level (operators.Step o) (inr h) = omega arith
settles_tighter level (operators.Binary o) (inl h) = omega arith
settles_tighter level (operators.Binary o) (inr h) = omega arith
settles_tighter level (operators.Logical o) (inl h) = omega arith
settles_tighter level (operators.Logical o) (inr h) = omega arith
settles_tighter level operators.Question (inl h) = omega arith
settles_tighter level operators.Question (inr h) = omega arith
settles_tighter level (operators.Assign o) (inl h) = omega arith
settles_tighter level (operators.Assign o) (inr h) = omega arith
settles_tighter level operators.Comma (inl h) = omega arith
settles_tighter level operators.Comma (inr h) = omega arith

pub settles_1 : Settles 1 1
settles_1 operators.Subscript h = elim h [ inl a ↦ absurd (omega (arith, a)) | inr a ↦ absurd (omega (arith, a)) ]
settles_1 operators.Member h = elim h [ inl a ↦ absurd (omega (arith, a)) | inr a ↦ absurd (omega (arith, a)) ]
settles_1 operators.PointerMember h = elim h [ inl a ↦ absurd (omega (arith, a)) | inr a ↦ absurd (omega (arith, a)) ]
settles_1 (operators.Step o) h = elim h [ inl a ↦ absurd (omega (arith, a)) | inr a ↦ absurd (omega (arith, a)) ]
settles_1 (operators.Binary o) h = elim h [ inl a ↦ omega (arith, a) | inr a ↦ absurd (omega (arith, a, binary-levels o)) ]
settles_1 (operators.Logical o) h = elim h [ inl a ↦ omega (arith, a) | inr a ↦ absurd (omega (arith, a, logical-levels o)) ]
settles_1 operators.Question h = elim h [ inl a ↦ absurd (omega (arith, a)) | inr a ↦ absurd (omega (arith, a)) ]
settles_1 (operators.Assign o) h = elim h [ inl a ↦ absurd (omega (arith, a)) | inr a ↦ absurd (omega (arith, a)) ]
settles_1 operators.Comma h = omega arith

pub settles_2 : Settles 2 2
settles_2 operators.Subscript h = elim h [ inl a ↦ absurd (omega (arith, a)) | inr a ↦ absurd (omega (arith, a)) ]
settles_2 operators.Member h = elim h [ inl a ↦ absurd (omega (arith, a)) | inr a ↦ absurd (omega (arith, a)) ]
settles_2 operators.PointerMember h = elim h [ inl a ↦ absurd (omega (arith, a)) | inr a ↦ absurd (omega (arith, a)) ]
settles_2 (operators.Step o) h = elim h [ inl a ↦ absurd (omega (arith, a)) | inr a ↦ absurd (omega (arith, a)) ]
settles_2 (operators.Binary o) h = elim h [ inl a ↦ omega (arith, a) | inr a ↦ absurd (omega (arith, a, binary-levels o)) ]
settles_2 (operators.Logical o) h = elim h [ inl a ↦ omega (arith, a) | inr a ↦ absurd (omega (arith, a, logical-levels o)) ]
settles_2 operators.Question h = elim h [ inl a ↦ absurd (omega (arith, a)) | inr a ↦ absurd (omega (arith, a)) ]
settles_2 (operators.Assign o) h = omega arith
settles_2 operators.Comma h = omega arith

-- the operators of the cast and unary categories stand before what they apply to
pub settles_unary : (level : ℕ) → 13 ≤ level → level ≤ 14 → Settles level 13
settles_unary level low high operators.Subscript h = elim h [ inl a ↦ absurd (omega (arith, a)) | inr a ↦ absurd (omega (arith, a)) ]
settles_unary level low high operators.Member h = elim h [ inl a ↦ absurd (omega (arith, a)) | inr a ↦ absurd (omega (arith, a)) ]
settles_unary level low high operators.PointerMember h = elim h [ inl a ↦ absurd (omega (arith, a)) | inr a ↦ absurd (omega (arith, a)) ]
settles_unary level low high (operators.Step o) h = elim h [ inl a ↦ absurd (omega (arith, a)) | inr a ↦ absurd (omega (arith, a)) ]
settles_unary level low high (operators.Binary o) h = omega (arith, binary-levels o)
settles_unary level low high (operators.Logical o) h = omega (arith, logical-levels o)
settles_unary level low high operators.Question h = omega arith
settles_unary level low high (operators.Assign o) h = omega arith
settles_unary level low high operators.Comma h = omega arith

pub settled : (level bound : ℕ) (from : Input) → Settles level bound → Follows level from → Ends bound from
settled level bound from s f = record { opens = f.opens; operator = λ found is. s found.operator (f.operator found is) }

-- ---- types and expressions begin with different tokens

-- the next token begins an expression
pub record StartsHere (from : Input) : Type 0 where
  pub started : Started
  pub starts : start from ≡ Some started
  pub begins : is_start started.start ≡ true

pub starts_here : {level : ℕ} {from : Input} {tree : Expr} {to : Input} → Expression level from tree to → StartsHere from
starts_here (grammar.Expression.looser e) = starts_here e
starts_here (grammar.Expression.integer {from = from} s) = record { started = _; starts = s; begins = refl }
starts_here (grammar.Expression.character {from = from} s) = record { started = _; starts = s; begins = refl }
starts_here (grammar.Expression.null_pointer {from = from} s) = record { started = _; starts = s; begins = refl }
starts_here (grammar.Expression.name {from = from} s) = record { started = _; starts = s; begins = refl }
starts_here (grammar.Expression.parenthesized {from = from} s e m) = record { started = _; starts = s; begins = refl }
starts_here (grammar.Expression.call {from = from} s m a) = record { started = _; starts = s; begins = refl }
starts_here (grammar.Expression.atomic {from = from} s m a) = record { started = _; starts = s; begins = refl }
starts_here (grammar.Expression.subscript l c e m) = starts_here l
starts_here (grammar.Expression.member l c n) = starts_here l
starts_here (grammar.Expression.pointer_member l c n) = starts_here l
starts_here (grammar.Expression.postfix l c) = starts_here l
starts_here (grammar.Expression.prefix {from = from} s e) = record { started = _; starts = s; begins = refl }
starts_here (grammar.Expression.unary {from = from} s e) = record { started = _; starts = s; begins = refl }
starts_here (grammar.Expression.size_of_expr {from = from} s e) = record { started = _; starts = s; begins = refl }
starts_here (grammar.Expression.size_of_type {from = from} s o t m) = record { started = _; starts = s; begins = refl }
starts_here (grammar.Expression.align_of {from = from} s o t m) = record { started = _; starts = s; begins = refl }
starts_here (grammar.Expression.cast {from = from} s t m e) = record { started = _; starts = s; begins = refl }
starts_here (grammar.Expression.binary l c r) = starts_here l
starts_here (grammar.Expression.logical l c r) = starts_here l
starts_here (grammar.Expression.conditional t c a m b) = starts_here t
starts_here (grammar.Expression.assignment l c r) = starts_here l
starts_here (grammar.Expression.comma l c r) = starts_here l

pub no_type_here : {level : ℕ} {from : Input} {tree : Expr} {to : Input} → Expression level from tree to → begins_type from ≡ false
no_type_here {from = from} e = let h = starts_here e in no_type_at_start from h.started h.starts h.begins

-- a punctuator that begins no expression
pub no_mark_here : (p : Punctuator) {level : ℕ} {from : Input} {tree : Expr} {to : Input} → is_start (operators.start_mark p) ≡ false
    → Expression level from tree to → mark p from ≡ None
no_mark_here p {from = from} other e = let h = starts_here e in no_mark_at_start p from h.started h.starts h.begins other

-- behind a parenthesis that begins an expression
pub open_is : (from : Input) (place : Place) (inner : Input) → grammar.Starts from operators.Parenthesis place inner
    → mark marks.OpenParenthesis from ≡ Some inner
open_is from place inner s = open_at_start from _ s refl

-- a token that begins an expression and is no parenthesis
pub no_cast_at : (from : Input) (begin : Start) (place : Place) (rest : Input) → grammar.Starts from begin place rest
    → is_open begin ≡ false → begins_cast from ≡ false
unfolding begins_cast
no_cast_at from begin place rest s other = rw (no_open_at_start from _ s other) refl

-- no cast begins a unary or postfix expression
pub no_cast_here : {level : ℕ} {from : Input} {tree : Expr} {to : Input} → Expression level from tree to → 14 ≤ level → begins_cast from ≡ false
unfolding begins_cast
no_cast_here (grammar.Expression.looser e) h = no_cast_here e (omega arith)
no_cast_here (grammar.Expression.integer {from = from} s) h = no_cast_at from _ _ _ s refl
no_cast_here (grammar.Expression.character {from = from} s) h = no_cast_at from _ _ _ s refl
no_cast_here (grammar.Expression.null_pointer {from = from} s) h = no_cast_at from _ _ _ s refl
no_cast_here (grammar.Expression.name {from = from} s) h = no_cast_at from _ _ _ s refl
no_cast_here (grammar.Expression.parenthesized {from = from} {place = place} {inner = inner} s e m) h =
    rw (open_is from place inner s) (no_type_here e)
no_cast_here (grammar.Expression.call {from = from} s m a) h = no_cast_at from _ _ _ s refl
no_cast_here (grammar.Expression.atomic {from = from} s m a) h = no_cast_at from _ _ _ s refl
no_cast_here (grammar.Expression.subscript l c e m) h = no_cast_here l (omega arith)
no_cast_here (grammar.Expression.member l c n) h = no_cast_here l (omega arith)
no_cast_here (grammar.Expression.pointer_member l c n) h = no_cast_here l (omega arith)
no_cast_here (grammar.Expression.postfix l c) h = no_cast_here l (omega arith)
no_cast_here (grammar.Expression.prefix {from = from} s e) h = no_cast_at from _ _ _ s refl
no_cast_here (grammar.Expression.unary {from = from} s e) h = no_cast_at from _ _ _ s refl
no_cast_here (grammar.Expression.size_of_expr {from = from} s e) h = no_cast_at from _ _ _ s refl
no_cast_here (grammar.Expression.size_of_type {from = from} s o t m) h = no_cast_at from _ _ _ s refl
no_cast_here (grammar.Expression.align_of {from = from} s o t m) h = no_cast_at from _ _ _ s refl
no_cast_here (grammar.Expression.cast s t m e) h = absurd (omega (arith, h))
no_cast_here (grammar.Expression.binary {operator = operator} l c r) h = absurd (omega (arith, h, binary-levels operator))
no_cast_here (grammar.Expression.logical {operator = operator} l c r) h = absurd (omega (arith, h, logical-levels operator))
no_cast_here (grammar.Expression.conditional t c a m b) h = absurd (omega (arith, h))
no_cast_here (grammar.Expression.assignment l c r) h = absurd (omega (arith, h))
no_cast_here (grammar.Expression.comma l c r) h = absurd (omega (arith, h))

-- a single type begins a type
pub single_here : {from : Input} {type : TypeSpecifier} {to : Input} → SingleType from type to → (begins_type from ≡ true) × (word is_specifier_word from ≡ None)
single_here (grammar.SingleType.void {from = from} s) = (type_at from _ s refl, no_word_at_single from _ s refl)
single_here (grammar.SingleType.bool {from = from} s) = (type_at from _ s refl, no_word_at_single from _ s refl)
single_here (grammar.SingleType.typedef {from = from} s) = (type_at from _ s refl, no_word_at_single from _ s refl)
single_here (grammar.SingleType.header {from = from} s) = (type_at from _ s refl, no_word_at_single from _ s refl)
single_here (grammar.SingleType.struct {from = from} s a n) = (type_at from _ s refl, no_word_at_single from _ s refl)
single_here (grammar.SingleType.union {from = from} s a n) = (type_at from _ s refl, no_word_at_single from _ s refl)
single_here (grammar.SingleType.enum {from = from} s a n) = (type_at from _ s refl, no_word_at_single from _ s refl)
single_here (grammar.SingleType.enumeration {from = from} s a n o es) = (type_at from _ s refl, no_word_at_single from _ s refl)
single_here (grammar.SingleType.untagged_enumeration {from = from} s a o es) = (type_at from _ s refl, no_word_at_single from _ s refl)

pub words_here : {from : Input} {words : List Keyword} {to : Input} → Words is_specifier_word from words to → list_any is_integer_word words ≡ true → begins_type from ≡ true
words_here Words.none some = absurd (false≢true some)
words_here (Words.more {from = from} {taken = taken} w others) some = type_at_word from taken w

pub modifiers_here : {from : Input} {words : List Keyword} {to : Input} → Words is_modifier from words to → begins_type to ≡ true → begins_type from ≡ true
modifiers_here Words.none known = known
modifiers_here (Words.more {from = from} {taken = taken} w others) known =
    type_at_word from taken (word-other is_modifier is_specifier_word from taken w (modifier-specifier taken.word (word-passes is_modifier from taken w)))

pub specified_here : {from : Input} {words : List Keyword} {type : TypeSpecifier} {to : Input} → Specified from words type to → begins_type from ≡ true
specified_here (grammar.Specified.integer_words {words = words} {type = type} w e) = words_here w (some_named words type e)
specified_here (grammar.Specified.single_type a s b) = modifiers_here a (single_here s).0

pub type_here : {from : Input} {name : TypeName} {to : Input} → TypeNamed from name to → begins_type from ≡ true
type_here (grammar.TypeNamed.type_named s q p l) = specified_here s

-- ---- a type is at least one node

single-deep : {from : Input} {type : TypeSpecifier} {to : Input} → SingleType from type to → 1 ≤ specifier_depth type
single-deep (grammar.SingleType.void s) = omega (arith, depth-Void)
single-deep (grammar.SingleType.bool s) = omega (arith, depth-Bool)
single-deep (grammar.SingleType.typedef {name = name} s) = omega (arith, depth-Typedef name)
single-deep (grammar.SingleType.header {type = type} s) = omega (arith, depth-Header type)
single-deep (grammar.SingleType.struct {attributes = attributes} {tag = tag} s a n) = omega (arith, depth-Record records.Struct attributes tag.name)
single-deep (grammar.SingleType.union {attributes = attributes} {tag = tag} s a n) = omega (arith, depth-Record records.Union attributes tag.name)
single-deep (grammar.SingleType.enum {attributes = attributes} {tag = tag} s a n) = omega (arith, depth-Enum attributes tag.name)
single-deep (grammar.SingleType.enumeration {attributes = attributes} {tag = tag} {enumerators = es} s a n o e) =
    omega (arith, depth-Enumeration attributes (Some tag.name) es)
single-deep (grammar.SingleType.untagged_enumeration {attributes = attributes} {enumerators = es} s a o e) =
    omega (arith, depth-Enumeration attributes None es)

pub specified-deep : {from : Input} {words : List Keyword} {type : TypeSpecifier} {to : Input} → Specified from words type to → 1 ≤ specifier_depth type
specified-deep (grammar.Specified.integer_words {type = type} w e) = omega (arith, depth-Integer-type type)
specified-deep (grammar.Specified.single_type a s b) = single-deep s

-- ---- how an expression is read: the first operand, and then one operator after another

pub made_is : (limit level : ℕ) (place : Place) (kind : ExprKind) (rest : Input) → expression_depth (node place kind) ≤ limit
    → made limit level place kind rest ≡ Some (record { tree = node place kind; level = level; rest = rest })
unfolding made
made_is limit level place kind rest h = rw (is_le h) refl

module _ (limit : ℕ) where
  -- Reading in a wanted category comes by way of the tree, of a category that is at least as tight, and then goes on.
  pub record Climbs (room wanted : ℕ) (from : Input) (tree : Expr) (level : ℕ) (to : Input) : Type 0 where
    pub reached : ℕ
    pub at_least : level ≤ reached
    pub left : ℕ
    pub enough : turns to < left
    pub reads : expression_with limit (nested limit room) wanted from
        ≡ climb limit (nested limit room) wanted left (record { tree = tree; level = reached; rest = to })

  -- the same of a looser category
  pub loosened : (room wanted : ℕ) (from : Input) (tree : Expr) (level : ℕ) (to : Input) → Climbs room wanted from tree (suc level) to
      → Climbs room wanted from tree level to
  loosened room wanted from tree level to c = record {
    reached = c.reached;
    at_least = omega (arith, c.at_least);
    left = c.left;
    enough = c.enough;
    reads = c.reads;
  }

  pub begins_climb : (room wanted level : ℕ) (from : Input) (tree : Expr) (to : Input)
      → begun limit (nested limit room) from ≡ Some (record { tree = tree; level = level; rest = to }) → wanted ≤ level
      → Climbs room wanted from tree level to
  unfolding expression_with
  begins_climb room wanted level from tree to b h = record {
    reached = level;
    at_least = omega arith;
    left = suc (turns to);
    enough = omega arith;
    reads = rw (b, is_le h) refl;
  }

  pub goes : (wanted : ℕ) (operator : operators.Infix) (level : ℕ) → wanted ≤ level_of operator → left_level operator ≤ level
      → goes_on wanted operator level ≡ true
  goes wanted operator level a b = rw (is_le a, is_le b) refl

  pub climb_step : (room wanted left reached : ℕ) (tree grown_tree : Expr) (operator : operators.Infix) (before inner to : Input)
      → grammar.Continues before operator inner → goes_on wanted operator reached ≡ true
      → grown limit (nested limit room) operator tree inner ≡ Some (record { tree = grown_tree; level = level_of operator; rest = to })
      → climb limit (nested limit room) wanted (suc left) (record { tree = tree; level = reached; rest = before })
      ≡ climb limit (nested limit room) wanted left (record { tree = grown_tree; level = level_of operator; rest = to })
  unfolding climb
  climb_step room wanted left reached tree grown_tree operator before inner to c g e = rw (c, g, e) refl

  pub grows_from : (room wanted : ℕ) (from : Input) (tree grown_tree : Expr) (operator : operators.Infix) (before inner to : Input)
      (reached left : ℕ) → turns before < left → left_level operator ≤ reached
      → expression_with limit (nested limit room) wanted from
      ≡ climb limit (nested limit room) wanted left (record { tree = tree; level = reached; rest = before })
      → grammar.Continues before operator inner → wanted ≤ level_of operator
      → grown limit (nested limit room) operator tree inner ≡ Some (record { tree = grown_tree; level = level_of operator; rest = to })
      → turns to ≤ turns inner → Climbs room wanted from grown_tree (level_of operator) to
  grows_from room wanted from tree grown_tree operator before inner to reached zero enough tight e c h g t =
      absurd (omega (arith, enough))
  grows_from room wanted from tree grown_tree operator before inner to reached (suc left) enough tight e c h g t = record {
    reached = level_of operator;
    at_least = omega arith;
    left = left;
    enough = omega (arith, enough, t, behind-turns before _ c);
    reads = e ∙ climb_step room wanted left reached tree grown_tree operator before inner to c (goes wanted operator reached h tight) g;
  }

  pub grows : (room wanted : ℕ) (from : Input) (tree grown_tree : Expr) (level : ℕ) (operator : operators.Infix) (before inner to : Input)
      → Climbs room wanted from tree level before → grammar.Continues before operator inner → wanted ≤ level_of operator
      → left_level operator ≤ level
      → grown limit (nested limit room) operator tree inner ≡ Some (record { tree = grown_tree; level = level_of operator; rest = to })
      → turns to ≤ turns inner → Climbs room wanted from grown_tree (level_of operator) to
  grows room wanted from tree grown_tree level operator before inner to k c h tight g t =
      grows_from room wanted from tree grown_tree operator before inner to k.reached k.left k.enough (omega (arith, tight, k.at_least))
      k.reads c h g t

  pub stops_at : (room wanted left : ℕ) (so_far : Begun) (o : Option TakenInfix) → behind so_far.rest ≡ o → Ends wanted so_far.rest
      → climb limit (nested limit room) wanted (suc left) so_far ≡ Some (so_far.tree, so_far.rest)
  unfolding climb
  stops_at room wanted left so_far None e ends = rw e refl
  stops_at room wanted left so_far (Some found) e ends = rw (e, is_not_le (ends.operator found e)) refl

  pub climbed : (room wanted : ℕ) (from : Input) (tree : Expr) (to : Input) (reached left : ℕ) → turns to < left
      → expression_with limit (nested limit room) wanted from
      ≡ climb limit (nested limit room) wanted left (record { tree = tree; level = reached; rest = to })
      → Ends wanted to → expression_with limit (nested limit room) wanted from ≡ Some (tree, to)
  climbed room wanted from tree to reached zero enough e ends = absurd (omega (arith, enough))
  climbed room wanted from tree to reached (suc left) enough e ends =
      e ∙ stops_at room wanted left (record { tree = tree; level = reached; rest = to }) (behind to) refl ends

  pub nested_type : (room : ℕ) (from : Input) (name : TypeName) (to : Input)
      → reading.type_named (nested limit room).expression from ≡ Some (name, to)
      → (nested limit (suc room)).type_name from ≡ Some (name, to)
  unfolding nested
  nested_type room from name to e = e

  -- where nothing goes on, the tree is what is read
  pub full : (level : ℕ) (from : Input) (tree : Expr) (to : Input)
      → ((room : ℕ) → expression_depth tree ≤ suc room → Climbs room level from tree level to) → (room : ℕ)
      → expression_depth tree ≤ room → 1 ≤ expression_depth tree → Ends level to
      → (nested limit room).expression level from ≡ Some (tree, to)
  unfolding nested
  full level from tree to c zero h some ends = absurd (omega (arith, h, some))
  full level from tree to c (suc room) h some ends =
      let k = c room h in climbed room level from tree to k.reached k.left k.enough k.reads ends

  -- ---- what each production reads, once its parts are read

  module _ (n : Nested) where
    pub begun_start : (from : Input) (begin : Start) (place : Place) (rest : Input) → grammar.Starts from begin place rest
        → begun limit n from ≡ reading.begun_by limit n begin place rest
    unfolding begun
    begun_start from begin place rest s = rw s refl

    pub name_is : (text : List ℕ) (place : Place) (rest : Input) → mark marks.OpenParenthesis rest ≡ None
        → expression_depth (node place (kinds.Name text)) ≤ limit
        → reading.begun_by limit n (operators.Ordinary text) place rest
        ≡ Some (record { tree = node place (kinds.Name text); level = 15; rest = rest })
    name_is text place rest none h = rw none (made_is limit 15 place (kinds.Name text) rest h)

    pub call_is : (kind : List Expr → ExprKind) (place : Place) (inner : Input) (arguments : List Expr) (to : Input)
        → reading.arguments limit n inner ≡ Some (arguments, to) → expression_depth (node place (kind arguments)) ≤ limit
        → reading.call limit n kind place inner ≡ Some (record { tree = node place (kind arguments); level = 15; rest = to })
    unfolding reading.call
    call_is kind place inner arguments to a h = rw a (made_is limit 15 place (kind arguments) to h)

    pub called_is : (text : List ℕ) (place : Place) (rest inner : Input) (arguments : List Expr) (to : Input)
        → mark marks.OpenParenthesis rest ≡ Some inner → reading.arguments limit n inner ≡ Some (arguments, to)
        → expression_depth (node place (kinds.Call text arguments)) ≤ limit
        → reading.begun_by limit n (operators.Ordinary text) place rest
        ≡ Some (record { tree = node place (kinds.Call text arguments); level = 15; rest = to })
    called_is text place rest inner arguments to o a h = rw o (call_is (kinds.Call text) place inner arguments to a h)

    pub atomic_is : (operation : AtomicOperation) (place : Place) (rest inner : Input) (arguments : List Expr) (to : Input)
        → mark marks.OpenParenthesis rest ≡ Some inner → reading.arguments limit n inner ≡ Some (arguments, to)
        → expression_depth (node place (kinds.Atomic operation arguments)) ≤ limit
        → reading.begun_by limit n (operators.Operation operation) place rest
        ≡ Some (record { tree = node place (kinds.Atomic operation arguments); level = 15; rest = to })
    atomic_is operation place rest inner arguments to o a h =
        rw o (call_is (kinds.Atomic operation) place inner arguments to a h)

    pub parenthesized_is : (place : Place) (inner : Input) (tree : Expr) (behind_tree to : Input) → begins_type inner ≡ false
        → n.expression 0 inner ≡ Some (tree, behind_tree) → mark marks.CloseParenthesis behind_tree ≡ Some to
        → expression_depth (node place (kinds.Parenthesized tree)) ≤ limit
        → reading.begun_by limit n operators.Parenthesis place inner
        ≡ Some (record { tree = node place (kinds.Parenthesized tree); level = 15; rest = to })
    unfolding reading.parenthesized
    parenthesized_is place inner tree behind_tree to none e m h =
        rw (none, e, m) (made_is limit 15 place (kinds.Parenthesized tree) to h)

    pub cast_is : (place : Place) (inner : Input) (target : TypeName) (behind_target rest : Input) (operand : Expr) (to : Input)
        → begins_type inner ≡ true → n.type_name inner ≡ Some (target, behind_target)
        → mark marks.CloseParenthesis behind_target ≡ Some rest → n.expression 13 rest ≡ Some (operand, to)
        → expression_depth (node place (kinds.Cast target operand)) ≤ limit
        → reading.begun_by limit n operators.Parenthesis place inner
        ≡ Some (record { tree = node place (kinds.Cast target operand); level = 13; rest = to })
    unfolding reading.cast
    cast_is place inner target behind_target rest operand to some t m e h =
        rw (some, t, m, e) (made_is limit 13 place (kinds.Cast target operand) to h)

    pub operand_is : (level : ℕ) (kind : Expr → ExprKind) (place : Place) (inner : Input) (operand : Expr) (to : Input)
        → n.expression level inner ≡ Some (operand, to) → expression_depth (node place (kind operand)) ≤ limit
        → reading.operand limit n level kind place inner ≡ Some (record { tree = node place (kind operand); level = 14; rest = to })
    unfolding reading.operand
    operand_is level kind place inner operand to e h = rw e (made_is limit 14 place (kind operand) to h)

    pub size_of_expr_is : (place : Place) (inner : Input) (operand : Expr) (to : Input) → begins_cast inner ≡ false
        → n.expression 14 inner ≡ Some (operand, to) → expression_depth (node place (kinds.SizeOfExpr operand)) ≤ limit
        → reading.size_of limit n place inner ≡ Some (record { tree = node place (kinds.SizeOfExpr operand); level = 14; rest = to })
    unfolding reading.size_of
    size_of_expr_is place inner operand to none e h = rw none (operand_is 14 kinds.SizeOfExpr place inner operand to e h)

    pub of_type_is : (kind : TypeName → ExprKind) (place : Place) (inner : Input) (name : TypeName) (behind_name to : Input)
        → n.type_name inner ≡ Some (name, behind_name) → mark marks.CloseParenthesis behind_name ≡ Some to
        → expression_depth (node place (kind name)) ≤ limit
        → reading.of_type limit n kind place inner ≡ Some (record { tree = node place (kind name); level = 14; rest = to })
    unfolding reading.of_type
    of_type_is kind place inner name behind_name to t m h = rw (t, m) (made_is limit 14 place (kind name) to h)

    pub size_of_type_is : (place : Place) (outer inner : Input) (name : TypeName) (behind_name to : Input)
        → mark marks.OpenParenthesis outer ≡ Some inner → begins_type inner ≡ true
        → n.type_name inner ≡ Some (name, behind_name) → mark marks.CloseParenthesis behind_name ≡ Some to
        → expression_depth (node place (kinds.SizeOfType name)) ≤ limit
        → reading.size_of limit n place outer ≡ Some (record { tree = node place (kinds.SizeOfType name); level = 14; rest = to })
    unfolding reading.size_of begins_cast
    size_of_type_is place outer inner name behind_name to o some t m h =
        rw (o, some) (of_type_is kinds.SizeOfType place inner name behind_name to t m h)

    pub align_of_is : (place : Place) (outer inner : Input) (name : TypeName) (behind_name to : Input)
        → mark marks.OpenParenthesis outer ≡ Some inner
        → n.type_name inner ≡ Some (name, behind_name) → mark marks.CloseParenthesis behind_name ≡ Some to
        → expression_depth (node place (kinds.AlignOf name)) ≤ limit
        → reading.begun_by limit n operators.AlignOf place outer ≡ Some (record { tree = node place (kinds.AlignOf name); level = 14; rest = to })
    align_of_is place outer inner name behind_name to o t m h =
        rw o (of_type_is kinds.AlignOf place inner name behind_name to t m h)

    pub joined_is : (level right : ℕ) (kind : Expr → ExprKind) (place : Place) (inner : Input) (second : Expr) (to : Input)
        → n.expression right inner ≡ Some (second, to) → expression_depth (node place (kind second)) ≤ limit
        → reading.joined limit n level right kind place inner ≡ Some (record { tree = node place (kind second); level = level; rest = to })
    unfolding reading.joined
    joined_is level right kind place inner second to e h = rw e (made_is limit level place (kind second) to h)

    pub conditional_is : (test : Expr) (inner : Input) (first : Expr) (colon rest : Input) (second : Expr) (to : Input)
        → n.expression 0 inner ≡ Some (first, colon) → mark marks.Colon colon ≡ Some rest
        → n.expression 2 rest ≡ Some (second, to) → expression_depth (node test.place (kinds.Conditional test first second)) ≤ limit
        → reading.conditional limit n test inner
        ≡ Some (record { tree = node test.place (kinds.Conditional test first second); level = 2; rest = to })
    unfolding reading.conditional
    conditional_is test inner first colon rest second to a m b h =
        rw (a, m) (joined_is 2 2 (kinds.Conditional test first) test.place rest second to b h)

    pub subscript_is : (array : Expr) (inner : Input) (index : Expr) (close to : Input) → n.expression 0 inner ≡ Some (index, close)
        → mark marks.CloseBracket close ≡ Some to → expression_depth (node array.place (kinds.Subscript array index)) ≤ limit
        → reading.subscript limit n array inner
        ≡ Some (record { tree = node array.place (kinds.Subscript array index); level = 15; rest = to })
    unfolding reading.subscript
    subscript_is array inner index close to e m h =
        rw (e, m) (made_is limit 15 array.place (kinds.Subscript array index) to h)

    pub member_is : (kind : Name → ExprKind) (place : Place) (inner : Input) (named : Named) → identifier inner ≡ Some named
        → expression_depth (node place (kind named.name)) ≤ limit
        → reading.member limit n kind place inner ≡ Some (record { tree = node place (kind named.name); level = 15; rest = named.rest })
    unfolding reading.member
    member_is kind place inner named e h = rw e (made_is limit 15 place (kind named.name) named.rest h)

    pub arguments_none : (inner to : Input) → mark marks.CloseParenthesis inner ≡ Some to → reading.arguments limit n inner ≡ Some ([], to)
    unfolding reading.arguments
    arguments_none inner to m = rw m refl

    pub arguments_some : (inner : Input) (arguments : List Expr) (to : Input) → mark marks.CloseParenthesis inner ≡ None
        → reading.arguments_from limit n (turns inner) inner ≡ Some (arguments, to) → reading.arguments limit n inner ≡ Some (arguments, to)
    unfolding reading.arguments
    arguments_some inner arguments to none a = rw none a

    pub last_argument_is : (left : ℕ) (from : Input) (argument : Expr) (behind_it to : Input)
        → n.expression 1 from ≡ Some (argument, behind_it) → mark marks.CloseParenthesis behind_it ≡ Some to
        → reading.arguments_from limit n (suc left) from ≡ Some (argument ∷ [], to)
    unfolding reading.arguments_from
    last_argument_is left from argument behind_it to e m =
        rw (e, other_mark _ marks.Comma behind_it to m refl, m) refl

    pub more_arguments_are : (left : ℕ) (from : Input) (argument : Expr) (behind_it inner : Input) (arguments : List Expr) (to : Input)
        → n.expression 1 from ≡ Some (argument, behind_it) → mark marks.Comma behind_it ≡ Some inner
        → reading.arguments_from limit n left inner ≡ Some (arguments, to)
        → reading.arguments_from limit n (suc left) from ≡ Some (argument ∷ arguments, to)
    unfolding reading.arguments_from
    more_arguments_are left from argument behind_it inner arguments to e m a = rw (e, m, a) refl

-- ---- what each production of types reads, once its parts are read

-- what may stand behind a type's own words
pub record EndsType (from : Input) : Type 0 where
  pub words : word is_specifier_word from ≡ None
  pub brace : mark marks.OpenBrace from ≡ None

module _ (expression : ℕ → Reader Expr) where
  pub no_more_lengths : (left : ℕ) (from : Input) → mark marks.OpenBracket from ≡ None
      → reading.lengths_from expression (suc left) from ≡ Some ([], from)
  unfolding reading.lengths_from
  no_more_lengths left from none = rw none refl

  pub more_lengths_are : (left : ℕ) (from inner : Input) (length : Expr) (close rest : Input) (lengths : List Expr) (to : Input)
      → mark marks.OpenBracket from ≡ Some inner → expression 2 inner ≡ Some (length, close)
      → mark marks.CloseBracket close ≡ Some rest → reading.lengths_from expression left rest ≡ Some (lengths, to)
      → reading.lengths_from expression (suc left) from ≡ Some (length ∷ lengths, to)
  unfolding reading.lengths_from
  more_lengths_are left from inner length close rest lengths to o e m l = rw (o, e, m, l) refl

  pub lengths_are : (from : Input) (lengths : List Expr) (to : Input) → reading.lengths_from expression (suc (turns from)) from ≡ Some (lengths, to)
      → reading.lengths expression from ≡ Some (lengths, to)
  unfolding reading.lengths
  lengths_are from lengths to l = l

  pub implicit_is : (from : Input) (named : Named) → identifier from ≡ Some named → mark marks.Assign named.rest ≡ None
      → reading.constant expression from ≡ Some (
        roll-Enumerator (record { name = named.name; value = None }),
        declares named.rest named.name.text names.Ordinary,
      )
  unfolding reading.constant
  implicit_is from named n none = rw (n, none) refl

  pub valued_is : (from : Input) (named : Named) (inner : Input) (value : Expr) (rest : Input) → identifier from ≡ Some named
      → mark marks.Assign named.rest ≡ Some inner → expression 2 inner ≡ Some (value, rest)
      → reading.constant expression from ≡ Some (
        roll-Enumerator (record { name = named.name; value = Some value }),
        declares rest named.name.text names.Ordinary,
      )
  unfolding reading.constant
  valued_is from named inner value rest n m e = rw (n, m, e) refl

  pub last_constant_is : (left : ℕ) (from : Input) (one : Enumerator) (rest to : Input) → reading.constant expression from ≡ Some (one, rest)
      → mark marks.CloseBrace rest ≡ Some to → reading.enumerators_from expression (suc left) from ≡ Some (one ∷ [], to)
  unfolding reading.enumerators_from
  last_constant_is left from one rest to c m = rw (c, other_mark _ marks.Comma rest to m refl, m) refl

  pub trailing_comma_is : (left : ℕ) (from : Input) (one : Enumerator) (rest inner to : Input) → reading.constant expression from ≡ Some (one, rest)
      → mark marks.Comma rest ≡ Some inner → mark marks.CloseBrace inner ≡ Some to
      → reading.enumerators_from expression (suc left) from ≡ Some (one ∷ [], to)
  unfolding reading.enumerators_from
  trailing_comma_is left from one rest inner to c m b = rw (c, m, b) refl

  pub more_constants_are : (left : ℕ) (from : Input) (one : Enumerator) (rest inner : Input) (others : List Enumerator) (to : Input)
      → reading.constant expression from ≡ Some (one, rest) → mark marks.Comma rest ≡ Some inner
      → mark marks.CloseBrace inner ≡ None → reading.enumerators_from expression left inner ≡ Some (others, to)
      → reading.enumerators_from expression (suc left) from ≡ Some (one ∷ others, to)
  unfolding reading.enumerators_from
  more_constants_are left from one rest inner others to c m none e = rw (c, m, none, e) refl

  pub enumeration_is : (attributes : List Attribute) (tag : Option Name) (inner : Input) (es : List Enumerator) (to : Input)
      → reading.enumerators_from expression (turns inner) inner ≡ Some (es, to)
      → reading.enumeration expression attributes tag inner
      ≡ Some (specifiers.EnumDefinition (roll-EnumDefinition (record { attributes = attributes; tag = tag; enumerators = es })), to)
  unfolding reading.enumeration
  enumeration_is attributes tag inner es to e = rw e refl

  pub single_start : (from : Input) (begin : TypeStart) (rest : Input) → grammar.BeginsType from begin rest
      → reading.single_type expression from ≡ reading.single_by expression begin rest
  unfolding reading.single_type
  single_start from begin rest s = rw s refl

  pub record_is : (kind : RecordKind) (outer : Input) (attributes : List Attribute) (rest : Input) (tag : Named)
      → reading.attributes outer ≡ Some (attributes, rest) → identifier rest ≡ Some tag
      → reading.record_type expression kind outer ≡ Some (specifiers.Record kind attributes tag.name, tag.rest)
  unfolding reading.record_type
  record_is kind outer attributes rest tag a n = rw (a, n) refl

  pub enum_is : (outer : Input) (attributes : List Attribute) (rest : Input) (tag : Named) → reading.attributes outer ≡ Some (attributes, rest)
      → identifier rest ≡ Some tag → mark marks.OpenBrace tag.rest ≡ None
      → reading.enum_type expression outer ≡ Some (specifiers.Enum attributes tag.name, tag.rest)
  unfolding reading.enum_type reading.tagged
  enum_is outer attributes rest tag a n none = rw (a, n, none) refl

  pub tagged_is : (outer : Input) (attributes : List Attribute) (rest : Input) (tag : Named) (inner : Input) (es : List Enumerator) (to : Input)
      → reading.attributes outer ≡ Some (attributes, rest) → identifier rest ≡ Some tag → mark marks.OpenBrace tag.rest ≡ Some inner
      → reading.enumerators_from expression (turns inner) inner ≡ Some (es, to)
      → reading.enum_type expression outer
      ≡ Some (specifiers.EnumDefinition (roll-EnumDefinition (record { attributes = attributes; tag = Some tag.name; enumerators = es })), to)
  unfolding reading.enum_type reading.tagged
  tagged_is outer attributes rest tag inner es to a n o e = rw (a, n, o) (enumeration_is attributes (Some tag.name) inner es to e)

  pub untagged_is : (outer : Input) (attributes : List Attribute) (rest inner : Input) (es : List Enumerator) (to : Input)
      → reading.attributes outer ≡ Some (attributes, rest) → mark marks.OpenBrace rest ≡ Some inner
      → reading.enumerators_from expression (turns inner) inner ≡ Some (es, to)
      → reading.enum_type expression outer
      ≡ Some (specifiers.EnumDefinition (roll-EnumDefinition (record { attributes = attributes; tag = None; enumerators = es })), to)
  unfolding reading.enum_type
  untagged_is outer attributes rest inner es to a o e =
      rw (a, no_identifier_at_mark _ rest inner o, o) (enumeration_is attributes None inner es to e)

  pub integer_is : (from : Input) (words : List Keyword) (to : Input) (type : IntegerType) → Words is_specifier_word from words to
      → integer_type words ≡ Some type → word is_specifier_word to ≡ None
      → reading.specified expression from ≡ Some ((filter is_modifier words, specifiers.Integer type), to)
  unfolding reading.specified
  integer_is from words to type w t ends = rw (words-read w ends, some_named words type t, t) refl

  pub single_is : (from : Input) (before : List Keyword) (inner : Input) (type : TypeSpecifier) (rest : Input) (after : List Keyword) (to : Input)
      → Words is_modifier from before inner → word is_specifier_word inner ≡ None
      → reading.single_type expression inner ≡ Some (type, rest)
      → Words is_modifier rest after to → word is_modifier to ≡ None
      → reading.specified expression from ≡ Some ((before ++ after, type), to)
  unfolding reading.specified
  single_is from before inner type rest after to a none s b ends =
      rw (words-read (modifiers-words a) none, modifiers-no_integer a, s, words-read b ends) refl

  pub type_is : (from : Input) (words : List Keyword) (type : TypeSpecifier) (rest : Input) (count : ℕ) (inner : Input) (lengths : List Expr)
      (to : Input) → reading.specified expression from ≡ Some ((words, type), rest) → list_all is_qualifier words ≡ true
      → reading.pointers rest ≡ Some (count, inner) → reading.lengths expression inner ≡ Some (lengths, to)
      → reading.type_named expression from ≡ Some (grammar.type_name type count lengths, to)
  unfolding reading.type_named
  type_is from words type rest count inner lengths to s q p l = rw (s, q, p, l) refl
