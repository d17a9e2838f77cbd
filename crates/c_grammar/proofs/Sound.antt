-- What is read of expressions and types is related by the grammar, and no expression is deeper than the limit.
use Rattle.std.proofs.Common.{◌≡◌, ℕ, zero, suc, ◌+◌, ◌≤◌, ◌-◌, ◌&&◌, Bool, true, false, List, [], ◌∷◌, ◌++◌, Option, Some, None, sym, refl, ap, subst, arith}
use Rattle.std.specs.Prelude.{nat_le}
use Rattle.std.specs.List.{list_all, list_any, filter}
use Rattle.std.proofs.lemmas.Bool.{false≢true}
use Rattle.std.proofs.lemmas.Option.{none-some, same_Some, some_pair_parts}
use Rattle.rc_text.specs.declared.place.Place.{Place}
use Rattle.c_lexer.specs.declared.keyword.Keyword.{Keyword}
use Rattle.c_lexer.specs.declared.punctuator.Punctuator.TheVariants as marks
use Rattle.c_syntax.specs.declared.attribute.Attribute.{Attribute}
use Rattle.c_syntax.specs.declared.name.Name.{Name}
use Rattle.c_syntax.specs.declared.specifier.RecordKind.{RecordKind}
use Rattle.c_syntax.specs.declared.specifier.RecordKind.TheVariants as records
use Rattle.c_syntax.specs.declared.specifier.TypeSpecifier.{TypeSpecifier}
use Rattle.c_syntax.specs.declared.specifier.TypeSpecifier.TheVariants as specifiers
use Rattle.c_syntax.specs.declared.specifier.EnumDefinition.{roll-EnumDefinition}
use Rattle.c_syntax.specs.declared.specifier.Enumerator.{Enumerator, roll-Enumerator}
use Rattle.c_syntax.specs.declared.expr.Expr.{Expr}
use Rattle.c_syntax.specs.declared.expr.ExprKind.{ExprKind}
use Rattle.c_syntax.specs.declared.expr.ExprKind.TheVariants as kinds
use Rattle.c_syntax.specs.declared.expr.TypeName.{TypeName}
use Rattle.c_syntax.specs.Depth.{expression_depth}
use Rattle.c_grammar.specs.declared.names.NameKind.TheVariants as names
use Rattle.c_grammar.specs.Input.{Input, Named, mark, identifier, declares}
use Rattle.c_grammar.specs.Attributes.{Attributes}
use Rattle.c_grammar.specs.Operators as operators
use Rattle.c_grammar.specs.Operators.{Start, start, behind, binary_level, logical_level, level_of, left_level}
use Rattle.c_grammar.specs.Specifiers as types
use Rattle.c_grammar.specs.Specifiers.{TypeStart, type_start, is_specifier_word, is_integer_word, is_modifier, is_qualifier, integer_type, Words}
use Rattle.c_grammar.specs.Expressions as grammar
use Rattle.c_grammar.specs.Expressions.{node, Expression, Arguments, ArgumentList, Lengths, TypeNamed, Specified, SingleType, Enumerators, Constant}
use Rattle.c_grammar.specs.Reading as reading
use Rattle.c_grammar.specs.Reading.{turns, Reader, Nested, Begun, nested, made, begun, climb, expression_with, grown, goes_on, begins_type, begins_cast}
use Rattle.c_grammar.proofs.Steps.{into, into_onward, into_past, into_either, into_if, le_is}
use Rattle.c_grammar.proofs.AttributesRead.{attributes-sound}
use Rattle.c_grammar.proofs.TypesRead.{words-sound, words-modifiers, pointers-sound}

-- an expression of a category is one of each looser category
loosen_by : (more level tight : ℕ) {from : Input} {tree : Expr} {to : Input} → tight ≡ more + level → Expression tight from tree to
    → Expression level from tree to
loosen_by zero level tight {from} {tree} {to} same e = subst (λ l. Expression l from tree to) (omega (arith, same)) e
loosen_by (suc more) level tight {from} {tree} {to} same e =
    let next : tight ≡ suc (more + level) = omega (arith, same) in
    loosen_by more level (more + level) refl (grammar.Expression.looser (subst (λ l. Expression l from tree to) next e))

pub loosen : (level tight : ℕ) {from : Input} {tree : Expr} {to : Input} → level ≤ tight → Expression tight from tree to
    → Expression level from tree to
loosen level tight h e = loosen_by (tight - level) level tight (omega (arith, h)) e

-- the readers of what is nested give what the grammar relates
pub record SoundExpressions (limit : ℕ) (expression : ℕ → Reader Expr) : Type 0 where
  pub sound : (level : ℕ) (from : Input) (tree : Expr) (to : Input) → expression level from ≡ Some (tree, to)
      → Expression level from tree to × (expression_depth tree ≤ limit)

-- ---- types

module _ (limit : ℕ) (expression : ℕ → Reader Expr) (s : SoundExpressions limit expression) where
  lengths-sound_from : (left : ℕ) (from : Input) (lengths : List Expr) (to : Input)
      → reading.lengths_from expression left from ≡ Some (lengths, to) → Lengths from lengths to
  unfolding reading.lengths_from
  lengths-sound_from zero from lengths to e = absurd (none-some _ e)
  lengths-sound_from (suc left) from lengths to e = into_either (mark marks.OpenBracket from) _ _ _ e
      (λ none same. let parts = some_pair_parts [] lengths from to same in rw (← parts.0, ← parts.1) grammar.Lengths.no_length)
      (λ inner o found. into_onward (expression 2 inner) _ _ found λ length close k more. into_past _ _ _ more λ rest m last.
      into_onward (reading.lengths_from expression left rest) _ _ last λ others end known same.
      let parts = some_pair_parts (length ∷ others) lengths end to same in
      rw (← parts.0, ← parts.1) (grammar.Lengths.more_lengths o (s.sound 2 inner length close k).0 m
      (lengths-sound_from left rest others end known)))

  pub lengths-sound : (from : Input) (lengths : List Expr) (to : Input) → reading.lengths expression from ≡ Some (lengths, to) → Lengths from lengths to
  unfolding reading.lengths
  lengths-sound from lengths to e = lengths-sound_from (suc (turns from)) from lengths to e

  constant-sound : (from : Input) (one : Enumerator) (to : Input) → reading.constant expression from ≡ Some (one, to) → Constant from one to
  unfolding reading.constant
  constant-sound from one to e = into _ (identifier from) _ e λ named n found.
      into_either (mark marks.Assign named.rest) _ _ _ found
      (λ none same. let parts = some_pair_parts (roll-Enumerator (record { name = named.name; value = None })) one
      (declares named.rest named.name.text names.Ordinary) to same in
      rw (← parts.0, ← parts.1) (grammar.Constant.implicit n))
      (λ inner m more. into_onward (expression 2 inner) _ _ more λ value rest k same.
      let parts = some_pair_parts (roll-Enumerator (record { name = named.name; value = Some value })) one
      (declares rest named.name.text names.Ordinary) to same in
      rw (← parts.0, ← parts.1) (grammar.Constant.valued n m (s.sound 2 inner value rest k).0))

  constants-sound : (left : ℕ) (from : Input) (list : List Enumerator) (to : Input)
      → reading.enumerators_from expression left from ≡ Some (list, to) → Enumerators from list to
  unfolding reading.enumerators_from
  constants-sound zero from list to e = absurd (none-some _ e)
  constants-sound (suc left) from list to e = into_onward (reading.constant expression from) _ _ e λ one rest c found.
      into_either (mark marks.Comma rest) _ _ _ found
      (λ none last. into_past _ _ _ last λ end m same. let parts = some_pair_parts (one ∷ []) list end to same in
      rw (← parts.0, ← parts.1) (grammar.Enumerators.last_constant (constant-sound from one rest c) m))
      (λ inner m more. into_either (mark marks.CloseBrace inner) _ _ _ more
      (λ none last. into_onward (reading.enumerators_from expression left inner) _ _ last λ others end known same.
      let parts = some_pair_parts (one ∷ others) list end to same in
      rw (← parts.0, ← parts.1) (grammar.Enumerators.more_constants (constant-sound from one rest c) m
      (constants-sound left inner others end known)))
      (λ end b same. let parts = some_pair_parts (one ∷ []) list end to same in
      rw (← parts.0, ← parts.1) (grammar.Enumerators.trailing_comma (constant-sound from one rest c) m b)))

  enumeration-sound : (attributes : List Attribute) (tag : Option Name) (inner : Input) (type : TypeSpecifier) (to : Input)
      → reading.enumeration expression attributes tag inner ≡ Some (type, to)
      → (P : TypeSpecifier → Input → Type 0) → ((es : List Enumerator) (end : Input) → Enumerators inner es end
      → P (specifiers.EnumDefinition (roll-EnumDefinition (record { attributes = attributes; tag = tag; enumerators = es }))) end)
      → P type to
  unfolding reading.enumeration
  enumeration-sound attributes tag inner type to e P k = into_onward (reading.enumerators_from expression (turns inner) inner) _ _ e λ es end c same.
      let parts = some_pair_parts (specifiers.EnumDefinition (roll-EnumDefinition (record { attributes = attributes; tag = tag; enumerators = es }))) type end to same in
      rw (← parts.0, ← parts.1) (k es end (constants-sound (turns inner) inner es end c))

  enum-sound : (from outer : Input) (type : TypeSpecifier) (to : Input) → grammar.BeginsType from types.Enum outer
      → reading.enum_type expression outer ≡ Some (type, to) → SingleType from type to
  unfolding reading.enum_type reading.tagged
  enum-sound from outer type to b e = into_onward (reading.attributes outer) _ _ e λ attributes rest a found.
      into_either (identifier rest) _ _ _ found
      (λ none last. into_past _ _ _ last λ inner o more.
      enumeration-sound attributes None inner type to more (λ t i. SingleType from t i)
      (λ es end c. grammar.SingleType.untagged_enumeration b (attributes-sound outer attributes rest a) o c))
      (λ named n last. into_either (mark marks.OpenBrace named.rest) _ _ _ last
      (λ none same. let parts = some_pair_parts (specifiers.Enum attributes named.name) type named.rest to same in
      rw (← parts.0, ← parts.1) (grammar.SingleType.enum b (attributes-sound outer attributes rest a) n))
      (λ inner o more. enumeration-sound attributes (Some named.name) inner type to more (λ t i. SingleType from t i)
      (λ es end c. grammar.SingleType.enumeration b (attributes-sound outer attributes rest a) n o c)))

  record-sound : (kind : RecordKind) (outer : Input) (type : TypeSpecifier) (to : Input) → reading.record_type expression kind outer ≡ Some (type, to)
      → (P : TypeSpecifier → Input → Type 0) → ((attributes : List Attribute) (rest : Input) (tag : Named)
      → Attributes outer attributes rest → identifier rest ≡ Some tag → P (specifiers.Record kind attributes tag.name) tag.rest)
      → P type to
  unfolding reading.record_type
  record-sound kind outer type to e P k = into_onward (reading.attributes outer) _ _ e λ attributes rest a found.
      into _ (identifier rest) _ found λ named n same.
      let parts = some_pair_parts (specifiers.Record kind attributes named.name) type named.rest to same in
      rw (← parts.0, ← parts.1) (k attributes rest named (attributes-sound outer attributes rest a) n)

  pub single_by-sound : (begin : TypeStart) (from rest : Input) (type : TypeSpecifier) (to : Input) → grammar.BeginsType from begin rest
      → reading.single_by expression begin rest ≡ Some (type, to) → SingleType from type to
  single_by-sound types.Void from rest type to b e = let parts = some_pair_parts specifiers.Void type rest to e in
      rw (← parts.0, ← parts.1) (grammar.SingleType.void b)
  single_by-sound types.Boolean from rest type to b e = let parts = some_pair_parts specifiers.Bool type rest to e in
      rw (← parts.0, ← parts.1) (grammar.SingleType.bool b)
  single_by-sound (types.Typedef name) from rest type to b e = let parts = some_pair_parts (specifiers.Typedef name) type rest to e in
      rw (← parts.0, ← parts.1) (grammar.SingleType.typedef b)
  single_by-sound (types.Header h) from rest type to b e = let parts = some_pair_parts (specifiers.Header h) type rest to e in
      rw (← parts.0, ← parts.1) (grammar.SingleType.header b)
  single_by-sound types.Struct from rest type to b e = record-sound records.Struct rest type to e (λ t i. SingleType from t i)
      (λ attributes inner tag a n. grammar.SingleType.struct b a n)
  single_by-sound types.Union from rest type to b e = record-sound records.Union rest type to e (λ t i. SingleType from t i)
      (λ attributes inner tag a n. grammar.SingleType.union b a n)
  single_by-sound types.Enum from rest type to b e = enum-sound from rest type to b e
  single_by-sound types.SpecifierWord from rest type to b e = absurd (none-some _ e)
  single_by-sound types.NoType from rest type to b e = absurd (none-some _ e)

  single-sound : (from : Input) (type : TypeSpecifier) (to : Input) → reading.single_type expression from ≡ Some (type, to) → SingleType from type to
  unfolding reading.single_type
  single-sound from type to e = into _ (type_start from) _ e λ started b found.
      single_by-sound started.start from started.rest type to b found

  pub specified-sound : (from : Input) (words : List Keyword) (type : TypeSpecifier) (to : Input)
      → reading.specified expression from ≡ Some ((words, type), to) → Specified from words type to
  unfolding reading.specified
  specified-sound from words type to e = into_onward (reading.words is_specifier_word from) _ _ e λ before rest w found.
      into_if (list_any is_integer_word before) _ _ _ found
      (λ known more. into _ (integer_type before) _ more λ integer i same.
      let parts = some_pair_parts (filter is_modifier before, specifiers.Integer integer) (words, type) rest to same in
      rw (← ap (λ (p : List Keyword × TypeSpecifier). p.0) parts.0, ← ap (λ (p : List Keyword × TypeSpecifier). p.1) parts.0, ← parts.1)
      (grammar.Specified.integer_words (words-sound is_specifier_word from before rest w) i))
      (λ known more. into_onward (reading.single_type expression rest) _ _ more λ specifier inner t last.
      into_onward (reading.words is_modifier inner) _ _ last λ after end a same.
      let parts = some_pair_parts (before ++ after, specifier) (words, type) end to same in
      rw (← ap (λ (p : List Keyword × TypeSpecifier). p.0) parts.0, ← ap (λ (p : List Keyword × TypeSpecifier). p.1) parts.0, ← parts.1)
      (grammar.Specified.single_type (words-modifiers (words-sound is_specifier_word from before rest w) known)
      (single-sound rest specifier inner t) (words-sound is_modifier inner after end a)))

  pub type-sound : (from : Input) (name : TypeName) (to : Input) → reading.type_named expression from ≡ Some (name, to) → TypeNamed from name to
  unfolding reading.type_named
  type-sound from name to e = into_onward (reading.specified expression from) _ _ e λ type rest k found.
      into_if (list_all is_qualifier type.0) _ _ _ found
      (λ known more. into_onward (reading.pointers rest) _ _ more λ count inner p last.
      into_onward (reading.lengths expression inner) _ _ last λ lengths end l same.
      let parts = some_pair_parts (grammar.type_name type.1 count lengths) name end to same in
      rw (← parts.0, ← parts.1) (grammar.TypeNamed.type_named (specified-sound from type.0 type.1 rest k) (rw known refl)
      (pointers-sound rest count inner p) (lengths-sound inner lengths end l)))
      (λ known none. absurd (none-some _ none))

-- ---- expressions

-- what was begun is related, and not too deep
pub record SoundBegun (limit level : ℕ) (from : Input) (b : Begun) : Type 0 where
  pub same_level : b.level ≡ level
  pub related : Expression level from b.tree b.rest
  pub shallow : expression_depth b.tree ≤ limit

-- the same by its own category
own_level : (limit level : ℕ) (from : Input) (b : Begun) → SoundBegun limit level from b → SoundBegun limit b.level from b
own_level limit level from b s = record {
  same_level = refl;
  related = subst (λ l. Expression l from b.tree b.rest) (sym s.same_level) s.related;
  shallow = s.shallow;
}

made-sound : (limit level : ℕ) (place : Place) (kind : ExprKind) (from rest : Input) (b : Begun) → made limit level place kind rest ≡ Some b
    → Expression level from (node place kind) rest → SoundBegun limit level from b
unfolding made
made-sound limit level place kind from rest b e related = into_if _ _ _ _ e
    (λ known same. subst (SoundBegun limit level from) (same_Some _ b same) (record { same_level = refl; related = related; shallow = le_is _ limit known }))
    (λ known none. absurd (none-some b none))

-- the readers of what is nested
pub record SoundNested (limit : ℕ) (n : Nested) : Type 0 where
  pub expressions : SoundExpressions limit n.expression
  pub types : (from : Input) (name : TypeName) (to : Input) → n.type_name from ≡ Some (name, to) → TypeNamed from name to

module _ (limit : ℕ) (n : Nested) (s : SoundNested limit n) where
  inner-sound : (level : ℕ) (from : Input) (tree : Expr) (to : Input) → n.expression level from ≡ Some (tree, to) → Expression level from tree to
  inner-sound level from tree to e = (s.expressions.sound level from tree to e).0

  list-sound : (left : ℕ) (from : Input) (arguments : List Expr) (to : Input)
      → reading.arguments_from limit n left from ≡ Some (arguments, to) → ArgumentList from arguments to
  unfolding reading.arguments_from
  list-sound zero from arguments to e = absurd (none-some _ e)
  list-sound (suc left) from arguments to e = into_onward (n.expression 1 from) _ _ e λ argument rest k found.
      into_either (mark marks.Comma rest) _ _ _ found
      (λ none last. into_past _ _ _ last λ end m same. let parts = some_pair_parts (argument ∷ []) arguments end to same in
      rw (← parts.0, ← parts.1) (grammar.ArgumentList.last_argument (inner-sound 1 from argument rest k) m))
      (λ inner m more. into_onward (reading.arguments_from limit n left inner) _ _ more λ others end known same.
      let parts = some_pair_parts (argument ∷ others) arguments end to same in
      rw (← parts.0, ← parts.1) (grammar.ArgumentList.more_arguments (inner-sound 1 from argument rest k) m
      (list-sound left inner others end known)))

  arguments-sound : (inner : Input) (arguments : List Expr) (to : Input) → reading.arguments limit n inner ≡ Some (arguments, to)
      → Arguments inner arguments to
  unfolding reading.arguments
  arguments-sound inner arguments to e = into_either (mark marks.CloseParenthesis inner) _ _ _ e
      (λ none found. grammar.Arguments.some_arguments (list-sound (turns inner) inner arguments to found))
      (λ rest m same. let parts = some_pair_parts [] arguments rest to same in
      rw (← parts.0, ← parts.1) (grammar.Arguments.no_argument m))

  call-sound : (kind : List Expr → ExprKind) (place : Place) (from inner : Input) (b : Begun) → reading.call limit n kind place inner ≡ Some b
      → ((arguments : List Expr) (to : Input) → Arguments inner arguments to → Expression 15 from (node place (kind arguments)) to)
      → SoundBegun limit 15 from b
  unfolding reading.call
  call-sound kind place from inner b e k = into_onward (reading.arguments limit n inner) _ _ e λ arguments to a found.
      made-sound limit 15 place (kind arguments) from to b found (k arguments to (arguments-sound inner arguments to a))

  operand-sound : (level : ℕ) (kind : Expr → ExprKind) (place : Place) (from inner : Input) (b : Begun)
      → reading.operand limit n level kind place inner ≡ Some b
      → ((operand : Expr) (to : Input) → Expression level inner operand to → Expression 14 from (node place (kind operand)) to)
      → SoundBegun limit 14 from b
  unfolding reading.operand
  operand-sound level kind place from inner b e k = into_onward (n.expression level inner) _ _ e λ operand to o found.
      made-sound limit 14 place (kind operand) from to b found (k operand to (inner-sound level inner operand to o))

  of_type-sound : (kind : TypeName → ExprKind) (place : Place) (from inner : Input) (b : Begun) → reading.of_type limit n kind place inner ≡ Some b
      → ((name : TypeName) (rest to : Input) → TypeNamed inner name rest → mark marks.CloseParenthesis rest ≡ Some to
      → Expression 14 from (node place (kind name)) to)
      → SoundBegun limit 14 from b
  unfolding reading.of_type
  of_type-sound kind place from inner b e k = into_onward (n.type_name inner) _ _ e λ name rest t found.
      into_past _ _ _ found λ to m last.
      made-sound limit 14 place (kind name) from to b last (k name rest to (s.types inner name rest t) m)

  parenthesized-sound : (place : Place) (from inner : Input) (b : Begun) → grammar.Starts from operators.Parenthesis place inner
      → reading.parenthesized limit n place inner ≡ Some b → SoundBegun limit 15 from b
  unfolding reading.parenthesized
  parenthesized-sound place from inner b starts e = into_onward (n.expression 0 inner) _ _ e λ tree rest k found.
      into_past _ _ _ found λ to m last. made-sound limit 15 place (kinds.Parenthesized tree) from to b last
      (grammar.Expression.parenthesized starts (inner-sound 0 inner tree rest k) m)

  cast-sound : (place : Place) (from inner : Input) (b : Begun) → grammar.Starts from operators.Parenthesis place inner
      → reading.cast limit n place inner ≡ Some b → SoundBegun limit 13 from b
  unfolding reading.cast
  cast-sound place from inner b starts e = into_onward (n.type_name inner) _ _ e λ target rest t found.
      into_past _ _ _ found λ after m more. into_onward (n.expression 13 after) _ _ more λ operand to k last.
      made-sound limit 13 place (kinds.Cast target operand) from to b last
      (grammar.Expression.cast starts (s.types inner target rest t) m (inner-sound 13 after operand to k))

  size_of-sound : (place : Place) (from outer : Input) (b : Begun) → grammar.Starts from operators.SizeOf place outer
      → reading.size_of limit n place outer ≡ Some b → SoundBegun limit 14 from b
  unfolding reading.size_of
  size_of-sound place from outer b starts e = into_if (begins_cast outer) _ _ _ e
      (λ known found. into_past _ _ _ found λ inner o last. of_type-sound kinds.SizeOfType place from inner b last
      (λ name rest to t m. grammar.Expression.size_of_type starts o t m))
      (λ known found. operand-sound 14 kinds.SizeOfExpr place from outer b found (λ operand to k. grammar.Expression.size_of_expr starts k))

  begun_by-sound : (begin : Start) (place : Place) (from rest : Input) (b : Begun) → grammar.Starts from begin place rest
      → reading.begun_by limit n begin place rest ≡ Some b → SoundBegun limit b.level from b
  begun_by-sound (operators.Integer constant) place from rest b starts e =
      own_level limit 15 from b (made-sound limit 15 place (kinds.Integer constant) from rest b e (grammar.Expression.integer starts))
  begun_by-sound (operators.Character constant) place from rest b starts e =
      own_level limit 15 from b (made-sound limit 15 place (kinds.Character constant) from rest b e (grammar.Expression.character starts))
  begun_by-sound operators.NullPointer place from rest b starts e =
      own_level limit 15 from b (made-sound limit 15 place kinds.NullPointer from rest b e (grammar.Expression.null_pointer starts))
  begun_by-sound (operators.Ordinary text) place from rest b starts e = into_either (mark marks.OpenParenthesis rest) _ _ _ e
      (λ none found. own_level limit 15 from b (made-sound limit 15 place (kinds.Name text) from rest b found (grammar.Expression.name starts)))
      (λ inner o found. own_level limit 15 from b (call-sound (kinds.Call text) place from inner b found (λ arguments to a. grammar.Expression.call starts o a)))
  begun_by-sound (operators.Operation operation) place from rest b starts e = into_past _ _ _ e λ inner o found.
      own_level limit 15 from b (call-sound (kinds.Atomic operation) place from inner b found (λ arguments to a. grammar.Expression.atomic starts o a))
  begun_by-sound operators.Parenthesis place from rest b starts e = into_if (begins_type rest) _ _ _ e
      (λ known found. own_level limit 13 from b (cast-sound place from rest b starts found)) (λ known found. own_level limit 15 from b (parenthesized-sound place from rest b starts found))
  begun_by-sound (operators.Prefix operator) place from rest b starts e =
      own_level limit 14 from b (operand-sound 14 (kinds.Prefix operator) place from rest b e (λ operand to k. grammar.Expression.prefix starts k))
  begun_by-sound (operators.Unary operator) place from rest b starts e =
      own_level limit 14 from b (operand-sound 13 (kinds.Unary operator) place from rest b e (λ operand to k. grammar.Expression.unary starts k))
  begun_by-sound operators.SizeOf place from rest b starts e = own_level limit 14 from b (size_of-sound place from rest b starts e)
  begun_by-sound operators.AlignOf place from rest b starts e = into_past _ _ _ e λ inner o found.
      own_level limit 14 from b (of_type-sound kinds.AlignOf place from inner b found (λ name after to t m. grammar.Expression.align_of starts o t m))
  begun_by-sound operators.Nothing place from rest b starts e = absurd (none-some b e)

  begun-sound : (from : Input) (b : Begun) → begun limit n from ≡ Some b → SoundBegun limit b.level from b
  unfolding begun
  begun-sound from b e = into _ (start from) _ e λ first starts found. begun_by-sound first.start first.place from first.rest b starts found

  joined-sound : (level right : ℕ) (kind : Expr → ExprKind) (place : Place) (from inner : Input) (b : Begun)
      → reading.joined limit n level right kind place inner ≡ Some b
      → ((second : Expr) (to : Input) → Expression right inner second to → Expression level from (node place (kind second)) to)
      → SoundBegun limit level from b
  unfolding reading.joined
  joined-sound level right kind place from inner b e k = into_onward (n.expression right inner) _ _ e λ second to o found.
      made-sound limit level place (kind second) from to b found (k second to (inner-sound right inner second to o))

  conditional-sound : (from : Input) (test : Expr) (before inner : Input) (b : Begun) → Expression 3 from test before
      → grammar.Continues before operators.Question inner → reading.conditional limit n test inner ≡ Some b → SoundBegun limit 2 from b
  unfolding reading.conditional
  conditional-sound from test before inner b t c e = into_onward (n.expression 0 inner) _ _ e λ first colon a found.
      into_past _ _ _ found λ rest m last. joined-sound 2 2 (kinds.Conditional test first) test.place from rest b last
      (λ second to o. grammar.Expression.conditional t c (inner-sound 0 inner first colon a) m o)

  subscript-sound : (from : Input) (array : Expr) (before inner : Input) (b : Begun) → Expression 15 from array before
      → grammar.Continues before operators.Subscript inner → reading.subscript limit n array inner ≡ Some b → SoundBegun limit 15 from b
  unfolding reading.subscript
  subscript-sound from array before inner b l c e = into_onward (n.expression 0 inner) _ _ e λ index close k found.
      into_past _ _ _ found λ to m last. made-sound limit 15 array.place (kinds.Subscript array index) from to b last
      (grammar.Expression.subscript l c (inner-sound 0 inner index close k) m)

  member-sound : (kind : Name → ExprKind) (place : Place) (from inner : Input) (b : Begun) → reading.member limit n kind place inner ≡ Some b
      → ((named : Named) → identifier inner ≡ Some named → Expression 15 from (node place (kind named.name)) named.rest)
      → SoundBegun limit 15 from b
  unfolding reading.member
  member-sound kind place from inner b e k = into _ (identifier inner) _ e λ named i found.
      made-sound limit 15 place (kind named.name) from named.rest b found (k named i)

  grown-sound : (operator : operators.Infix) (from : Input) (left : Expr) (before inner : Input) (b : Begun)
      → Expression (left_level operator) from left before → grammar.Continues before operator inner
      → grown limit n operator left inner ≡ Some b → SoundBegun limit (level_of operator) from b
  grown-sound operators.Subscript from left before inner b l c e = subscript-sound from left before inner b l c e
  grown-sound operators.Member from left before inner b l c e =
      member-sound (kinds.Member left) left.place from inner b e (λ named i. grammar.Expression.member l c i)
  grown-sound operators.PointerMember from left before inner b l c e =
      member-sound (kinds.PointerMember left) left.place from inner b e (λ named i. grammar.Expression.pointer_member l c i)
  grown-sound (operators.Step operator) from left before inner b l c e =
      made-sound limit 15 left.place (kinds.Postfix left operator) from inner b e (grammar.Expression.postfix l c)
  grown-sound (operators.Binary operator) from left before inner b l c e =
      joined-sound (binary_level operator) (binary_level operator + 1) (kinds.Binary left operator) left.place from inner b e
      (λ second to o. grammar.Expression.binary l c o)
  grown-sound (operators.Logical operator) from left before inner b l c e =
      joined-sound (logical_level operator) (logical_level operator + 1) (kinds.Logical left operator) left.place from inner b e
      (λ second to o. grammar.Expression.logical l c o)
  grown-sound operators.Question from left before inner b l c e = conditional-sound from left before inner b l c e
  grown-sound (operators.Assign operator) from left before inner b l c e =
      joined-sound 1 1 (kinds.Assignment left operator) left.place from inner b e (λ second to o. grammar.Expression.assignment l c o)
  grown-sound operators.Comma from left before inner b l c e =
      joined-sound 0 1 (kinds.Comma left) left.place from inner b e (λ second to o. grammar.Expression.comma l c o)

  -- an operator was taken where it goes on
  goes-on : (wanted : ℕ) (operator : operators.Infix) (level : ℕ) → goes_on wanted operator level ≡ true
      → (wanted ≤ level_of operator) × (left_level operator ≤ level)
  goes-on wanted operator level e = both (nat_le wanted (level_of operator)) (nat_le (left_level operator) level) refl refl e
    where
      both : (a b : Bool) → nat_le wanted (level_of operator) ≡ a → nat_le (left_level operator) level ≡ b → (a && b) ≡ true
          → (wanted ≤ level_of operator) × (left_level operator ≤ level)
      both true true x y z = (le_is _ _ x, le_is _ _ y)
      both true false x y z = absurd (false≢true z)
      both false b x y z = absurd (false≢true z)

  stopped : (wanted : ℕ) (from : Input) (so_far : Begun) (tree : Expr) (to : Input) → SoundBegun limit so_far.level from so_far
      → wanted ≤ so_far.level → ◌≡◌ {A = Option (Expr × Input)} (Some (so_far.tree, so_far.rest)) (Some (tree, to))
      → Expression wanted from tree to × (expression_depth tree ≤ limit)
  stopped wanted from so_far tree to b h same =
      let parts = some_pair_parts so_far.tree tree so_far.rest to same in
      rw (← parts.0, ← parts.1) (loosen wanted so_far.level h b.related, b.shallow)

  climb-sound : (wanted left : ℕ) (from : Input) (so_far : Begun) (tree : Expr) (to : Input) → SoundBegun limit so_far.level from so_far
      → wanted ≤ so_far.level → climb limit n wanted left so_far ≡ Some (tree, to)
      → Expression wanted from tree to × (expression_depth tree ≤ limit)
  unfolding climb
  climb-sound wanted zero from so_far tree to b h e = absurd (none-some _ e)
  climb-sound wanted (suc left) from so_far tree to b h e =
      into_either (behind so_far.rest) _ _ _ e
      (λ none same. stopped wanted from so_far tree to b h same)
      (λ taken c found. into_if (goes_on wanted taken.operator so_far.level) _ _ _ found
      (λ known more. into _ (grown limit n taken.operator so_far.tree taken.rest) _ more λ next g last.
      let levels = goes-on wanted taken.operator so_far.level known in
      let sound = grown-sound taken.operator from so_far.tree so_far.rest taken.rest next
      (loosen (left_level taken.operator) so_far.level levels.1 b.related) c g in
      climb-sound wanted left from next tree to (own_level limit (level_of taken.operator) from next sound)
      (omega (arith, levels, sound.same_level)) last)
      (λ known same. stopped wanted from so_far tree to b h same))

  expression-sound : (wanted : ℕ) (from : Input) (tree : Expr) (to : Input) → expression_with limit n wanted from ≡ Some (tree, to)
      → Expression wanted from tree to × (expression_depth tree ≤ limit)
  unfolding expression_with
  expression-sound wanted from tree to e = into _ (begun limit n from) _ e λ first b found.
      into_if (nat_le wanted first.level) _ _ _ found
      (λ known more. climb-sound wanted (suc (turns first.rest)) from first tree to (begun-sound from first b) (le_is _ _ known) more)
      (λ known none. absurd (none-some _ none))

pub nested-sound : (limit room : ℕ) → SoundNested limit (nested limit room)
unfolding nested
nested-sound limit zero = record {
  expressions = record { sound = λ level from tree to e. absurd (none-some _ e) };
  types = λ from name to e. absurd (none-some _ e);
}
nested-sound limit (suc room) =
    let s = nested-sound limit room in
    record {
      expressions = record { sound = λ level from tree to e. expression-sound limit (nested limit room) s level from tree to e };
      types = λ from name to e. type-sound limit (nested limit room).expression s.expressions from name to e;
    }
