-- Attributes that the grammar relates are what is read, and what is read is related.
use Rattle.std.proofs.Common.{◌≡◌, ℕ, zero, suc, ◌≤◌, ◌<◌, List, [], ◌∷◌, ◌++◌, Some, None, refl, arith}
use Rattle.std.proofs.lemmas.Option.{none-some}
use Rattle.c_lexer.specs.declared.punctuator.Punctuator.TheVariants as marks
use Rattle.c_syntax.specs.declared.attribute.Attribute.{Attribute}
use Rattle.c_syntax.specs.declared.attribute.AttributeText.{AttributeText}
use Rattle.c_grammar.specs.Input.{Input, mark, identifier}
use Rattle.c_grammar.specs.Attributes as grammar
use Rattle.c_grammar.specs.Attributes.{ReadText, string, kept, Texts, Clause, Single, Group, Attributes}
use Rattle.c_grammar.specs.Reading.{turns, texts_from, clause_inside, clause, single, group_from, attributes_from, attributes}
use Rattle.std.proofs.lemmas.Option.{some_pair_parts}
use Rattle.c_grammar.proofs.Steps.{into, into_onward, into_past, into_either}
use Rattle.c_grammar.proofs.Terminals.{mark-turns, identifier-turns, string-turns, other_mark, no_mark_at_string}

-- ---- something is left behind

pub texts-turns : {from : Input} {texts : List AttributeText} {to : Input} → Texts from texts to → turns to < turns from
texts-turns (grammar.Texts.last {from = from} {read = read} {to = to} s m) =
    omega (arith, string-turns from read s, mark-turns _ read.rest to m)
texts-turns (grammar.Texts.more {from = from} {read = read} {behind = behind} s m others) =
    omega (arith, string-turns from read s, mark-turns _ read.rest behind m, texts-turns others)

pub clause-turns : {from : Input} {texts : List AttributeText} {to : Input} → Clause from texts to → turns to ≤ turns from
clause-turns grammar.Clause.none = omega arith
clause-turns (grammar.Clause.empty {from = from} {behind = behind} {to = to} o c) =
    omega (arith, mark-turns _ from behind o, mark-turns _ behind to c)
clause-turns (grammar.Clause.some {from = from} {behind = behind} o texts) =
    omega (arith, mark-turns _ from behind o, texts-turns texts)

pub single-turns : {from : Input} {one : List Attribute} {to : Input} → Single from one to → turns to < turns from
single-turns (grammar.Single.unprefixed {from = from} {name = name} n c) =
    omega (arith, identifier-turns from name n, clause-turns c)
single-turns (grammar.Single.prefixed {from = from} {prefix = prefix} {behind = behind} {name = name} p m n c) =
    omega (arith, identifier-turns from prefix p, mark-turns _ prefix.rest behind m, identifier-turns behind name n, clause-turns c)

pub group-turns : {from : Input} {group : List Attribute} {to : Input} → Group from group to → turns to < turns from
group-turns (grammar.Group.last {behind = behind} {inner = inner} {to = to} s a b) =
    omega (arith, single-turns s, mark-turns _ behind inner a, mark-turns _ inner to b)
group-turns (grammar.Group.more {behind = behind} {inner = inner} s c others) =
    omega (arith, single-turns s, mark-turns _ behind inner c, group-turns others)

pub attributes-turns : {from : Input} {list : List Attribute} {to : Input} → Attributes from list to → turns to ≤ turns from
attributes-turns grammar.Attributes.none = omega arith
attributes-turns (grammar.Attributes.more {from = from} {outer = outer} {inner = inner} a b group others) =
    omega (arith, mark-turns _ from outer a, mark-turns _ outer inner b, group-turns group, attributes-turns others)

-- ---- what is related is read

pub texts-read : {from : Input} {texts : List AttributeText} {to : Input} → Texts from texts to → (left : ℕ) → turns from ≤ left
    → texts_from left from ≡ Some (texts, to)
unfolding texts_from
texts-read (grammar.Texts.last {from = from} {read = read} {to = to} s m) zero h =
    absurd (omega (arith, string-turns from read s))
texts-read (grammar.Texts.last {from = from} {read = read} {to = to} s m) (suc left) h =
    rw (s, other_mark _ marks.Comma read.rest to m refl, m) refl
texts-read (grammar.Texts.more {from = from} {read = read} {behind = behind} s m others) zero h =
    absurd (omega (arith, string-turns from read s))
texts-read (grammar.Texts.more {from = from} {read = read} {behind = behind} s m others) (suc left) h =
    rw (s, m, texts-read others left (omega (arith, string-turns from read s, mark-turns _ read.rest behind m))) refl

pub clause-read : {from : Input} {texts : List AttributeText} {to : Input} → Clause from texts to
    → mark marks.OpenParenthesis to ≡ None → clause from ≡ Some (texts, to)
unfolding clause clause_inside
clause-read grammar.Clause.none ends = rw ends refl
clause-read (grammar.Clause.empty o c) ends = rw (o, c) refl
clause-read (grammar.Clause.some {from = from} {behind = behind} o (grammar.Texts.last {read = read} s m)) ends =
    rw (o, no_mark_at_string marks.CloseParenthesis behind read s, texts-read (grammar.Texts.last s m) (turns behind) (omega arith)) refl
clause-read (grammar.Clause.some {from = from} {behind = behind} o (grammar.Texts.more {read = read} s m others)) ends =
    rw (o, no_mark_at_string marks.CloseParenthesis behind read s, texts-read (grammar.Texts.more s m others) (turns behind) (omega arith)) refl

no_colons : {from : Input} {texts : List AttributeText} {to : Input} → Clause from texts to → mark marks.DoubleColon to ≡ None
    → mark marks.DoubleColon from ≡ None
no_colons grammar.Clause.none ends = ends
no_colons (grammar.Clause.empty {from = from} {behind = behind} o c) ends = other_mark _ marks.DoubleColon from behind o refl
no_colons (grammar.Clause.some {from = from} {behind = behind} o texts) ends = other_mark _ marks.DoubleColon from behind o refl

pub single-read : {from : Input} {one : List Attribute} {to : Input} → Single from one to → mark marks.OpenParenthesis to ≡ None
    → mark marks.DoubleColon to ≡ None → single from ≡ Some (one, to)
unfolding single
single-read (grammar.Single.unprefixed n c) open_ends colon_ends = rw (n, no_colons c colon_ends, clause-read c open_ends) refl
single-read (grammar.Single.prefixed p m n c) open_ends colon_ends = rw (p, m, n, clause-read c open_ends) refl

pub group-read : {from : Input} {group : List Attribute} {to : Input} → Group from group to → (left : ℕ) → turns from ≤ left
    → group_from left from ≡ Some (group, to)
unfolding group_from
group-read (grammar.Group.last s a b) zero h = absurd (omega (arith, single-turns s))
group-read (grammar.Group.last {behind = behind} {inner = inner} s a b) (suc left) h =
    rw (
      single-read s (other_mark _ marks.OpenParenthesis behind inner a refl) (other_mark _ marks.DoubleColon behind inner a refl),
      other_mark _ marks.Comma behind inner a refl,
      a,
      b,
    ) refl
group-read (grammar.Group.more s c others) zero h = absurd (omega (arith, single-turns s))
group-read (grammar.Group.more {behind = behind} {inner = inner} s c others) (suc left) h =
    rw (
      single-read s (other_mark _ marks.OpenParenthesis behind inner c refl) (other_mark _ marks.DoubleColon behind inner c refl),
      c,
      group-read others left (omega (arith, single-turns s, mark-turns _ behind inner c)),
    ) refl

attributes-read_from : {from : Input} {list : List Attribute} {to : Input} → Attributes from list to
    → mark marks.OpenBracket to ≡ None → (left : ℕ) → turns from < left → attributes_from left from ≡ Some (list, to)
unfolding attributes_from
attributes-read_from grammar.Attributes.none ends zero h = absurd (omega (arith, h))
attributes-read_from grammar.Attributes.none ends (suc left) h = rw ends refl
attributes-read_from (grammar.Attributes.more a b group others) ends zero h = absurd (omega (arith, h))
attributes-read_from (grammar.Attributes.more {from = from} {outer = outer} {inner = inner} a b group others) ends (suc left) h =
    rw (
      a,
      b,
      group-read group (turns inner) (omega arith),
      attributes-read_from others ends left
          (omega (arith, mark-turns _ from outer a, mark-turns _ outer inner b, group-turns group)),
    ) refl

pub attributes-read : {from : Input} {list : List Attribute} {to : Input} → Attributes from list to
    → mark marks.OpenBracket to ≡ None → attributes from ≡ Some (list, to)
unfolding attributes
attributes-read {from} a ends = attributes-read_from a ends (suc (turns from)) (omega arith)

-- ---- what is read is related

pub texts-sound : (left : ℕ) (from : Input) (texts : List AttributeText) (to : Input) → texts_from left from ≡ Some (texts, to)
    → Texts from texts to
unfolding texts_from
texts-sound zero from texts to e = absurd (none-some _ e)
texts-sound (suc left) from texts to e = into _ (string from) _ e λ read s found.
    into_either (mark marks.Comma read.rest) _ _ _ found
    (λ _ last. into_past _ _ _ last λ rest m same.
    let parts = some_pair_parts (read.text ∷ []) texts rest to same in
    rw (← parts.0, ← parts.1) (grammar.Texts.last s m))
    (λ inner c more. into_onward (texts_from left inner) _ _ more λ others rest known same.
    let parts = some_pair_parts (read.text ∷ others) texts rest to same in
    rw (← parts.0, ← parts.1) (grammar.Texts.more s c (texts-sound left inner others rest known)))

clause-sound : (from : Input) (texts : List AttributeText) (to : Input) → clause from ≡ Some (texts, to) → Clause from texts to
unfolding clause clause_inside
clause-sound from texts to e = into_either (mark marks.OpenParenthesis from) _ _ _ e
    (λ none same. let parts = some_pair_parts [] texts from to same in rw (← parts.0, ← parts.1) grammar.Clause.none)
    (λ inner o more. into_either (mark marks.CloseParenthesis inner) _ _ _ more
    (λ none found. grammar.Clause.some o (texts-sound (turns inner) inner texts to found))
    (λ rest c same. let parts = some_pair_parts [] texts rest to same in rw (← parts.0, ← parts.1) (grammar.Clause.empty o c)))

single-sound : (from : Input) (one : List Attribute) (to : Input) → single from ≡ Some (one, to) → Single from one to
unfolding single
single-sound from one to e = into _ (identifier from) _ e λ first n more.
    into_either (mark marks.DoubleColon first.rest) _ _ _ more
    (λ none found. into_onward (clause first.rest) _ _ found λ texts rest c same.
    let parts = some_pair_parts [] one rest to same in
    rw (← parts.0, ← parts.1) (grammar.Single.unprefixed n (clause-sound first.rest texts rest c)))
    (λ inner m found. into _ (identifier inner) _ found λ second k last.
    into_onward (clause second.rest) _ _ last λ texts rest c same.
    let parts = some_pair_parts (kept first.name second.name texts) one rest to same in
    rw (← parts.0, ← parts.1) (grammar.Single.prefixed n m k (clause-sound second.rest texts rest c)))

group-sound : (left : ℕ) (from : Input) (group : List Attribute) (to : Input) → group_from left from ≡ Some (group, to) → Group from group to
unfolding group_from
group-sound zero from group to e = absurd (none-some _ e)
group-sound (suc left) from group to e = into_onward (single from) _ _ e λ one rest s found.
    into_either (mark marks.Comma rest) _ _ _ found
    (λ none last. into_past _ _ _ last λ inner a more. into_past _ _ _ more λ end b same.
    let parts = some_pair_parts one group end to same in
    rw (← parts.0, ← parts.1) (grammar.Group.last (single-sound from one rest s) a b))
    (λ inner c more. into_onward (group_from left inner) _ _ more λ others end known same.
    let parts = some_pair_parts (one ++ others) group end to same in
    rw (← parts.0, ← parts.1) (grammar.Group.more (single-sound from one rest s) c (group-sound left inner others end known)))

attributes-sound_from : (left : ℕ) (from : Input) (list : List Attribute) (to : Input) → attributes_from left from ≡ Some (list, to)
    → Attributes from list to
unfolding attributes_from
attributes-sound_from zero from list to e = absurd (none-some _ e)
attributes-sound_from (suc left) from list to e = into_either (mark marks.OpenBracket from) _ _ _ e
    (λ none same. let parts = some_pair_parts [] list from to same in rw (← parts.0, ← parts.1) grammar.Attributes.none)
    (λ outer a found. into_past _ _ _ found λ inner b more. into_onward (group_from (turns inner) inner) _ _ more λ group rest g last.
    into_onward (attributes_from left rest) _ _ last λ others end known same.
    let parts = some_pair_parts (group ++ others) list end to same in
    rw (← parts.0, ← parts.1) (grammar.Attributes.more a b (group-sound (turns inner) inner group rest g)
    (attributes-sound_from left rest others end known)))

pub attributes-sound : (from : Input) (list : List Attribute) (to : Input) → attributes from ≡ Some (list, to) → Attributes from list to
unfolding attributes
attributes-sound from list to e = attributes-sound_from (suc (turns from)) from list to e
