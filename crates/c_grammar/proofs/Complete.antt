-- Every expression and every type that the grammar relates is what is read, where it is no deeper than the limit.
use Rattle.std.proofs.Common.{◌≡◌, ℕ, zero, suc, ◌+◌, ◌≤◌, ◌<◌, Bool, true, false, List, [], ◌∷◌, map, Some, None, refl, ◌∙◌, arith, rules}
use denote.Enum.Bare.{sameb}
use Rattle.std.proofs.lemmas.Bool.{false≢true}
use Rattle.c_lexer.specs.contracts.punctuator.Punctuator as punctuator
use Rattle.std.specs.Prelude.{IsTrue}
use Rattle.c_lexer.specs.declared.keyword.Keyword.{Keyword}
use Rattle.c_lexer.specs.declared.punctuator.Punctuator.{Punctuator}
use Rattle.c_lexer.specs.declared.punctuator.Punctuator.TheVariants as marks
use Rattle.c_syntax.specs.declared.specifier.TypeSpecifier.{TypeSpecifier}
use Rattle.c_syntax.specs.declared.specifier.RecordKind.TheVariants as records
use Rattle.c_syntax.specs.declared.specifier.Enumerator.{Enumerator}
use Rattle.c_syntax.specs.declared.expr.Expr.{Expr}
use Rattle.c_syntax.specs.declared.expr.ExprKind.TheVariants as kinds
use Rattle.c_syntax.specs.declared.expr.TypeName.{TypeName}
use Rattle.c_syntax.specs.Depth.{expression_depth, specifier_depth, deepest, array_depth}
use Rattle.c_grammar.specs.Input.{Input, mark}
use Rattle.c_grammar.specs.Operators as operators
use Rattle.c_grammar.specs.Operators.{behind, level_of, left_level}
use Rattle.c_grammar.specs.Specifiers as types
use Rattle.c_grammar.specs.Specifiers.{word, is_specifier_word, is_modifier, is_qualifier, Words, Pointers}
use Rattle.c_grammar.specs.Expressions as grammar
use Rattle.c_grammar.specs.Expressions.{node, Expression, Arguments, ArgumentList, Lengths, TypeNamed, Specified, SingleType, Enumerators, Constant}
use Rattle.c_grammar.specs.Depths.{type_name_depth, enumerator_depth}
use Rattle.c_grammar.specs.Reading as reading
use Rattle.c_grammar.specs.Reading.{turns, nested, expression_with}
use Rattle.c_grammar.proofs.Depths.{depth-Parenthesized, depth-Subscript, depth-Call, depth-Atomic, depth-Member, depth-PointerMember, depth-Postfix, depth-Prefix, depth-Unary, depth-SizeOfExpr, depth-SizeOfType, depth-AlignOf, depth-Cast, depth-Binary, depth-Logical, depth-Conditional, depth-Assignment, depth-Comma, depth-type_name, depth-Enumerator, depth-Enumeration}
use Rattle.c_grammar.proofs.Terminals.{NextIs, next_is, no_mark_at, no_word_at, other_mark, mark-turns, identifier-turns, no_mark_at_identifier}
use Rattle.c_grammar.proofs.AttributesRead.{attributes-read}
use Rattle.c_grammar.proofs.TypesRead.{no-other, no_mark_at_word, modifier-specifier, pointers-read}
use Rattle.c_grammar.proofs.Sizes.{expression-turns, constant-turns, expression-deep}
use Rattle.c_grammar.proofs.ExpressionsRead as read
use Rattle.c_grammar.proofs.ExpressionsRead.{Follows, Ends, EndsType, ends-follows, follows-tighter, ends_at, ends_at_comma, follows_before, settled, settles_tighter, settles_1, settles_2, settles_unary, no_type_here, no_mark_here, no_cast_here, specified-deep, single_here, type_here, binary-levels, logical-levels}

-- the nodes of an enumeration's values lie inside the type
deepest-cons : {A : Type 0} (f : A → ℕ) (x : A) (xs : List A) (n : ℕ) → deepest (map f (x ∷ xs)) ≤ n → (f x ≤ n) × (deepest (map f xs) ≤ n)
deepest-cons f x xs n h = omega (arith, h)

-- lengths lie inside the type, and so does what the array is of
array-least : (lengths : List Expr) (element : ℕ) → element ≤ array_depth (map expression_depth lengths) element
array-least [] element = omega arith
array-least (length ∷ lengths) element = omega (arith, array-least lengths element)

pub array-within : (lengths : List Expr) (element n : ℕ) → array_depth (map expression_depth lengths) element ≤ n
    → (deepest (map expression_depth lengths) ≤ n) × (element ≤ n)
array-within [] element n h = omega (arith, h)
array-within (length ∷ lengths) element n h =
    let inner = array-within lengths element n (omega (arith, h)) in omega (arith, h, inner)

pub is_true : {b : Bool} → IsTrue b → b ≡ true
is_true h = search rules

array-inside : (lengths : List Expr) (element n : ℕ) → array_depth (map expression_depth lengths) element ≤ suc n → 1 ≤ element
    → (deepest (map expression_depth lengths) ≤ n) × (element ≤ suc n)
array-inside [] element n h some = omega (arith, h)
array-inside (length ∷ lengths) element n h some =
    let inner = array-inside lengths element n (omega (arith, h)) some in omega (arith, h, inner)

-- an end for one category is one for tighter ones
looser_end : (level more : ℕ) (from : Input) → level ≤ more → Ends level from → Ends more from
looser_end level more from h e = record { opens = e.opens; operator = λ found is. omega (arith, h, e.operator found is) }

-- behind the right operand of an operator that groups to the left
next_end : (level : ℕ) (from : Input) → Follows level from → Ends (level + 1) from
next_end level from f = let e = settled level (suc level) from (settles_tighter level) f in
    record { opens = e.opens; operator = λ found is. omega (arith, e.operator found is) }

-- an argument begins with no closing parenthesis
no_close : {from : Input} {arguments : List Expr} {to : Input} → ArgumentList from arguments to → mark marks.CloseParenthesis from ≡ None
no_close (grammar.ArgumentList.last_argument e m) = no_mark_here marks.CloseParenthesis refl e
no_close (grammar.ArgumentList.more_arguments e m others) = no_mark_here marks.CloseParenthesis refl e

-- a constant of an enumeration begins with no closing brace
no_brace_here : {from : Input} {one : Enumerator} {to : Input} → Constant from one to → mark marks.CloseBrace from ≡ None
no_brace_here (grammar.Constant.implicit {from = from} {named = named} n) = no_mark_at_identifier marks.CloseBrace from named n
no_brace_here (grammar.Constant.valued {from = from} {named = named} n m e) = no_mark_at_identifier marks.CloseBrace from named n

no_brace_before : {from : Input} {list : List Enumerator} {to : Input} → Enumerators from list to → mark marks.CloseBrace from ≡ None
no_brace_before (grammar.Enumerators.last_constant c m) = no_brace_here c
no_brace_before (grammar.Enumerators.trailing_comma c m n) = no_brace_here c
no_brace_before (grammar.Enumerators.more_constants c m others) = no_brace_here c

-- behind a type's own words, where modifiers may follow
pub no_brace : {from : Input} {words : List Keyword} {to : Input} → Words is_modifier from words to → mark marks.OpenBrace to ≡ None
    → mark marks.OpenBrace from ≡ None
no_brace types.Words.none ends = ends
no_brace (types.Words.more {from = from} {taken = taken} w others) ends = no_mark_at_word marks.OpenBrace is_modifier from taken w

-- what stands behind a constant of an enumeration
abbrev ends_constant : Punctuator → Bool
ends_constant marks.Comma = true
ends_constant marks.CloseBrace = true
ends_constant _ = false

not_assign : (p : Punctuator) → ends_constant p ≡ true → sameb punctuator.the_type marks.Assign p ≡ false
not_assign marks.Comma e = refl
not_assign marks.CloseBrace e = refl
not_assign _ e = absurd (false≢true e)

constant_ends : (p : Punctuator) (from : Input) → NextIs p from.tokens → ends_constant p ≡ true → Ends 2 from
constant_ends marks.Comma from n e = ends_at_comma 2 from n (omega arith)
constant_ends marks.CloseBrace from n e = ends_at 2 marks.CloseBrace from n refl refl
constant_ends _ from n e = absurd (false≢true e)

-- what stands behind a declarator without a name, and what may stand at its beginning
abbrev ends_type : Punctuator → Bool
ends_type marks.CloseParenthesis = true
ends_type marks.OpenBracket = true
ends_type _ = false

abbrev begins_declarator : Punctuator → Bool
begins_declarator marks.CloseParenthesis = true
begins_declarator marks.OpenBracket = true
begins_declarator marks.Star = true
begins_declarator _ = false

not_star : (p : Punctuator) → ends_type p ≡ true → (sameb punctuator.the_type marks.Star p ≡ false) × (begins_declarator p ≡ true)
not_star marks.CloseParenthesis e = (refl, refl)
not_star marks.OpenBracket e = (refl, refl)
not_star _ e = absurd (false≢true e)

not_brace : (p : Punctuator) → begins_declarator p ≡ true → sameb punctuator.the_type marks.OpenBrace p ≡ false
not_brace marks.CloseParenthesis e = refl
not_brace marks.OpenBracket e = refl
not_brace marks.Star e = refl
not_brace _ e = absurd (false≢true e)

-- one of some punctuators stands next
record AtMark (test : Punctuator → Bool) (from : Input) : Type 0 where
  punctuator : Punctuator
  next : NextIs punctuator from.tokens
  passes : test punctuator ≡ true

before_lengths : {from : Input} {lengths : List Expr} {to : Input} → Lengths from lengths to → NextIs marks.CloseParenthesis to.tokens → AtMark ends_type from
before_lengths grammar.Lengths.no_length n = record { punctuator = marks.CloseParenthesis; next = n; passes = refl }
before_lengths (grammar.Lengths.more_lengths {from = from} {inner = inner} o e m others) n =
    record { punctuator = marks.OpenBracket; next = next_is marks.OpenBracket from inner o; passes = refl }

before_pointers : {from : Input} {count : ℕ} {to : Input} → Pointers from count to → AtMark ends_type to → AtMark begins_declarator from
before_pointers types.Pointers.none a = record { punctuator = a.punctuator; next = a.next; passes = (not_star a.punctuator a.passes).1 }
before_pointers (types.Pointers.more {from = from} {behind = behind} m w others) a =
    record { punctuator = marks.Star; next = next_is marks.Star from behind m; passes = refl }

ends_words : (from : Input) → AtMark begins_declarator from → EndsType from
ends_words from a = record {
  words = no_word_at a.punctuator is_specifier_word from a.next;
  brace = no_mark_at a.punctuator marks.OpenBrace from a.next (not_brace a.punctuator a.passes);
}

module _ (limit : ℕ) where
  -- what an expression's derivation gives
  abbrev pub Reads : ℕ → Input → Expr → Input → Type 0
  Reads level from tree to = (room wanted : ℕ) → expression_depth tree ≤ suc room → expression_depth tree ≤ limit → wanted ≤ level
      → Follows level to → read.Climbs limit room wanted from tree level to

  -- a part of an expression
  pub part : (level : ℕ) (from : Input) (tree : Expr) (to : Input) → Expression level from tree to → Reads level from tree to → (room : ℕ)
      → expression_depth tree ≤ room → expression_depth tree ≤ limit → Ends level to
      → (nested limit room).expression level from ≡ Some (tree, to)
  part level from tree to e reads room deep within ends =
      read.full limit level from tree to (λ r h. reads r level h within (omega arith) (ends-follows level to ends)) room deep
      (expression-deep e) ends

  mutual
    pub complete : {level : ℕ} {from : Input} {tree : Expr} {to : Input} → Expression level from tree to → (room wanted : ℕ)
        → expression_depth tree ≤ suc room → expression_depth tree ≤ limit → wanted ≤ level → Follows level to
        → read.Climbs limit room wanted from tree level to
    complete (grammar.Expression.looser {level = level} {to = to} e) room wanted deep within h f =
        read.loosened limit room wanted _ _ level to
        (complete e room wanted deep within (omega arith) (follows-tighter level (suc level) to (omega arith) f))
    complete (grammar.Expression.integer {from = from} {constant = c} {place = place} {to = to} s) room wanted deep within h f =
        read.begins_climb limit room wanted 15 from _ to
        (read.begun_start limit (nested limit room) from _ place to s ∙ read.made_is limit 15 place (kinds.Integer c) to within) h
    complete (grammar.Expression.character {from = from} {constant = c} {place = place} {to = to} s) room wanted deep within h f =
        read.begins_climb limit room wanted 15 from _ to
        (read.begun_start limit (nested limit room) from _ place to s ∙ read.made_is limit 15 place (kinds.Character c) to within) h
    complete (grammar.Expression.null_pointer {from = from} {place = place} {to = to} s) room wanted deep within h f =
        read.begins_climb limit room wanted 15 from _ to
        (read.begun_start limit (nested limit room) from _ place to s ∙ read.made_is limit 15 place kinds.NullPointer to within) h
    complete (grammar.Expression.name {from = from} {text = text} {place = place} {to = to} s) room wanted deep within h f =
        read.begins_climb limit room wanted 15 from _ to
        (read.begun_start limit (nested limit room) from _ place to s
        ∙ read.name_is limit (nested limit room) text place to f.opens within) h
    complete (grammar.Expression.parenthesized {from = from} {place = place} {inner = inner} {tree = tree} {behind = rest} {to = to} s e m)
        room wanted deep within h f =
        let d = depth-Parenthesized place tree in
        read.begins_climb limit room wanted 15 from _ to
        (read.begun_start limit (nested limit room) from _ place inner s
        ∙ read.parenthesized_is limit (nested limit room) place inner tree rest to (no_type_here e)
        (part 0 inner tree rest e (λ r w. complete e r w) room (omega (arith, d, deep)) (omega (arith, d, within))
        (ends_at 0 _ rest (next_is _ rest to m) refl refl)) m within) h
    complete (grammar.Expression.call {from = from} {text = text} {place = place} {behind = rest} {inner = inner} {arguments = args} {to = to} s m a)
        room wanted deep within h f =
        let d = depth-Call place text args in
        read.begins_climb limit room wanted 15 from _ to
        (read.begun_start limit (nested limit room) from _ place rest s
        ∙ read.called_is limit (nested limit room) text place rest inner args to m
        (arguments-read a room (omega (arith, d, deep)) (omega (arith, d, within))) within) h
    complete (grammar.Expression.atomic {from = from} {operation = o} {place = place} {behind = rest} {inner = inner} {arguments = args} {to = to} s m a)
        room wanted deep within h f =
        let d = depth-Atomic place o args in
        read.begins_climb limit room wanted 15 from _ to
        (read.begun_start limit (nested limit room) from _ place rest s
        ∙ read.atomic_is limit (nested limit room) o place rest inner args to m
        (arguments-read a room (omega (arith, d, deep)) (omega (arith, d, within))) within) h
    complete (grammar.Expression.subscript {from = from} {array = array} {behind = before} {inner = inner} {index = index} {close = close} {to = to} l c e m)
        room wanted deep within h f =
        let d = depth-Subscript array.place array index in
        read.grows limit room wanted from array _ 15 operators.Subscript before inner to
        (complete l room wanted (omega (arith, d, deep)) (omega (arith, d, within)) h (follows_before before _ c)) c h (omega arith)
        (read.subscript_is limit (nested limit room) array inner index close to
        (part 0 inner index close e (λ r w. complete e r w) room (omega (arith, d, deep)) (omega (arith, d, within))
        (ends_at 0 _ close (next_is _ close to m) refl refl)) m within)
        (omega (arith, expression-turns e, mark-turns _ close to m))
    complete (grammar.Expression.member {from = from} {object = object} {behind = before} {inner = inner} {named = named} l c n)
        room wanted deep within h f =
        let d = depth-Member object.place object named.name in
        read.grows limit room wanted from object _ 15 operators.Member before inner named.rest
        (complete l room wanted (omega (arith, d, deep)) (omega (arith, d, within)) h (follows_before before _ c)) c h (omega arith)
        (read.member_is limit (nested limit room) (kinds.Member object) object.place inner named n within)
        (omega (arith, identifier-turns inner named n))
    complete (grammar.Expression.pointer_member {from = from} {pointer = object} {behind = before} {inner = inner} {named = named} l c n)
        room wanted deep within h f =
        let d = depth-PointerMember object.place object named.name in
        read.grows limit room wanted from object _ 15 operators.PointerMember before inner named.rest
        (complete l room wanted (omega (arith, d, deep)) (omega (arith, d, within)) h (follows_before before _ c)) c h (omega arith)
        (read.member_is limit (nested limit room) (kinds.PointerMember object) object.place inner named n within)
        (omega (arith, identifier-turns inner named n))
    complete (grammar.Expression.postfix {from = from} {operand = operand} {behind = before} {operator = o} {to = to} l c)
        room wanted deep within h f =
        let d = depth-Postfix operand.place operand o in
        read.grows limit room wanted from operand _ 15 (operators.Step o) before to to
        (complete l room wanted (omega (arith, d, deep)) (omega (arith, d, within)) h (follows_before before _ c)) c h (omega arith)
        (read.made_is limit 15 operand.place (kinds.Postfix operand o) to within) (omega arith)
    complete (grammar.Expression.prefix {from = from} {operator = o} {place = place} {inner = inner} {operand = operand} {to = to} s e)
        room wanted deep within h f =
        let d = depth-Prefix place o operand in
        read.begins_climb limit room wanted 14 from _ to
        (read.begun_start limit (nested limit room) from _ place inner s
        ∙ read.operand_is limit (nested limit room) 14 (kinds.Prefix o) place inner operand to
        (part 14 inner operand to e (λ r w. complete e r w) room (omega (arith, d, deep)) (omega (arith, d, within))
        (looser_end 13 14 to (omega arith) (settled 14 13 to (settles_unary 14 (omega arith) (omega arith)) f))) within) h
    complete (grammar.Expression.unary {from = from} {operator = o} {place = place} {inner = inner} {operand = operand} {to = to} s e)
        room wanted deep within h f =
        let d = depth-Unary place o operand in
        read.begins_climb limit room wanted 14 from _ to
        (read.begun_start limit (nested limit room) from _ place inner s
        ∙ read.operand_is limit (nested limit room) 13 (kinds.Unary o) place inner operand to
        (part 13 inner operand to e (λ r w. complete e r w) room (omega (arith, d, deep)) (omega (arith, d, within))
        (settled 14 13 to (settles_unary 14 (omega arith) (omega arith)) f)) within) h
    complete (grammar.Expression.size_of_expr {from = from} {place = place} {inner = inner} {operand = operand} {to = to} s e)
        room wanted deep within h f =
        let d = depth-SizeOfExpr place operand in
        read.begins_climb limit room wanted 14 from _ to
        (read.begun_start limit (nested limit room) from _ place inner s
        ∙ read.size_of_expr_is limit (nested limit room) place inner operand to (no_cast_here e (omega arith))
        (part 14 inner operand to e (λ r w. complete e r w) room (omega (arith, d, deep)) (omega (arith, d, within))
        (looser_end 13 14 to (omega arith) (settled 14 13 to (settles_unary 14 (omega arith) (omega arith)) f))) within) h
    complete (grammar.Expression.size_of_type {from = from} {place = place} {outer = outer} {inner = inner} {name = name} {behind = rest} {to = to} s o t m)
        room wanted deep within h f =
        let d = depth-SizeOfType place name in
        read.begins_climb limit room wanted 14 from _ to
        (read.begun_start limit (nested limit room) from _ place outer s
        ∙ read.size_of_type_is limit (nested limit room) place outer inner name rest to o (type_here t)
        (type-read t room to (omega (arith, d, deep)) (omega (arith, d, within)) m) m within) h
    complete (grammar.Expression.align_of {from = from} {place = place} {outer = outer} {inner = inner} {name = name} {behind = rest} {to = to} s o t m)
        room wanted deep within h f =
        let d = depth-AlignOf place name in
        read.begins_climb limit room wanted 14 from _ to
        (read.begun_start limit (nested limit room) from _ place outer s
        ∙ read.align_of_is limit (nested limit room) place outer inner name rest to o
        (type-read t room to (omega (arith, d, deep)) (omega (arith, d, within)) m) m within) h
    complete (grammar.Expression.cast {from = from} {place = place} {inner = inner} {target = target} {behind = behind_target} {rest = rest} {operand = operand} {to = to} s t m e)
        room wanted deep within h f =
        let d = depth-Cast place target operand in
        read.begins_climb limit room wanted 13 from _ to
        (read.begun_start limit (nested limit room) from _ place inner s
        ∙ read.cast_is limit (nested limit room) place inner target behind_target rest operand to (type_here t)
        (type-read t room rest (omega (arith, d, deep)) (omega (arith, d, within)) m) m
        (part 13 rest operand to e (λ r w. complete e r w) room (omega (arith, d, deep)) (omega (arith, d, within))
        (settled 13 13 to (settles_unary 13 (omega arith) (omega arith)) f)) within) h
    complete (grammar.Expression.binary {from = from} {left = left} {behind = before} {operator = o} {inner = inner} {right = right} {to = to} l c r)
        room wanted deep within h f =
        let d = depth-Binary left.place left o right in
        read.grows limit room wanted from left _ (operators.binary_level o) (operators.Binary o) before inner to
        (complete l room wanted (omega (arith, d, deep)) (omega (arith, d, within)) h (follows_before before _ c)) c h (omega arith)
        (read.joined_is limit (nested limit room) (operators.binary_level o) (operators.binary_level o + 1) (kinds.Binary left o) left.place inner right to
        (part (operators.binary_level o + 1) inner right to r (λ q w. complete r q w) room (omega (arith, d, deep)) (omega (arith, d, within))
        (next_end (operators.binary_level o) to f)) within)
        (omega (arith, expression-turns r))
    complete (grammar.Expression.logical {from = from} {left = left} {behind = before} {operator = o} {inner = inner} {right = right} {to = to} l c r)
        room wanted deep within h f =
        let d = depth-Logical left.place left o right in
        read.grows limit room wanted from left _ (operators.logical_level o) (operators.Logical o) before inner to
        (complete l room wanted (omega (arith, d, deep)) (omega (arith, d, within)) h (follows_before before _ c)) c h (omega arith)
        (read.joined_is limit (nested limit room) (operators.logical_level o) (operators.logical_level o + 1) (kinds.Logical left o) left.place inner right to
        (part (operators.logical_level o + 1) inner right to r (λ q w. complete r q w) room (omega (arith, d, deep)) (omega (arith, d, within))
        (next_end (operators.logical_level o) to f)) within)
        (omega (arith, expression-turns r))
    complete (grammar.Expression.conditional {from = from} {test = test} {behind = before} {inner = inner} {then = first} {colon = colon} {rest = rest} {otherwise = second} {to = to} t c a m b)
        room wanted deep within h f =
        let d = depth-Conditional test.place test first second in
        read.grows limit room wanted from test _ 3 operators.Question before inner to
        (complete t room wanted (omega (arith, d, deep)) (omega (arith, d, within)) (omega arith) (follows_before before _ c)) c h (omega arith)
        (read.conditional_is limit (nested limit room) test inner first colon rest second to
        (part 0 inner first colon a (λ q w. complete a q w) room (omega (arith, d, deep)) (omega (arith, d, within))
        (ends_at 0 _ colon (next_is _ colon rest m) refl refl)) m
        (part 2 rest second to b (λ q w. complete b q w) room (omega (arith, d, deep)) (omega (arith, d, within))
        (settled 2 2 to settles_2 f)) within)
        (omega (arith, expression-turns a, mark-turns _ colon rest m, expression-turns b))
    complete (grammar.Expression.assignment {from = from} {target = target} {behind = before} {operator = o} {inner = inner} {value = value} {to = to} l c r)
        room wanted deep within h f =
        let d = depth-Assignment target.place target o value in
        read.grows limit room wanted from target _ 14 (operators.Assign o) before inner to
        (complete l room wanted (omega (arith, d, deep)) (omega (arith, d, within)) (omega arith) (follows_before before _ c)) c h (omega arith)
        (read.joined_is limit (nested limit room) 1 1 (kinds.Assignment target o) target.place inner value to
        (part 1 inner value to r (λ q w. complete r q w) room (omega (arith, d, deep)) (omega (arith, d, within))
        (settled 1 1 to settles_1 f)) within)
        (omega (arith, expression-turns r))
    complete (grammar.Expression.comma {from = from} {first = first} {behind = before} {inner = inner} {second = second} {to = to} l c r)
        room wanted deep within h f =
        let d = depth-Comma first.place first second in
        read.grows limit room wanted from first _ 0 operators.Comma before inner to
        (complete l room wanted (omega (arith, d, deep)) (omega (arith, d, within)) h (follows_before before _ c)) c h (omega arith)
        (read.joined_is limit (nested limit room) 0 1 (kinds.Comma first) first.place inner second to
        (part 1 inner second to r (λ q w. complete r q w) room (omega (arith, d, deep)) (omega (arith, d, within))
        (settled 0 1 to (settles_tighter 0) f)) within)
        (omega (arith, expression-turns r))

    pub arguments-read : {from : Input} {arguments : List Expr} {to : Input} → Arguments from arguments to → (room : ℕ)
        → deepest (map expression_depth arguments) ≤ room → deepest (map expression_depth arguments) ≤ limit
        → reading.arguments limit (nested limit room) from ≡ Some (arguments, to)
    arguments-read (grammar.Arguments.no_argument {from = from} {to = to} m) room deep within =
        read.arguments_none limit (nested limit room) from to m
    arguments-read (grammar.Arguments.some_arguments {from = from} {arguments = args} {to = to} l) room deep within =
        read.arguments_some limit (nested limit room) from args to (no_close l) (list-read l room (turns from) (omega arith) deep within)

    pub list-read : {from : Input} {arguments : List Expr} {to : Input} → ArgumentList from arguments to → (room left : ℕ)
        → turns from ≤ left → deepest (map expression_depth arguments) ≤ room → deepest (map expression_depth arguments) ≤ limit
        → reading.arguments_from limit (nested limit room) left from ≡ Some (arguments, to)
    list-read (grammar.ArgumentList.last_argument e m) room zero h deep within = absurd (omega (arith, h, expression-turns e))
    list-read (grammar.ArgumentList.last_argument {from = from} {argument = argument} {behind = rest} {to = to} e m) room (suc left) h deep within =
        read.last_argument_is limit (nested limit room) left from argument rest to
        (part 1 from argument rest e (λ r w. complete e r w) room (omega (arith, deep)) (omega (arith, within))
        (ends_at 1 _ rest (next_is _ rest to m) refl refl)) m
    list-read (grammar.ArgumentList.more_arguments e m others) room zero h deep within = absurd (omega (arith, h, expression-turns e))
    list-read (grammar.ArgumentList.more_arguments {from = from} {argument = argument} {behind = rest} {inner = inner} {arguments = args} {to = to} e m others)
        room (suc left) h deep within =
        read.more_arguments_are limit (nested limit room) left from argument rest inner args to
        (part 1 from argument rest e (λ r w. complete e r w) room (omega (arith, deep)) (omega (arith, within))
        (ends_at_comma 1 rest (next_is _ rest inner m) (omega arith))) m
        (list-read others room left (omega (arith, h, expression-turns e, mark-turns _ rest inner m)) (omega (arith, deep)) (omega (arith, within)))

    pub lengths-read : {from : Input} {lengths : List Expr} {to : Input} → Lengths from lengths to → (room left : ℕ)
        → turns from < left → deepest (map expression_depth lengths) ≤ room → deepest (map expression_depth lengths) ≤ limit
        → mark marks.OpenBracket to ≡ None
        → reading.lengths_from (nested limit room).expression left from ≡ Some (lengths, to)
    lengths-read grammar.Lengths.no_length room zero h deep within ends = absurd (omega (arith, h))
    lengths-read (grammar.Lengths.no_length {from = from}) room (suc left) h deep within ends =
        read.no_more_lengths (nested limit room).expression left from ends
    lengths-read (grammar.Lengths.more_lengths o e m others) room zero h deep within ends = absurd (omega (arith, h))
    lengths-read (grammar.Lengths.more_lengths {from = from} {inner = inner} {length = length} {close = close} {behind = rest} {lengths = lengths} {to = to} o e m others)
        room (suc left) h deep within ends =
        read.more_lengths_are (nested limit room).expression left from inner length close rest lengths to o
        (part 2 inner length close e (λ r w. complete e r w) room (omega (arith, deep)) (omega (arith, within))
        (ends_at 2 _ close (next_is _ close rest m) refl refl)) m
        (lengths-read others room left (omega (arith, h, mark-turns _ from inner o, expression-turns e, mark-turns _ close rest m))
        (omega (arith, deep)) (omega (arith, within)) ends)

    pub type-read : {from : Input} {name : TypeName} {to : Input} → TypeNamed from name to → (room : ℕ) (after : Input)
        → type_name_depth name ≤ room → type_name_depth name ≤ limit → mark marks.CloseParenthesis to ≡ Some after
        → (nested limit room).type_name from ≡ Some (name, to)
    type-read (grammar.TypeNamed.type_named {specifier = type} {pointers = count} {lengths = lengths} s q p l) zero after deep within m =
        absurd (omega (arith, deep, depth-type_name type count lengths, specified-deep s, array-least lengths (count + specifier_depth type)))
    type-read (grammar.TypeNamed.type_named {from = from} {modifiers = words} {specifier = type} {behind = rest} {pointers = count} {inner = inner} {lengths = lengths} {to = to} s q p l)
        (suc room) after deep within m =
        let d = depth-type_name type count lengths in
        let some = specified-deep s in
        let inside = array-inside lengths (count + specifier_depth type) room (omega (arith, d, deep)) (omega (arith, some)) in
        let bounded = array-within lengths (count + specifier_depth type) limit (omega (arith, d, within)) in
        let n = next_is marks.CloseParenthesis to after m in
        let at = before_lengths l n in
        read.nested_type limit room from _ to
        (read.type_is (nested limit room).expression from words type rest count inner lengths to
        (specified-read s room (omega (arith, inside)) (omega (arith, bounded)) (ends_words rest (before_pointers p at)))
        (is_true q)
        (pointers-read p (no_mark_at at.punctuator marks.Star inner at.next (not_star at.punctuator at.passes).0)
        (no_word_at at.punctuator is_qualifier inner at.next))
        (read.lengths_are (nested limit room).expression inner lengths to
        (lengths-read l room (suc (turns inner)) (omega arith) (omega (arith, inside)) (omega (arith, bounded))
        (no_mark_at marks.CloseParenthesis marks.OpenBracket to n refl))))

    pub specified-read : {from : Input} {words : List Keyword} {type : TypeSpecifier} {to : Input} → Specified from words type to → (room : ℕ)
        → specifier_depth type ≤ suc room → specifier_depth type ≤ limit → EndsType to
        → reading.specified (nested limit room).expression from ≡ Some ((words, type), to)
    specified-read (grammar.Specified.integer_words {from = from} {words = words} {to = to} {type = type} w e) room deep within ends =
        read.integer_is (nested limit room).expression from words to type w e ends.words
    specified-read (grammar.Specified.single_type {from = from} {before = before} {inner = inner} {specifier = type} {behind = rest} {after = after} {to = to} a s b)
        room deep within ends =
        read.single_is (nested limit room).expression from before inner type rest after to a (single_here s).1
        (single-read s room deep within (no_brace b ends.brace)) b (no-other is_modifier is_specifier_word to modifier-specifier ends.words)

    pub single-read : {from : Input} {type : TypeSpecifier} {to : Input} → SingleType from type to → (room : ℕ)
        → specifier_depth type ≤ suc room → specifier_depth type ≤ limit → mark marks.OpenBrace to ≡ None
        → reading.single_type (nested limit room).expression from ≡ Some (type, to)
    single-read (grammar.SingleType.void {from = from} {to = to} s) room deep within ends = read.single_start (nested limit room).expression from _ to s
    single-read (grammar.SingleType.bool {from = from} {to = to} s) room deep within ends = read.single_start (nested limit room).expression from _ to s
    single-read (grammar.SingleType.typedef {from = from} {to = to} s) room deep within ends = read.single_start (nested limit room).expression from _ to s
    single-read (grammar.SingleType.header {from = from} {to = to} s) room deep within ends = read.single_start (nested limit room).expression from _ to s
    single-read (grammar.SingleType.struct {from = from} {outer = outer} {attributes = attributes} {behind = rest} {tag = tag} s a n) room deep within ends =
        read.single_start (nested limit room).expression from _ outer s
        ∙ read.record_is (nested limit room).expression records.Struct outer attributes rest tag
        (attributes-read a (no_mark_at_identifier marks.OpenBracket rest tag n)) n
    single-read (grammar.SingleType.union {from = from} {outer = outer} {attributes = attributes} {behind = rest} {tag = tag} s a n) room deep within ends =
        read.single_start (nested limit room).expression from _ outer s
        ∙ read.record_is (nested limit room).expression records.Union outer attributes rest tag
        (attributes-read a (no_mark_at_identifier marks.OpenBracket rest tag n)) n
    single-read (grammar.SingleType.enum {from = from} {outer = outer} {attributes = attributes} {behind = rest} {tag = tag} s a n) room deep within ends =
        read.single_start (nested limit room).expression from _ outer s
        ∙ read.enum_is (nested limit room).expression outer attributes rest tag
        (attributes-read a (no_mark_at_identifier marks.OpenBracket rest tag n)) n ends
    single-read (grammar.SingleType.enumeration {from = from} {outer = outer} {attributes = attributes} {behind = rest} {tag = tag} {inner = inner} {enumerators = es} {to = to} s a n o e)
        room deep within ends =
        let d = depth-Enumeration attributes (Some tag.name) es in
        read.single_start (nested limit room).expression from _ outer s
        ∙ read.tagged_is (nested limit room).expression outer attributes rest tag inner es to
        (attributes-read a (no_mark_at_identifier marks.OpenBracket rest tag n)) n o
        (constants-read e room (turns inner) (omega arith) (omega (arith, d, deep)) (omega (arith, d, within)))
    single-read (grammar.SingleType.untagged_enumeration {from = from} {outer = outer} {attributes = attributes} {behind = rest} {inner = inner} {enumerators = es} {to = to} s a o e)
        room deep within ends =
        let d = depth-Enumeration attributes None es in
        read.single_start (nested limit room).expression from _ outer s
        ∙ read.untagged_is (nested limit room).expression outer attributes rest inner es to
        (attributes-read a (other_mark _ marks.OpenBracket rest inner o refl)) o
        (constants-read e room (turns inner) (omega arith) (omega (arith, d, deep)) (omega (arith, d, within)))

    pub constants-read : {from : Input} {list : List Enumerator} {to : Input} → Enumerators from list to → (room left : ℕ)
        → turns from ≤ left → deepest (map enumerator_depth list) ≤ room → deepest (map enumerator_depth list) ≤ limit
        → reading.enumerators_from (nested limit room).expression left from ≡ Some (list, to)
    constants-read (grammar.Enumerators.last_constant c m) room zero h deep within = absurd (omega (arith, h, constant-turns c))
    constants-read (grammar.Enumerators.last_constant {from = from} {one = one} {behind = rest} {to = to} c m) room (suc left) h deep within =
        read.last_constant_is (nested limit room).expression left from one rest to
        (constant-read c room (omega (arith, deep)) (omega (arith, within)) marks.CloseBrace (next_is _ rest to m) refl) m
    constants-read (grammar.Enumerators.trailing_comma c m b) room zero h deep within = absurd (omega (arith, h, constant-turns c))
    constants-read (grammar.Enumerators.trailing_comma {from = from} {one = one} {behind = rest} {inner = inner} {to = to} c m b) room (suc left) h deep within =
        read.trailing_comma_is (nested limit room).expression left from one rest inner to
        (constant-read c room (omega (arith, deep)) (omega (arith, within)) marks.Comma (next_is _ rest inner m) refl) m b
    constants-read (grammar.Enumerators.more_constants c m others) room zero h deep within = absurd (omega (arith, h, constant-turns c))
    constants-read (grammar.Enumerators.more_constants {from = from} {one = one} {behind = rest} {inner = inner} {others = list} {to = to} c m others)
        room (suc left) h deep within =
        read.more_constants_are (nested limit room).expression left from one rest inner list to
        (constant-read c room (omega (arith, deep)) (omega (arith, within)) marks.Comma (next_is _ rest inner m) refl) m
        (no_brace_before others)
        (constants-read others room left (omega (arith, h, constant-turns c, mark-turns _ rest inner m)) (omega (arith, deep)) (omega (arith, within)))

    pub constant-read : {from : Input} {one : Enumerator} {to : Input} → Constant from one to → (room : ℕ)
        → enumerator_depth one ≤ room → enumerator_depth one ≤ limit → (p : Punctuator) → NextIs p to.tokens → ends_constant p ≡ true
        → reading.constant (nested limit room).expression from ≡ Some (one, to)
    constant-read (grammar.Constant.implicit {from = from} {named = named} i) room deep within p n ends =
        read.implicit_is (nested limit room).expression from named i (no_mark_at p marks.Assign named.rest n (not_assign p ends))
    constant-read (grammar.Constant.valued {from = from} {named = named} {inner = inner} {value = value} {behind = rest} i m e) room deep within p n ends =
        let d = depth-Enumerator named.name value in
        read.valued_is (nested limit room).expression from named inner value rest i m
        (part 2 inner value rest e (λ r w. complete e r w) room (omega (arith, d, deep)) (omega (arith, d, within))
        (constant_ends p rest n ends))
