-- Declarations that the grammar relates are what is read.
use denote.Enum.Bare.{sameb}
use Rattle.std.proofs.Common.{◌≡◌, ℕ, zero, suc, ◌+◌, ◌≤◌, ◌<◌, Bool, true, false, List, [], ◌∷◌, map, Some, None, refl, arith, rules}
use Rattle.std.proofs.lemmas.Bool.{false≢true}
use Rattle.c_lexer.specs.declared.keyword.Keyword.{Keyword}
use Rattle.c_lexer.specs.declared.punctuator.Punctuator.{Punctuator}
use Rattle.c_lexer.specs.declared.punctuator.Punctuator.TheVariants as marks
use Rattle.c_lexer.specs.contracts.punctuator.Punctuator as punctuator
use Rattle.c_syntax.specs.declared.name.Name.{Name}
use Rattle.c_syntax.specs.declared.declarator.Declarator.{Declarator}
use Rattle.c_syntax.specs.declared.declarator.FunctionDeclarator.{FunctionDeclarator}
use Rattle.c_syntax.specs.declared.declarator.Parameter.{Parameter}
use Rattle.c_syntax.specs.declared.specifier.TypeSpecifier.{TypeSpecifier}
use Rattle.c_syntax.specs.declared.specifier.TypeSpecifier.TheVariants as specifiers
use Rattle.c_syntax.specs.declared.expr.Expr.{Expr}
use Rattle.c_syntax.specs.declared.expr.ExprKind.{the_lemmas}
use Rattle.c_syntax.specs.Depth.{expression_depth, specifier_depth, deepest, array_depth, declared_depth, parameter_type_depth, parameter_depth, function_depth}
use Rattle.c_grammar.specs.Input.{Input, Named, mark, identifier}
use Rattle.c_grammar.specs.Specifiers as types
use Rattle.c_grammar.specs.Specifiers.{word, is_specifier_word, is_qualifier, Pointers, TypeStarted, type_start}
use Rattle.c_grammar.specs.Expressions as expressions
use Rattle.c_grammar.specs.Expressions.{Expression, Lengths, Specified, BeginsType}
use Rattle.c_grammar.specs.Declarations as grammar
use Rattle.c_grammar.specs.Declarations.{declarator, unnamed_parameter, Declared, ParameterDeclared, ParameterList, Parameters, FunctionDeclared, is_void_alone, is_void}
use Rattle.c_grammar.specs.Reading as reading
use Rattle.c_grammar.specs.Reading.{Reader, turns, nested}
use Rattle.c_grammar.specs.DeclarationReading as declarations
use Rattle.c_grammar.proofs.Terminals.{NextIs, next_is, no_mark_at, no_word_at, no_identifier_at, other_mark, mark-turns, identifier-turns, no_mark_at_identifier, no_word_at_identifier, type_start-turns}
use Rattle.c_grammar.proofs.TypesRead.{pointers-read, pointers-turns}
use Rattle.c_grammar.proofs.Sizes.{lengths-turns, specified-turns}
use Rattle.c_grammar.proofs.ExpressionsRead.{Ends, EndsType}
use Rattle.c_grammar.proofs.Complete.{complete, part, lengths-read, specified-read, is_true, array-within}

-- ---- depths

pub depth-declarator : (specified pointers : ℕ) (name : Name) (lengths : List Expr)
    → declared_depth specified (declarator pointers name lengths) ≡ array_depth (map expression_depth lengths) (pointers + specified)
depth-declarator specified pointers name lengths = search (rules, the_lemmas)

pub depth-unnamed : (specified pointers : ℕ) (lengths : List Expr)
    → parameter_type_depth specified (unnamed_parameter pointers lengths) ≡ array_depth (map expression_depth lengths) (pointers + specified)
depth-unnamed specified pointers lengths = search (rules, the_lemmas)

-- ---- something is left behind

pub declared-turns : {from : Input} {tree : Declarator} {name : Name} {to : Input} → Declared from tree name to → turns to < turns from
declared-turns (grammar.Declared.declared {behind = behind} {named = named} p i l) =
    omega (arith, pointers-turns p, identifier-turns behind named i, lengths-turns l)

pub parameter-turns : {from : Input} {parameter : Parameter} {to : Input} → ParameterDeclared from parameter to → turns to ≤ turns from
parameter-turns (grammar.ParameterDeclared.named s q d) = omega (arith, specified-turns s, declared-turns d)
parameter-turns (grammar.ParameterDeclared.unnamed s q p l) = omega (arith, specified-turns s, pointers-turns p, lengths-turns l)

pub parameter_list-turns : {from : Input} {list : List Parameter} {to : Input} → ParameterList from list to → turns to < turns from
parameter_list-turns (grammar.ParameterList.last {behind = behind} {to = to} p m) =
    omega (arith, parameter-turns p, mark-turns _ behind to m)
parameter_list-turns (grammar.ParameterList.more {behind = behind} {inner = inner} p m others) =
    omega (arith, parameter-turns p, mark-turns _ behind inner m, parameter_list-turns others)

pub parameters-turns : {from : Input} {list : List Parameter} {to : Input} → Parameters from list to → turns to < turns from
parameters-turns (grammar.Parameters.void {from = from} {behind = behind} {to = to} b m) =
    omega (arith, type_start-turns from _ b, mark-turns _ behind to m)
parameters-turns (grammar.Parameters.list l other) = parameter_list-turns l

pub function-turns : {from : Input} {tree : FunctionDeclarator} {to : Input} → FunctionDeclared from tree to → turns to < turns from
function-turns (grammar.FunctionDeclared.function_declarator {behind = behind} {named = named} {inner = inner} p i o l) =
    omega (arith, pointers-turns p, identifier-turns behind named i, mark-turns _ named.rest inner o, parameters-turns l)

-- ---- what stands before and behind declarators

-- an identifier or a `*` ends a type's own words
ends_at_identifier : (from : Input) (named : Named) → identifier from ≡ Some named → EndsType from
ends_at_identifier from named i = record {
  words = no_word_at_identifier is_specifier_word from named i;
  brace = no_mark_at_identifier marks.OpenBrace from named i;
}

pub ends_at_mark : (p : Punctuator) (from : Input) → NextIs p from.tokens → sameb punctuator.the_type marks.OpenBrace p ≡ false → EndsType from
ends_at_mark p from n differs = record { words = no_word_at p is_specifier_word from n; brace = no_mark_at p marks.OpenBrace from n differs }

pub pointers_end : {from : Input} {count : ℕ} {to : Input} → Pointers from count to → EndsType to → EndsType from
pointers_end types.Pointers.none ends = ends
pointers_end (types.Pointers.more {from = from} {behind = behind} m w others) ends = ends_at_mark marks.Star from (next_is _ from behind m) refl

pub declared_ends : {from : Input} {tree : Declarator} {name : Name} {to : Input} → Declared from tree name to → EndsType from
declared_ends (grammar.Declared.declared {behind = behind} {named = named} p i l) = pointers_end p (ends_at_identifier behind named i)

pub function_ends : {from : Input} {tree : FunctionDeclarator} {to : Input} → FunctionDeclared from tree to → EndsType from
function_ends (grammar.FunctionDeclared.function_declarator {behind = behind} {named = named} p i o l) = pointers_end p (ends_at_identifier behind named i)

-- pointers before a name
pub pointers_named : {from : Input} {count : ℕ} {to : Input} (named : Named) → Pointers from count to → identifier to ≡ Some named
    → reading.pointers from ≡ Some (count, to)
pointers_named {to = to} named p i = pointers-read p (no_mark_at_identifier marks.Star to named i) (no_word_at_identifier is_qualifier to named i)

-- behind a parameter
abbrev ends_parameter : Punctuator → Bool
ends_parameter marks.Comma = true
ends_parameter marks.CloseParenthesis = true
ends_parameter _ = false

-- behind the `*`s of a parameter without a name
abbrev ends_stars : Punctuator → Bool
ends_stars marks.Comma = true
ends_stars marks.CloseParenthesis = true
ends_stars marks.OpenBracket = true
ends_stars _ = false

pub record AtPunctuator (test : Punctuator → Bool) (from : Input) : Type 0 where
  pub mark : Punctuator
  pub next : NextIs mark from.tokens
  pub passes : test mark ≡ true

after_parameter : (p : Punctuator) → ends_parameter p ≡ true → (sameb punctuator.the_type marks.OpenBracket p ≡ false) × (ends_stars p ≡ true)
after_parameter marks.Comma e = (refl, refl)
after_parameter marks.CloseParenthesis e = (refl, refl)
after_parameter _ e = absurd (false≢true e)

after_stars : (p : Punctuator) → ends_stars p ≡ true → (sameb punctuator.the_type marks.Star p ≡ false) × (sameb punctuator.the_type marks.OpenBrace p ≡ false)
after_stars marks.Comma e = (refl, refl)
after_stars marks.CloseParenthesis e = (refl, refl)
after_stars marks.OpenBracket e = (refl, refl)
after_stars _ e = absurd (false≢true e)

stars_end : {from : Input} {lengths : List Expr} {to : Input} → Lengths from lengths to → AtPunctuator ends_parameter to → AtPunctuator ends_stars from
stars_end expressions.Lengths.no_length a = record { mark = a.mark; next = a.next; passes = (after_parameter a.mark a.passes).1 }
stars_end (expressions.Lengths.more_lengths {from = from} {inner = inner} o e m others) a =
    record { mark = marks.OpenBracket; next = next_is _ from inner o; passes = refl }

-- ---- what is related is read, no deeper than the limit

module _ (limit : ℕ) where
  -- the reader of the expressions in declarations
  abbrev pub whole : ℕ → Reader Expr
  whole = (nested limit limit).expression

  pub lengths-whole : {from : Input} {lengths : List Expr} {to : Input} → Lengths from lengths to
      → deepest (map expression_depth lengths) ≤ limit → mark marks.OpenBracket to ≡ None
      → reading.lengths whole from ≡ Some (lengths, to)
  unfolding reading.lengths
  lengths-whole {from = from} l within ends = lengths-read limit l limit (suc (turns from)) (omega arith) within within ends

  pub specified-whole : {from : Input} {words : List Keyword} {type : TypeSpecifier} {to : Input} → Specified from words type to
      → specifier_depth type ≤ limit → EndsType to → reading.specified whole from ≡ Some ((words, type), to)
  specified-whole s within ends = specified-read limit s limit (omega (arith, within)) within ends

  pub expression-whole : (level : ℕ) {from : Input} {tree : Expr} {to : Input} → Expression level from tree to
      → expression_depth tree ≤ limit → Ends level to → whole level from ≡ Some (tree, to)
  expression-whole level {from} {tree} {to} e within ends =
      part limit level from tree to e (λ r w. complete limit e r w) limit within within ends

  pub declared-read : {from : Input} {tree : Declarator} {name : Name} {to : Input} (specified : ℕ) (p : Punctuator) → Declared from tree name to
      → declared_depth specified tree ≤ limit → NextIs p to.tokens → sameb punctuator.the_type marks.OpenBracket p ≡ false
      → declarations.declared whole from ≡ Some ((tree, name), to)
  unfolding declarations.declared declarations.declared_behind
  declared-read specified p (grammar.Declared.declared {pointers = count} {named = named} {lengths = lengths} {to = to} q i l) within n differs =
      let inside = array-within lengths (count + specified) limit (omega (arith, depth-declarator specified count named.name lengths, within)) in
      rw (pointers_named named q i, i, lengths-whole l inside.0 (no_mark_at p marks.OpenBracket to n differs)) refl

  parameter-read : {from : Input} {parameter : Parameter} {to : Input} → ParameterDeclared from parameter to → parameter_depth parameter ≤ limit
      → AtPunctuator ends_parameter to → declarations.parameter whole from ≡ Some (parameter, to)
  unfolding declarations.parameter declarations.parameter_behind declarations.declared_behind
  parameter-read (grammar.ParameterDeclared.named {specifier = type} s q (grammar.Declared.declared {pointers = count} {named = named} {lengths = lengths} {to = to} p i l)) within a =
      let inside = array-within lengths (count + specifier_depth type) limit
      (omega (arith, depth-declarator (specifier_depth type) count named.name lengths, within)) in
      rw (
        specified-whole s (omega (arith, inside)) (declared_ends (grammar.Declared.declared p i l)),
        is_true q,
        pointers_named named p i,
        i,
        lengths-whole l inside.0 (no_mark_at a.mark marks.OpenBracket to a.next (after_parameter a.mark a.passes).0),
      ) refl
  parameter-read (grammar.ParameterDeclared.unnamed {specifier = type} {pointers = count} {inner = inner} {lengths = lengths} {to = to} s q p l) within a =
      let inside = array-within lengths (count + specifier_depth type) limit (omega (arith, depth-unnamed (specifier_depth type) count lengths, within)) in
      let at = stars_end l a in
      let apart = after_stars at.mark at.passes in
      rw (
        specified-whole s (omega (arith, inside)) (pointers_end p (ends_at_mark at.mark inner at.next apart.1)),
        is_true q,
        pointers-read p (no_mark_at at.mark marks.Star inner at.next apart.0) (no_word_at at.mark is_qualifier inner at.next),
        no_identifier_at at.mark inner at.next,
        lengths-whole l inside.0 (no_mark_at a.mark marks.OpenBracket to a.next (after_parameter a.mark a.passes).0),
      ) refl

  parameter_list-read : {from : Input} {list : List Parameter} {to : Input} → ParameterList from list to → (left : ℕ) → turns from ≤ left
      → deepest (map parameter_depth list) ≤ limit → declarations.parameters_from whole left from ≡ Some (list, to)
  unfolding declarations.parameters_from
  parameter_list-read (grammar.ParameterList.last {behind = behind} {to = to} p m) zero h within = absurd (omega (arith, h, parameter-turns p, mark-turns _ behind to m))
  parameter_list-read (grammar.ParameterList.last {behind = behind} {to = to} p m) (suc left) h within =
      rw (
        parameter-read p (omega (arith, within)) (record { mark = marks.CloseParenthesis; next = next_is _ behind to m; passes = refl }),
        other_mark _ marks.Comma behind to m refl,
        m,
      ) refl
  parameter_list-read (grammar.ParameterList.more {behind = behind} {inner = inner} p m others) zero h within =
      absurd (omega (arith, h, parameter-turns p, mark-turns _ behind inner m))
  parameter_list-read (grammar.ParameterList.more {behind = behind} {inner = inner} p m others) (suc left) h within =
      rw (
        parameter-read p (omega (arith, within)) (record { mark = marks.Comma; next = next_is _ behind inner m; passes = refl }),
        m,
        parameter_list-read others left (omega (arith, h, parameter-turns p, mark-turns _ behind inner m)) (omega (arith, within)),
      ) refl

  -- `void` alone is read as a parameter first
  void_parameter : {from behind to : Input} → BeginsType from types.Void behind → mark marks.CloseParenthesis behind ≡ Some to
      → ParameterList from (record { specifier = specifiers.Void; declarator = unnamed_parameter 0 [] } ∷ []) to
  void_parameter b m = grammar.ParameterList.last
      (grammar.ParameterDeclared.unnamed (expressions.Specified.single_type types.Words.none (expressions.SingleType.void b) types.Words.none) refl
      types.Pointers.none expressions.Lengths.no_length) m

  void-is_void : is_void (record { specifier = specifiers.Void; declarator = unnamed_parameter 0 [] }) ≡ true
  void-is_void = search (rules, the_lemmas)

  void-depth : parameter_depth (record { specifier = specifiers.Void; declarator = unnamed_parameter 0 [] }) ≡ 1
  void-depth = search (rules, the_lemmas)

  pub parameters-read : {from : Input} {list : List Parameter} {to : Input} → Parameters from list to → 1 ≤ limit
      → deepest (map parameter_depth list) ≤ limit → declarations.parameter_list whole from ≡ Some (list, to)
  unfolding declarations.parameter_list declarations.void_alone
  parameters-read (grammar.Parameters.void {from = from} {behind = behind} {to = to} b m) some within =
      rw (parameter_list-read (void_parameter b m) (turns from) (omega arith) (omega (arith, some, void-depth)), void-is_void, b, m) refl
  parameters-read (grammar.Parameters.list {from = from} l other) some within =
      rw (parameter_list-read l (turns from) (omega arith) within, other) refl

  pub function-read : {from : Input} {tree : FunctionDeclarator} {to : Input} (specified : ℕ) → FunctionDeclared from tree to → 1 ≤ limit
      → function_depth specified tree ≤ limit → declarations.function_declared whole from ≡ Some (tree, to)
  unfolding declarations.function_declared declarations.function_behind
  function-read specified (grammar.FunctionDeclared.function_declarator {named = named} p i o l) some within =
      rw (pointers_named named p i, i, o, parameters-read l some (omega (arith, within))) refl
