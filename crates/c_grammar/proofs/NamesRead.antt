-- The names of declarations, and structs and unions with their members: what is related is read.
use denote.Enum.Bare.{sameb}
use Rattle.std.proofs.Common.{◌≡◌, ℕ, zero, suc, ◌+◌, ◌≤◌, ◌<◌, Bool, true, false, List, map, Some, None, refl, arith}
use Rattle.std.proofs.lemmas.Bool.{false≢true}
use Rattle.c_lexer.specs.declared.punctuator.Punctuator.{Punctuator}
use Rattle.c_lexer.specs.declared.punctuator.Punctuator.TheVariants as marks
use Rattle.c_lexer.specs.contracts.punctuator.Punctuator as punctuator
use Rattle.c_syntax.specs.declared.name.Name.{Name}
use Rattle.c_syntax.specs.declared.declaration.Declaration.{Declaration}
use Rattle.c_syntax.specs.declared.declaration.InitDeclarator.{InitDeclarator}
use Rattle.c_syntax.specs.declared.declarator.Declarator.{Declarator}
use Rattle.c_syntax.specs.declared.declarator.FunctionDeclarator.{FunctionDeclarator}
use Rattle.c_syntax.specs.declared.expr.Expr.{Expr}
use Rattle.c_syntax.specs.Depth.{specifier_depth, deepest, declared_depth, initialized_depth, declaration_depth}
use Rattle.c_grammar.specs.declared.names.NameKind.TheVariants as names
use Rattle.c_grammar.specs.Input.{Input, mark, declares}
use Rattle.c_grammar.specs.Specifiers as types
use Rattle.c_grammar.specs.Specifiers.{TypeStart, type_start, word, is_specifier_word, is_modifier, is_qualifier, Words}
use Rattle.c_grammar.specs.Expressions as expressions
use Rattle.c_grammar.specs.Expressions.{Expression, Lengths, Specified, SingleType, BeginsType}
use Rattle.c_grammar.specs.Declarations as grammar
use Rattle.c_grammar.specs.Declarations.{declarator, Declared, FunctionDeclared, TypedefNames, Initialized, InitializedNames, FunctionNames, MemberNames, LocalDeclaration, behind_function, is_local, is_typedef, agrees, declares_tag}
use Rattle.c_grammar.specs.Reading.{turns}
use Rattle.c_grammar.specs.DeclarationReading as declarations
use Rattle.c_grammar.proofs.Terminals.{NextIs, next_is, no_mark_at, other_mark, mark-turns, no_mark_at_identifier}
use Rattle.c_grammar.proofs.Sizes.{expression-turns, specified-turns}
use Rattle.c_grammar.proofs.ExpressionsRead.{Ends, EndsType, ends_at, ends_at_comma}
use Rattle.c_grammar.proofs.Complete.{is_true, array-within}
use Rattle.c_grammar.proofs.DeclarationsRead.{depth-declarator, declared-turns, function-turns, declared_ends, function_ends, pointers_named, whole, lengths-whole, specified-whole, expression-whole, declared-read, function-read, ends_at_mark, parameters-read}

-- ---- something is left behind

pub typedef_names-turns : {from : Input} {list : List Declarator} {to : Input} → TypedefNames from list to → turns to < turns from
typedef_names-turns (grammar.TypedefNames.last {name = name} {behind = behind} {to = to} d m) =
    omega (arith, declared-turns d, mark-turns _ (declares behind name.text names.Typedef) to m)
typedef_names-turns (grammar.TypedefNames.more {name = name} {behind = behind} {inner = inner} d m others) =
    omega (arith, declared-turns d, mark-turns _ (declares behind name.text names.Typedef) inner m, typedef_names-turns others)

pub initialized-turns : {from : Input} {one : InitDeclarator} {to : Input} → Initialized from one to → turns to < turns from
initialized-turns (grammar.Initialized.object d) = omega (arith, declared-turns d)
initialized-turns (grammar.Initialized.initialized {name = name} {behind = behind} {inner = inner} d m e) =
    omega (arith, declared-turns d, mark-turns _ (declares behind name.text names.Ordinary) inner m, expression-turns e)
initialized-turns (grammar.Initialized.function f) = omega (arith, function-turns f)

pub initialized_names-turns : {from : Input} {list : List InitDeclarator} {to : Input} → InitializedNames from list to → turns to < turns from
initialized_names-turns (grammar.InitializedNames.last {behind = behind} {to = to} d m) =
    omega (arith, initialized-turns d, mark-turns _ behind to m)
initialized_names-turns (grammar.InitializedNames.more {behind = behind} {inner = inner} d m others) =
    omega (arith, initialized-turns d, mark-turns _ behind inner m, initialized_names-turns others)

pub function_names-turns : {from : Input} {list : List InitDeclarator} {to : Input} → FunctionNames from list to → turns to < turns from
function_names-turns (grammar.FunctionNames.last {from = from} {tree = tree} {behind = behind} {to = to} d m) =
    omega (arith, function-turns d, mark-turns _ (behind_function from tree behind) to m)
function_names-turns (grammar.FunctionNames.more {from = from} {tree = tree} {behind = behind} {inner = inner} d m others) =
    omega (arith, function-turns d, mark-turns _ (behind_function from tree behind) inner m, function_names-turns others)

pub member_names-turns : {from : Input} {list : List Declarator} {to : Input} → MemberNames from list to → turns to < turns from
member_names-turns (grammar.MemberNames.last {behind = behind} {to = to} d m) = omega (arith, declared-turns d, mark-turns _ behind to m)
member_names-turns (grammar.MemberNames.more {behind = behind} {inner = inner} d m others) =
    omega (arith, declared-turns d, mark-turns _ behind inner m, member_names-turns others)

pub local-turns : {from : Input} {tree : Declaration} {to : Input} → LocalDeclaration from tree to → turns to < turns from
local-turns (grammar.LocalDeclaration.tag {behind = behind} {to = to} s l t d m) = omega (arith, specified-turns s, mark-turns _ behind to m)
local-turns (grammar.LocalDeclaration.typedefs s l a t d) = omega (arith, specified-turns s, typedef_names-turns d)
local-turns (grammar.LocalDeclaration.declared_names s l t d) = omega (arith, specified-turns s, initialized_names-turns d)

-- ---- the first token of a list of names

pub typedef_names-end : {from : Input} {list : List Declarator} {to : Input} → TypedefNames from list to → EndsType from
typedef_names-end (grammar.TypedefNames.last d m) = declared_ends d
typedef_names-end (grammar.TypedefNames.more d m others) = declared_ends d

initialized-end : {from : Input} {one : InitDeclarator} {to : Input} → Initialized from one to → EndsType from
initialized-end (grammar.Initialized.object d) = declared_ends d
initialized-end (grammar.Initialized.initialized d m e) = declared_ends d
initialized-end (grammar.Initialized.function f) = function_ends f

initialized_names-end : {from : Input} {list : List InitDeclarator} {to : Input} → InitializedNames from list to → EndsType from
initialized_names-end (grammar.InitializedNames.last d m) = initialized-end d
initialized_names-end (grammar.InitializedNames.more d m others) = initialized-end d

pub member_names-end : {from : Input} {list : List Declarator} {to : Input} → MemberNames from list to → EndsType from
member_names-end (grammar.MemberNames.last d m) = declared_ends d
member_names-end (grammar.MemberNames.more d m others) = declared_ends d

pub function_names-end : {from : Input} {list : List InitDeclarator} {to : Input} → FunctionNames from list to → EndsType from
function_names-end (grammar.FunctionNames.last d m) = function_ends d
function_names-end (grammar.FunctionNames.more d m others) = function_ends d

-- no semicolon stands before a declared name
abbrev pub NoSemicolon : Input → Type 0
NoSemicolon from = mark marks.Semicolon from ≡ None

pointers-no_semicolon : {from : Input} {count : ℕ} {to : Input} → types.Pointers from count to → NoSemicolon to → NoSemicolon from
pointers-no_semicolon types.Pointers.none none = none
pointers-no_semicolon (types.Pointers.more {from = from} {behind = behind} m w others) none = other_mark _ marks.Semicolon from behind m refl

declared-no_semicolon : {from : Input} {tree : Declarator} {name : Name} {to : Input} → Declared from tree name to → NoSemicolon from
declared-no_semicolon (grammar.Declared.declared {behind = behind} {named = named} p i l) =
    pointers-no_semicolon p (no_mark_at_identifier marks.Semicolon behind named i)

pub function-no_semicolon : {from : Input} {tree : FunctionDeclarator} {to : Input} → FunctionDeclared from tree to → NoSemicolon from
function-no_semicolon (grammar.FunctionDeclared.function_declarator {behind = behind} {named = named} p i o l) =
    pointers-no_semicolon p (no_mark_at_identifier marks.Semicolon behind named i)

initialized-no_semicolon : {from : Input} {one : InitDeclarator} {to : Input} → Initialized from one to → NoSemicolon from
initialized-no_semicolon (grammar.Initialized.object d) = declared-no_semicolon d
initialized-no_semicolon (grammar.Initialized.initialized d m e) = declared-no_semicolon d
initialized-no_semicolon (grammar.Initialized.function f) = function-no_semicolon f

initialized_names-no_semicolon : {from : Input} {list : List InitDeclarator} {to : Input} → InitializedNames from list to → NoSemicolon from
initialized_names-no_semicolon (grammar.InitializedNames.last d m) = initialized-no_semicolon d
initialized_names-no_semicolon (grammar.InitializedNames.more d m others) = initialized-no_semicolon d

pub member_names-no_semicolon : {from : Input} {list : List Declarator} {to : Input} → MemberNames from list to → NoSemicolon from
member_names-no_semicolon (grammar.MemberNames.last d m) = declared-no_semicolon d
member_names-no_semicolon (grammar.MemberNames.more d m others) = declared-no_semicolon d

pub function_names-no_semicolon : {from : Input} {list : List InitDeclarator} {to : Input} → FunctionNames from list to → NoSemicolon from
function_names-no_semicolon (grammar.FunctionNames.last d m) = function-no_semicolon d
function_names-no_semicolon (grammar.FunctionNames.more d m others) = function-no_semicolon d

-- behind an array's or object's declarator
lengths_open : {from : Input} {lengths : List Expr} {to : Input} → Lengths from lengths to → (p : Punctuator) → NextIs p to.tokens
    → sameb punctuator.the_type marks.OpenParenthesis p ≡ false → mark marks.OpenParenthesis from ≡ None
lengths_open (expressions.Lengths.no_length {from = from}) p n differs = no_mark_at p marks.OpenParenthesis from n differs
lengths_open (expressions.Lengths.more_lengths {from = from} {inner = inner} o e m others) p n differs = other_mark _ marks.OpenParenthesis from inner o refl

-- what stands behind an initialising expression or the declarator
abbrev ends_name : Punctuator → Bool
ends_name marks.Comma = true
ends_name marks.Semicolon = true
ends_name _ = false

not_open : (p : Punctuator) → ends_name p ≡ true → (sameb punctuator.the_type marks.OpenParenthesis p ≡ false)
    × (sameb punctuator.the_type marks.OpenBracket p ≡ false) × (sameb punctuator.the_type marks.Assign p ≡ false)
not_open marks.Comma e = (refl, refl, refl)
not_open marks.Semicolon e = (refl, refl, refl)
not_open _ e = absurd (false≢true e)

name_ends : (p : Punctuator) (from : Input) → NextIs p from.tokens → ends_name p ≡ true → Ends 1 from
name_ends marks.Comma from n e = ends_at_comma 1 from n (omega arith)
name_ends marks.Semicolon from n e = ends_at 1 marks.Semicolon from n refl refl
name_ends _ from n e = absurd (false≢true e)

module _ (limit : ℕ) where
  pub typedef_names-read : {from : Input} {list : List Declarator} {to : Input} (specified : ℕ) → TypedefNames from list to → (left : ℕ)
      → turns from ≤ left → deepest (map (declared_depth specified) list) ≤ limit
      → declarations.typedef_names_from (whole limit) left from ≡ Some (list, to)
  unfolding declarations.typedef_names_from
  typedef_names-read specified (grammar.TypedefNames.last d m) zero h within = absurd (omega (arith, h, declared-turns d))
  typedef_names-read specified (grammar.TypedefNames.last {name = name} {behind = behind} {to = to} d m) (suc left) h within =
      let after = declares behind name.text names.Typedef in
      rw (
        declared-read limit specified marks.Semicolon d (omega (arith, within)) (next_is _ after to m) refl,
        other_mark _ marks.Comma after to m refl,
        m,
      ) refl
  typedef_names-read specified (grammar.TypedefNames.more d m others) zero h within = absurd (omega (arith, h, declared-turns d))
  typedef_names-read specified (grammar.TypedefNames.more {name = name} {behind = behind} {inner = inner} d m others) (suc left) h within =
      let after = declares behind name.text names.Typedef in
      rw (
        declared-read limit specified marks.Comma d (omega (arith, within)) (next_is _ after inner m) refl,
        m,
        typedef_names-read specified others left (omega (arith, h, declared-turns d, mark-turns _ after inner m)) (omega (arith, within)),
      ) refl

  pub member_names-read : {from : Input} {list : List Declarator} {to : Input} (specified : ℕ) → MemberNames from list to → (left : ℕ)
      → turns from ≤ left → deepest (map (declared_depth specified) list) ≤ limit
      → declarations.member_names_from (whole limit) left from ≡ Some (list, to)
  unfolding declarations.member_names_from
  member_names-read specified (grammar.MemberNames.last d m) zero h within = absurd (omega (arith, h, declared-turns d))
  member_names-read specified (grammar.MemberNames.last {behind = behind} {to = to} d m) (suc left) h within =
      rw (
        declared-read limit specified marks.Semicolon d (omega (arith, within)) (next_is _ behind to m) refl,
        other_mark _ marks.Comma behind to m refl,
        m,
      ) refl
  member_names-read specified (grammar.MemberNames.more d m others) zero h within = absurd (omega (arith, h, declared-turns d))
  member_names-read specified (grammar.MemberNames.more {behind = behind} {inner = inner} d m others) (suc left) h within =
      rw (
        declared-read limit specified marks.Comma d (omega (arith, within)) (next_is _ behind inner m) refl,
        m,
        member_names-read specified others left (omega (arith, h, declared-turns d, mark-turns _ behind inner m)) (omega (arith, within)),
      ) refl

  initialized-read : {from : Input} {one : InitDeclarator} {to : Input} (specified : ℕ) (p : Punctuator) → Initialized from one to → 1 ≤ limit
      → initialized_depth specified one ≤ limit → NextIs p to.tokens → ends_name p ≡ true
      → declarations.initialized (whole limit) from ≡ Some (one, to)
  unfolding declarations.initialized declarations.declared_behind declarations.object_behind declarations.function_behind
  initialized-read specified p (grammar.Initialized.object (grammar.Declared.declared {pointers = count} {named = named} {lengths = lengths} {to = to} q i l)) some within n ends =
      let apart = not_open p ends in
      let inside = array-within lengths (count + specified) limit (omega (arith, depth-declarator specified count named.name lengths, within)) in
      rw (
        pointers_named named q i,
        i,
        lengths_open l p n apart.0,
        lengths-whole limit l inside.0 (no_mark_at p marks.OpenBracket to n apart.1),
        no_mark_at p marks.Assign (declares to named.name.text names.Ordinary) n apart.2,
      ) refl
  initialized-read specified p (grammar.Initialized.initialized {inner = inner} {to = to} (grammar.Declared.declared {pointers = count} {named = named} {lengths = lengths} {to = rest} q i l) m e) some within n ends =
      let after = declares rest named.name.text names.Ordinary in
      let next = next_is marks.Assign after inner m in
      let inside = array-within lengths (count + specified) limit (omega (arith, depth-declarator specified count named.name lengths, within)) in
      rw (
        pointers_named named q i,
        i,
        lengths_open l marks.Assign next refl,
        lengths-whole limit l inside.0 (no_mark_at marks.Assign marks.OpenBracket rest next refl),
        m,
        expression-whole limit 1 e (omega (arith, within)) (name_ends p to n ends),
      ) refl
  initialized-read specified p (grammar.Initialized.function (grammar.FunctionDeclared.function_declarator {named = named} q i o l)) some within n ends =
      rw (pointers_named named q i, i, o, parameters-read limit l some (omega (arith, within))) refl

  pub initialized_names-read : {from : Input} {list : List InitDeclarator} {to : Input} (specified : ℕ) → InitializedNames from list to → (left : ℕ)
      → turns from ≤ left → 1 ≤ limit → deepest (map (initialized_depth specified) list) ≤ limit
      → declarations.initialized_names_from (whole limit) left from ≡ Some (list, to)
  unfolding declarations.initialized_names_from
  initialized_names-read specified (grammar.InitializedNames.last d m) zero h some within = absurd (omega (arith, h, initialized-turns d))
  initialized_names-read specified (grammar.InitializedNames.last {behind = behind} {to = to} d m) (suc left) h some within =
      rw (
        initialized-read specified marks.Semicolon d some (omega (arith, within)) (next_is _ behind to m) refl,
        other_mark _ marks.Comma behind to m refl,
        m,
      ) refl
  initialized_names-read specified (grammar.InitializedNames.more d m others) zero h some within = absurd (omega (arith, h, initialized-turns d))
  initialized_names-read specified (grammar.InitializedNames.more {behind = behind} {inner = inner} d m others) (suc left) h some within =
      rw (
        initialized-read specified marks.Comma d some (omega (arith, within)) (next_is _ behind inner m) refl,
        m,
        initialized_names-read specified others left (omega (arith, h, initialized-turns d, mark-turns _ behind inner m)) some (omega (arith, within)),
      ) refl

  pub function_names-read : {from : Input} {list : List InitDeclarator} {to : Input} (specified : ℕ) → FunctionNames from list to → (left : ℕ)
      → turns from ≤ left → 1 ≤ limit → deepest (map (initialized_depth specified) list) ≤ limit
      → declarations.function_names_from (whole limit) left from ≡ Some (list, to)
  unfolding declarations.function_names_from
  function_names-read specified (grammar.FunctionNames.last d m) zero h some within = absurd (omega (arith, h, function-turns d))
  function_names-read specified (grammar.FunctionNames.last {from = from} {tree = tree} {behind = behind} {to = to} d m) (suc left) h some within =
      rw (function-read limit specified d some (omega (arith, within)), other_mark _ marks.Comma (behind_function from tree behind) to m refl, m) refl
  function_names-read specified (grammar.FunctionNames.more d m others) zero h some within = absurd (omega (arith, h, function-turns d))
  function_names-read specified (grammar.FunctionNames.more {from = from} {tree = tree} {behind = behind} {inner = inner} d m others) (suc left) h some within =
      rw (
        function-read limit specified d some (omega (arith, within)),
        m,
        function_names-read specified others left (omega (arith, h, function-turns d, mark-turns _ (behind_function from tree behind) inner m)) some (omega (arith, within)),
      ) refl

  pub local-read : {from : Input} {tree : Declaration} {to : Input} → LocalDeclaration from tree to → 1 ≤ limit → declaration_depth tree ≤ limit
      → declarations.local_declaration (whole limit) from ≡ Some (tree, to)
  unfolding declarations.local_declaration declarations.local_behind
  local-read (grammar.LocalDeclaration.tag {behind = behind} {to = to} s l t d m) some within =
      rw (specified-whole limit s (omega (arith, within)) (ends_at_mark marks.Semicolon behind (next_is _ behind to m) refl), is_true l, t, m, is_true d) refl
  local-read (grammar.LocalDeclaration.typedefs {specifier = type} {behind = behind} s l a t d) some within =
      rw (
        specified-whole limit s (omega (arith, within)) (typedef_names-end d),
        is_true l,
        t,
        is_true a,
        typedef_names-read (specifier_depth type) d (turns behind) (omega arith) (omega (arith, within)),
      ) refl
  local-read (grammar.LocalDeclaration.declared_names {specifier = type} {behind = behind} s l t d) some within =
      rw (
        specified-whole limit s (omega (arith, within)) (initialized_names-end d),
        is_true l,
        t,
        initialized_names-no_semicolon d,
        initialized_names-read (specifier_depth type) d (turns behind) (omega arith) some (omega (arith, within)),
      ) refl
