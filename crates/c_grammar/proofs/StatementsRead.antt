-- Statements that the grammar relates are what is read.
use denote.Enum.Bare.{sameb}
use Rattle.std.proofs.Common.{◌≡◌, ℕ, zero, suc, ◌≤◌, ◌<◌, true, false, List, [], ◌∷◌, map, Option, Some, None, sym, refl, ◌∙◌, arith}
use Rattle.std.proofs.lemmas.Bool.{false≢true}
use Rattle.std.specs.Option.{option_map_or}
use Rattle.rc_text.specs.declared.place.Place.{Place}
use Rattle.c_lexer.specs.declared.keyword.Keyword.{Keyword}
use Rattle.c_lexer.specs.declared.keyword.Keyword.TheVariants as words
use Rattle.c_lexer.specs.declared.punctuator.Punctuator.{Punctuator}
use Rattle.c_lexer.specs.declared.punctuator.Punctuator.TheVariants as marks
use Rattle.c_lexer.specs.contracts.punctuator.Punctuator as punctuator
use Rattle.c_lexer.specs.contracts.keyword.Keyword as keyword_type
use Rattle.c_lexer.specs.declared.token.TokenKind.TheVariants as tokens
use Rattle.c_grammar.specs.Names.{Word}
use Rattle.c_grammar.specs.Operators as operators
use Rattle.c_grammar.specs.Operators.{start_by}
use Rattle.c_grammar.specs.Specifiers.{type_keyword}
use Rattle.c_grammar.proofs.TypesRead.{is_start}
use Rattle.c_syntax.specs.declared.attribute.Attribute.{Attribute}
use Rattle.c_syntax.specs.declared.declaration.Declaration.{Declaration}
use Rattle.c_syntax.specs.declared.expr.Expr.{Expr}
use Rattle.c_syntax.specs.declared.stmt.ForInit.{ForInit}
use Rattle.c_syntax.specs.declared.stmt.Label.{Label}
use Rattle.c_syntax.specs.declared.stmt.Label.TheVariants as labels
use Rattle.c_syntax.specs.declared.stmt.Stmt.{Stmt}
use Rattle.c_syntax.specs.declared.stmt.StmtKind.{StmtKind}
use Rattle.c_syntax.specs.declared.stmt.StmtKind.TheVariants as kinds
use Rattle.c_syntax.specs.Depth.{expression_depth, declaration_depth, init_depth, label_depth, statement_depth, deepest}
use Rattle.c_grammar.specs.Depths.{kind_depth}
use Rattle.c_grammar.specs.Input.{Input, mark}
use Rattle.c_grammar.specs.Attributes as attributes
use Rattle.c_grammar.specs.Attributes.{Attributes}
use Rattle.c_grammar.specs.Expressions.{Expression}
use Rattle.c_grammar.specs.Declarations as declarations
use Rattle.c_grammar.specs.Declarations.{LocalDeclaration, under}
use Rattle.c_grammar.specs.Statements as grammar
use Rattle.c_grammar.specs.Statements.{keyword, place_of, Position, in_loop, in_switch, ends_in_if, Labels, Tested, Optional, Begun, Statement, Kind, Children, DeclaredChild, SwitchBody, Cases}
use Rattle.c_grammar.specs.Reading as reading
use Rattle.c_grammar.specs.Reading.{turns, begins_type, is_type}
use Rattle.c_grammar.specs.StatementReading as statements
use Rattle.c_grammar.specs.StatementReading.{stated, begins_label, kind_at, kind_with}
use Rattle.c_grammar.proofs.Terminals.{next_is, other_mark, mark-turns}
use Rattle.c_grammar.proofs.Keywords.{keyword-turns, other_keyword, no_mark_at_keyword, no_keyword_at_mark, no_type_at_keyword, no_keyword_at_start, no_keyword_at_type, no_type_at_mark, no_mark_at_begun}
use Rattle.c_grammar.proofs.AttributesRead.{attributes-read, attributes-turns}
use Rattle.c_grammar.proofs.Sizes.{expression-turns}
use Rattle.c_grammar.proofs.ExpressionsRead.{ends_at, starts_here, no_type_here, no_mark_here, specified_here}
use Rattle.c_grammar.proofs.DeclarationsRead.{whole, expression-whole}
use Rattle.c_grammar.proofs.NamesRead.{local-turns, local-read}
use Rattle.c_grammar.proofs.RecordsRead.{attributes_first, specified_first}
use Rattle.c_grammar.proofs.OpenIfs.{FreeIf, kind_ends_in_if, open-stated, open-If, open-IfElse, open-While, open-For, none_under, none_inside}
use Rattle.c_grammar.proofs.StatementDepths.{depth-stated, depth-Compound, depth-Declaration, depth-Expression, depth-If, depth-IfElse, depth-Switch, depth-While, depth-Do, depth-For, depth-Return}

-- ---- what stands first

no_keyword_here : (w : Keyword) {level : ℕ} {from : Input} {tree : Expr} {to : Input}
    → ((meaning : Word) (text : List ℕ) → is_start (start_by (tokens.Keyword w) meaning text) ≡ false)
    → Expression level from tree to → keyword w from ≡ None
no_keyword_here w {from = from} other e = let h = starts_here e in no_keyword_at_start w from h.started h.starts h.begins other

-- No type, label, bracket or closing brace stands here.
pub record Plain (from : Input) : Type 0 where
  pub type : begins_type from ≡ false
  pub bracket : mark marks.OpenBracket from ≡ None
  pub brace : mark marks.CloseBrace from ≡ None
  pub case : keyword words.Case from ≡ None
  pub default : keyword words.Default from ≡ None
  pub otherwise : keyword words.Else from ≡ None

plain_mark : (p : Punctuator) (from to : Input) → mark p from ≡ Some to → sameb punctuator.the_type marks.OpenBracket p ≡ false
    → sameb punctuator.the_type marks.CloseBrace p ≡ false → Plain from
plain_mark p from to m a b = record {
  type = no_type_at_mark p from to m;
  bracket = other_mark p marks.OpenBracket from to m a;
  brace = other_mark p marks.CloseBrace from to m b;
  case = no_keyword_at_mark words.Case p from to m;
  default = no_keyword_at_mark words.Default p from to m;
  otherwise = no_keyword_at_mark words.Else p from to m;
}

plain_keyword : (w : Keyword) (from to : Input) → keyword w from ≡ Some to → is_type (type_keyword w) ≡ false
    → sameb keyword_type.the_type words.Case w ≡ false → sameb keyword_type.the_type words.Default w ≡ false
    → sameb keyword_type.the_type words.Else w ≡ false → Plain from
plain_keyword w from to m none a b c = record {
  type = no_type_at_keyword w from to m none;
  bracket = no_mark_at_keyword marks.OpenBracket w from to m;
  brace = no_mark_at_keyword marks.CloseBrace w from to m;
  case = other_keyword w words.Case from to m a;
  default = other_keyword w words.Default from to m b;
  otherwise = other_keyword w words.Else from to m c;
}

plain_expression : {level : ℕ} {from : Input} {tree : Expr} {to : Input} → Expression level from tree to → Plain from
plain_expression e = record {
  type = no_type_here e;
  bracket = no_mark_here marks.OpenBracket refl e;
  brace = no_mark_here marks.CloseBrace refl e;
  case = no_keyword_here words.Case (λ meaning text. refl) e;
  default = no_keyword_here words.Default (λ meaning text. refl) e;
  otherwise = no_keyword_here words.Else (λ meaning text. refl) e;
}

pub kind_first : {position : Position} {from : Input} {kind : StmtKind} {to : Input} → Kind position from kind to → Plain from
kind_first (grammar.Kind.compound {from = from} {inner = inner} m c) = plain_mark _ from inner m refl refl
kind_first (grammar.Kind.expression e m) = plain_expression e
kind_first (grammar.Kind.empty {from = from} {to = to} m) = plain_mark _ from to m refl refl
kind_first (grammar.Kind.if_ {from = from} {open_ = outer} k t s) = plain_keyword _ from outer k refl refl refl refl
kind_first (grammar.Kind.if_else {from = from} {open_ = outer} k t s f n o) = plain_keyword _ from outer k refl refl refl refl
kind_first (grammar.Kind.switch {from = from} {open_ = outer} k t s) = plain_keyword _ from outer k refl refl refl refl
kind_first (grammar.Kind.while {from = from} {open_ = outer} k t s) = plain_keyword _ from outer k refl refl refl refl
kind_first (grammar.Kind.do_ {from = from} {inner = inner} k s w t m) = plain_keyword _ from inner k refl refl refl refl
kind_first (grammar.Kind.for {from = from} {open_ = outer} k a b c d e f s) = plain_keyword _ from outer k refl refl refl refl
kind_first (grammar.Kind.continue {from = from} {behind = behind} p k m) = plain_keyword _ from behind k refl refl refl refl
kind_first (grammar.Kind.break {from = from} {behind = behind} p k m) = plain_keyword _ from behind k refl refl refl refl
kind_first (grammar.Kind.return {from = from} {inner = inner} k v m) = plain_keyword _ from inner k refl refl refl refl

local_here : {from : Input} {tree : Declaration} {to : Input} → LocalDeclaration from tree to
    → (begins_type from ≡ true) × (mark marks.OpenBracket from ≡ None) × (mark marks.CloseBrace from ≡ None)
local_here (declarations.LocalDeclaration.tag s l t d m) = (specified_here s, (specified_first s).bracket, (specified_first s).brace)
local_here (declarations.LocalDeclaration.typedefs s l a t d) = (specified_here s, (specified_first s).bracket, (specified_first s).brace)
local_here (declarations.LocalDeclaration.declared_names s l t d) = (specified_here s, (specified_first s).bracket, (specified_first s).brace)

local_no_semicolon : {from : Input} {tree : Declaration} {to : Input} → LocalDeclaration from tree to → mark marks.Semicolon from ≡ None
local_no_semicolon {from} d = no_mark_at_begun marks.Semicolon from (local_here d).0

-- no keyword begins attributes
attributes_no_keyword : {from : Input} {list : List Attribute} {to : Input} (w : Keyword) → Attributes from list to → keyword w to ≡ None
    → keyword w from ≡ None
attributes_no_keyword w attributes.Attributes.none none = none
attributes_no_keyword w (attributes.Attributes.more {from = from} {outer = outer} a b group others) none = no_keyword_at_mark w _ from outer a

-- a child of a compound begins with no label, no `else` and no closing brace
pub record BeginsChild (from : Input) : Type 0 where
  pub brace : mark marks.CloseBrace from ≡ None
  pub case : keyword words.Case from ≡ None
  pub default : keyword words.Default from ≡ None
  pub otherwise : keyword words.Else from ≡ None

statement_first : {position : Position} {from : Input} {tree : Stmt} {to : Input} → Statement position from tree to → BeginsChild from
statement_first (grammar.Statement.statement a p k) = let f = kind_first k in record {
  brace = attributes_first marks.CloseBrace refl a f.brace;
  case = attributes_no_keyword words.Case a f.case;
  default = attributes_no_keyword words.Default a f.default;
  otherwise = attributes_no_keyword words.Else a f.otherwise;
}

declared_first : {from : Input} {tree : Stmt} {to : Input} → DeclaredChild from tree to → BeginsChild from
declared_first (grammar.DeclaredChild.declared {behind = behind} a p d) = let h = local_here d in record {
  brace = attributes_first marks.CloseBrace refl a h.2;
  case = attributes_no_keyword words.Case a (no_keyword_at_type words.Case behind h.0 refl);
  default = attributes_no_keyword words.Default a (no_keyword_at_type words.Default behind h.0 refl);
  otherwise = attributes_no_keyword words.Else a (no_keyword_at_type words.Else behind h.0 refl);
}

no_label : (from : Input) → keyword words.Case from ≡ None → keyword words.Default from ≡ None → begins_label from ≡ false
unfolding begins_label
no_label from a b = rw (a, b) refl

label_first : {from : Input} {list : List Label} {to : Input} → Labels from list to → (begins_label from ≡ true) × (mark marks.CloseBrace from ≡ None)
unfolding begins_label
label_first (grammar.Labels.case {from = from} {inner = inner} p k e c) = (rw k refl, no_mark_at_keyword marks.CloseBrace _ from inner k)
label_first (grammar.Labels.default {from = from} {colon = colon} p k c) =
    (rw (other_keyword _ words.Case from colon k refl, k) refl, no_mark_at_keyword marks.CloseBrace _ from colon k)
label_first (grammar.Labels.more_case {from = from} {inner = inner} p k e c others) = (rw k refl, no_mark_at_keyword marks.CloseBrace _ from inner k)
label_first (grammar.Labels.more_default {from = from} {colon = colon} p k c others) =
    (rw (other_keyword _ words.Case from colon k refl, k) refl, no_mark_at_keyword marks.CloseBrace _ from colon k)

-- no `else` begins labels, nor what stands behind a child
labels_no_else : {from : Input} {list : List Label} {to : Input} → Labels from list to → keyword words.Else from ≡ None
labels_no_else (grammar.Labels.case {from = from} {inner = inner} p k e c) = other_keyword _ words.Else from inner k refl
labels_no_else (grammar.Labels.default {from = from} {colon = colon} p k c) = other_keyword _ words.Else from colon k refl
labels_no_else (grammar.Labels.more_case {from = from} {inner = inner} p k e c others) = other_keyword _ words.Else from inner k refl
labels_no_else (grammar.Labels.more_default {from = from} {colon = colon} p k c others) = other_keyword _ words.Else from colon k refl

children_no_else : {position : Position} {from : Input} {list : List Stmt} {to : Input} → Children position from list to → keyword words.Else from ≡ None
children_no_else (grammar.Children.no_child {from = from} {to = to} m) = no_keyword_at_mark words.Else _ from to m
children_no_else (grammar.Children.declared_child d others) = (declared_first d).otherwise
children_no_else (grammar.Children.stated_child s others) = (statement_first s).otherwise

cases_no_else : {position : Position} {from : Input} {list : List Stmt} {to : Input} → Cases position from list to → keyword words.Else from ≡ None
cases_no_else (grammar.Cases.no_case {from = from} {to = to} m) = no_keyword_at_mark words.Else _ from to m
cases_no_else (grammar.Cases.labelled_case l a p k others) = labels_no_else l
cases_no_else (grammar.Cases.declared_case d others) = (declared_first d).otherwise
cases_no_else (grammar.Cases.stated_case s others) = (statement_first s).otherwise

-- ---- something is left behind

pub labels-turns : {from : Input} {list : List Label} {to : Input} → Labels from list to → turns to < turns from
labels-turns (grammar.Labels.case {from = from} {inner = inner} {colon = colon} {to = to} p k e c) =
    omega (arith, keyword-turns _ from inner k, expression-turns e, mark-turns _ colon to c)
labels-turns (grammar.Labels.default {from = from} {colon = colon} {to = to} p k c) = omega (arith, keyword-turns _ from colon k, mark-turns _ colon to c)
labels-turns (grammar.Labels.more_case {from = from} {inner = inner} {colon = colon} {behind = behind} p k e c others) =
    omega (arith, keyword-turns _ from inner k, expression-turns e, mark-turns _ colon behind c, labels-turns others)
labels-turns (grammar.Labels.more_default {from = from} {colon = colon} {behind = behind} p k c others) =
    omega (arith, keyword-turns _ from colon k, mark-turns _ colon behind c, labels-turns others)

tested-turns : {from : Input} {tree : Expr} {to : Input} → Tested from tree to → turns to < turns from
tested-turns (grammar.Tested.tested {from = from} {inner = inner} {close = close} {to = to} o e c) =
    omega (arith, mark-turns _ from inner o, expression-turns e, mark-turns _ close to c)

optional-turns : {from : Input} {tree : Option Expr} {to : Input} → Optional from tree to → turns to ≤ turns from
optional-turns grammar.Optional.missing = omega arith
optional-turns (grammar.Optional.given e) = omega (arith, expression-turns e)

begun-turns : {from : Input} {init : ForInit} {to : Input} → Begun from init to → turns to < turns from
begun-turns (grammar.Begun.nothing {from = from} {to = to} m) = omega (arith, mark-turns _ from to m)
begun-turns (grammar.Begun.expression {behind = behind} {to = to} e m) = omega (arith, expression-turns e, mark-turns _ behind to m)
begun-turns (grammar.Begun.declaration a p d) = omega (arith, attributes-turns a, local-turns d)

mutual
  pub statement-turns : {position : Position} {from : Input} {tree : Stmt} {to : Input} → Statement position from tree to → turns to < turns from
  statement-turns (grammar.Statement.statement a p k) = omega (arith, attributes-turns a, kind-turns k)

  pub kind-turns : {position : Position} {from : Input} {kind : StmtKind} {to : Input} → Kind position from kind to → turns to < turns from
  kind-turns (grammar.Kind.compound {from = from} {inner = inner} m c) = omega (arith, mark-turns _ from inner m, children-turns c)
  kind-turns (grammar.Kind.expression {behind = behind} {to = to} e m) = omega (arith, expression-turns e, mark-turns _ behind to m)
  kind-turns (grammar.Kind.empty {from = from} {to = to} m) = omega (arith, mark-turns _ from to m)
  kind-turns (grammar.Kind.if_ {from = from} {open_ = outer} k t s) = omega (arith, keyword-turns _ from outer k, tested-turns t, statement-turns s)
  kind-turns (grammar.Kind.if_else {from = from} {open_ = outer} {inner = inner} {behind = behind} {other = other} k t s f n o) =
      omega (arith, keyword-turns _ from outer k, tested-turns t, statement-turns s, keyword-turns _ (under inner behind) other n, statement-turns o)
  kind-turns (grammar.Kind.switch {from = from} {open_ = outer} k t s) = omega (arith, keyword-turns _ from outer k, tested-turns t, switch-turns s)
  kind-turns (grammar.Kind.while {from = from} {open_ = outer} k t s) = omega (arith, keyword-turns _ from outer k, tested-turns t, statement-turns s)
  kind-turns (grammar.Kind.do_ {from = from} {inner = inner} {behind = behind} {open_ = outer} {close = close} {to = to} k s w t m) =
      omega (arith, keyword-turns _ from inner k, statement-turns s, keyword-turns _ (under inner behind) outer w, tested-turns t, mark-turns _ close to m)
  kind-turns (grammar.Kind.for {from = from} {open_ = outer} {inner = inner} {second = second} {third = third} {close = close} {rest = rest} k a b c d e f s) =
      omega (
        arith,
        keyword-turns _ from outer k,
        mark-turns _ outer inner a,
        begun-turns b,
        optional-turns c,
        mark-turns _ second third d,
        optional-turns e,
        mark-turns _ close rest f,
        statement-turns s,
      )
  kind-turns (grammar.Kind.continue {from = from} {behind = behind} {to = to} p k m) = omega (arith, keyword-turns _ from behind k, mark-turns _ behind to m)
  kind-turns (grammar.Kind.break {from = from} {behind = behind} {to = to} p k m) = omega (arith, keyword-turns _ from behind k, mark-turns _ behind to m)
  kind-turns (grammar.Kind.return {from = from} {inner = inner} {behind = behind} {to = to} k v m) =
      omega (arith, keyword-turns _ from inner k, optional-turns v, mark-turns _ behind to m)

  pub children-turns : {position : Position} {from : Input} {list : List Stmt} {to : Input} → Children position from list to → turns to < turns from
  children-turns (grammar.Children.no_child {from = from} {to = to} m) = omega (arith, mark-turns _ from to m)
  children-turns (grammar.Children.declared_child d others) = omega (arith, declared-turns d, children-turns others)
  children-turns (grammar.Children.stated_child s others) = omega (arith, statement-turns s, children-turns others)

  pub declared-turns : {from : Input} {tree : Stmt} {to : Input} → DeclaredChild from tree to → turns to < turns from
  declared-turns (grammar.DeclaredChild.declared a p d) = omega (arith, attributes-turns a, local-turns d)

  pub switch-turns : {position : Position} {from : Input} {tree : Stmt} {to : Input} → SwitchBody position from tree to → turns to < turns from
  switch-turns (grammar.SwitchBody.switch_body {behind = behind} {inner = inner} a p o c) =
      omega (arith, attributes-turns a, mark-turns _ behind inner o, cases-turns c)

  pub cases-turns : {position : Position} {from : Input} {list : List Stmt} {to : Input} → Cases position from list to → turns to < turns from
  cases-turns (grammar.Cases.no_case {from = from} {to = to} m) = omega (arith, mark-turns _ from to m)
  cases-turns (grammar.Cases.labelled_case l a p k others) = omega (arith, labels-turns l, attributes-turns a, kind-turns k, cases-turns others)
  cases-turns (grammar.Cases.declared_case d others) = omega (arith, declared-turns d, cases-turns others)
  cases-turns (grammar.Cases.stated_case s others) = omega (arith, statement-turns s, cases-turns others)

-- ---- what is related is read

module _ (limit : ℕ) where
  case-read : (place : Place) {inner : Input} {value : Expr} {colon to : Input} → Expression 2 inner value colon
      → mark marks.Colon colon ≡ Some to → expression_depth value ≤ limit
      → statements.case_behind (whole limit) place inner ≡ Some (labels.Case place value, to)
  unfolding statements.case_behind
  case-read place {colon = colon} {to = to} e c within =
      rw (expression-whole limit 2 e within (ends_at 2 _ colon (next_is _ colon to c) refl refl), c) refl

  default-read : (place : Place) (colon to : Input) → mark marks.Colon colon ≡ Some to
      → statements.default_behind (whole limit) place colon ≡ Some (labels.Default place, to)
  unfolding statements.default_behind
  default-read place colon to c = rw c refl

  case-label : (from : Input) (place : Place) (inner : Input) (value : Expr) (colon to : Input) → place_of from ≡ Some place
      → keyword words.Case from ≡ Some inner → Expression 2 inner value colon → mark marks.Colon colon ≡ Some to
      → expression_depth value ≤ limit → statements.label (whole limit) from ≡ Some (labels.Case place value, to)
  unfolding statements.label
  case-label from place inner value colon to p k e c within = rw (p, k) (case-read place e c within)

  default-label : (from : Input) (place : Place) (colon to : Input) → place_of from ≡ Some place
      → keyword words.Default from ≡ Some colon → mark marks.Colon colon ≡ Some to
      → statements.label (whole limit) from ≡ Some (labels.Default place, to)
  unfolding statements.label
  default-label from place colon to p k c = rw (p, other_keyword _ words.Case from colon k refl, k) (default-read place colon to c)

  labels-read : {from : Input} {list : List Label} {to : Input} → Labels from list to → (left : ℕ) → turns from ≤ left
      → deepest (map label_depth list) ≤ limit → begins_label to ≡ false → statements.labels_from (whole limit) left from ≡ Some (list, to)
  unfolding statements.labels_from
  labels-read (grammar.Labels.case {from = from} {inner = inner} p k e c) zero h within none = absurd (omega (arith, h, keyword-turns _ from inner k))
  labels-read (grammar.Labels.case p k e c) (suc left) h within none = rw (case-label _ _ _ _ _ _ p k e c (omega (arith, within)), none) refl
  labels-read (grammar.Labels.default {from = from} {colon = colon} p k c) zero h within none = absurd (omega (arith, h, keyword-turns _ from colon k))
  labels-read (grammar.Labels.default p k c) (suc left) h within none = rw (default-label _ _ _ _ p k c, none) refl
  labels-read (grammar.Labels.more_case {from = from} {inner = inner} p k e c others) zero h within none = absurd (omega (arith, h, keyword-turns _ from inner k))
  labels-read (grammar.Labels.more_case {from = from} {inner = inner} {colon = colon} {behind = behind} p k e c others) (suc left) h within none =
      rw (
        case-label _ _ _ _ _ _ p k e c (omega (arith, within)),
        (label_first others).0,
        labels-read others left
            (omega (arith, h, keyword-turns _ from inner k, expression-turns e, mark-turns _ colon behind c)) (omega (arith, within)) none,
      ) refl
  labels-read (grammar.Labels.more_default {from = from} {colon = colon} p k c others) zero h within none = absurd (omega (arith, h, keyword-turns _ from colon k))
  labels-read (grammar.Labels.more_default {from = from} {colon = colon} {behind = behind} p k c others) (suc left) h within none =
      rw (
        default-label _ _ _ _ p k c,
        (label_first others).0,
        labels-read others left
            (omega (arith, h, keyword-turns _ from colon k, mark-turns _ colon behind c)) (omega (arith, within)) none,
      ) refl

  tested-read : {from : Input} {tree : Expr} {to : Input} → Tested from tree to → expression_depth tree ≤ limit
      → statements.tested (whole limit) from ≡ Some (tree, to)
  unfolding statements.tested
  tested-read (grammar.Tested.tested {close = close} {to = to} o e c) within =
      rw (o, expression-whole limit 0 e within (ends_at 0 _ close (next_is _ close to c) refl refl), c) refl

  optional-read : {from : Input} {tree : Option Expr} {to : Input} (p : Punctuator) (after : Input) → Optional from tree to
      → option_map_or expression_depth tree 0 ≤ limit → mark p to ≡ Some after → operators.infix_mark p ≡ None
      → sameb punctuator.the_type marks.OpenParenthesis p ≡ false → is_start (operators.start_mark p) ≡ false
      → statements.optional (whole limit) p from ≡ Some (tree, to)
  unfolding statements.optional
  optional-read p after grammar.Optional.missing within m none differs other = rw m refl
  optional-read p after (grammar.Optional.given {to = to} e) within m none differs other =
      rw (no_mark_here p other e, expression-whole limit 0 e within (ends_at 0 p to (next_is p to after m) differs none)) refl

  begun-read : {from : Input} {init : ForInit} {to : Input} → Begun from init to → 1 ≤ limit → init_depth init ≤ limit
      → statements.begun (whole limit) from ≡ Some (init, to)
  unfolding statements.begun statements.begun_declaration statements.begun_expression
  begun-read (grammar.Begun.nothing m) some within = rw m refl
  begun-read (grammar.Begun.expression {from = from} {behind = behind} {to = to} e m) some within =
      rw (
        no_mark_here marks.Semicolon refl e,
        attributes-read (attributes.Attributes.none {from = from}) (no_mark_here marks.OpenBracket refl e),
        no_type_here e,
        expression-whole limit 0 e within (ends_at 0 _ behind (next_is _ behind to m) refl refl),
        m,
      ) refl
  begun-read (grammar.Begun.declaration {behind = behind} a p d) some within = let h = local_here d in
      rw (attributes_first marks.Semicolon refl a (local_no_semicolon d), attributes-read a h.1, h.0, p, local-read limit d some within) refl

  module _ (inner : Position → reading.Reader StmtKind) where
    statement-is : (position : Position) {from : Input} {list : List Attribute} {behind : Input} {place : Place} {kind : StmtKind} {to : Input}
        → Attributes from list behind → mark marks.OpenBracket behind ≡ None → place_of behind ≡ Some place
        → inner position behind ≡ Some (kind, to)
        → statements.statement (whole limit) inner position from ≡ Some (stated place [] list kind, to)
    unfolding statements.statement statements.stated_behind
    statement-is position a none p k = rw (attributes-read a none, p, k) refl

    child-is : (position : Position) {from : Input} {list : List Attribute} {behind : Input} {place : Place} {kind : StmtKind} {to : Input}
        → Attributes from list behind → Plain behind → place_of behind ≡ Some place → inner position behind ≡ Some (kind, to)
        → statements.child (whole limit) inner position from ≡ Some (stated place [] list kind, to)
    unfolding statements.child statements.stated_behind
    child-is position a f p k = rw (attributes-read a f.bracket, f.type, p, k) refl

    declared-is : (position : Position) {from : Input} {list : List Attribute} {behind : Input} {place : Place} {tree : Declaration} {to : Input}
        → Attributes from list behind → place_of behind ≡ Some place → LocalDeclaration behind tree to → 1 ≤ limit → declaration_depth tree ≤ limit
        → statements.child (whole limit) inner position from ≡ Some (stated place [] list (kinds.Declaration tree), to)
    unfolding statements.child statements.declared_behind
    declared-is position a p d some within = let h = local_here d in rw (attributes-read a h.1, h.0, p, local-read limit d some within) refl

    no_children : (position : Position) (left : ℕ) (from to : Input) → mark marks.CloseBrace from ≡ Some to
        → statements.children_from (whole limit) inner position (suc left) from ≡ Some ([], to)
    unfolding statements.children_from
    no_children position left from to m = rw m refl

    more_children : (position : Position) (left : ℕ) (from : Input) (one : Stmt) (rest : Input) (others : List Stmt) (to : Input)
        → mark marks.CloseBrace from ≡ None → statements.child (whole limit) inner position from ≡ Some (one, rest)
        → statements.children_from (whole limit) inner position left rest ≡ Some (others, to)
        → statements.children_from (whole limit) inner position (suc left) from ≡ Some (one ∷ others, to)
    unfolding statements.children_from
    more_children position left from one rest others to none c o = rw (none, c, o) refl

    labelled-is : (position : Position) {from : Input} {list : List Label} {start : Input} {attributes : List Attribute} {behind : Input}
        {place : Place} {kind : StmtKind} {to : Input} → Labels from list start → deepest (map label_depth list) ≤ limit
        → Attributes start attributes behind → Plain behind → place_of behind ≡ Some place → inner position behind ≡ Some (kind, to)
        → statements.case_child (whole limit) inner position from ≡ Some (stated place list attributes kind, to)
    unfolding statements.case_child statements.labelled statements.stated_behind
    labelled-is position {from = from} {start = start} l within a f p k =
        rw (
          (label_first l).0,
          labels-read l (turns from) (omega arith) within
              (no_label start (attributes_no_keyword words.Case a f.case) (attributes_no_keyword words.Default a f.default)),
          attributes-read a f.bracket,
          p,
          k,
        ) refl

    unlabelled-is : (position : Position) {from : Input} {one : Stmt} {rest : Input} → BeginsChild from
        → statements.child (whole limit) inner position from ≡ Some (one, rest)
        → statements.case_child (whole limit) inner position from ≡ Some (one, rest)
    unfolding statements.case_child
    unlabelled-is position {from} b c = rw (no_label from b.case b.default) c

    no_cases : (position : Position) (left : ℕ) (from to : Input) → mark marks.CloseBrace from ≡ Some to
        → statements.cases_from (whole limit) inner position (suc left) from ≡ Some ([], to)
    unfolding statements.cases_from
    no_cases position left from to m = rw m refl

    more_cases : (position : Position) (left : ℕ) (from : Input) (one : Stmt) (rest : Input) (others : List Stmt) (to : Input)
        → mark marks.CloseBrace from ≡ None → statements.case_child (whole limit) inner position from ≡ Some (one, rest)
        → statements.cases_from (whole limit) inner position left rest ≡ Some (others, to)
        → statements.cases_from (whole limit) inner position (suc left) from ≡ Some (one ∷ others, to)
    unfolding statements.cases_from
    more_cases position left from one rest others to none c o = rw (none, c, o) refl

    switch-is : (position : Position) {from : Input} {list : List Attribute} {behind : Input} {place : Place} {start : Input} {children : List Stmt}
        {to : Input} → Attributes from list behind → place_of behind ≡ Some place → mark marks.OpenBrace behind ≡ Some start
        → statements.cases_from (whole limit) inner position (turns start) start ≡ Some (children, to)
        → statements.switch_body (whole limit) inner position from ≡ Some (stated place [] list (kinds.Compound children), to)
    unfolding statements.switch_body
    switch-is position {behind = behind} {start = start} a p o c =
        rw (attributes-read a (other_mark _ marks.OpenBracket behind start o refl), p, o, c) refl

    -- ---- each production

    compound-is : (position : Position) (from start : Input) (children : List Stmt) (to : Input) → mark marks.OpenBrace from ≡ Some start
        → statements.children_from (whole limit) inner position (turns start) start ≡ Some (children, to)
        → kind_with (whole limit) inner position from ≡ Some (kinds.Compound children, under from to)
    unfolding kind_with
    compound-is position from start children to m c = rw (m, c) refl

    empty-is : (position : Position) (from to : Input) → mark marks.Semicolon from ≡ Some to
        → kind_with (whole limit) inner position from ≡ Some (kinds.Empty, to)
    unfolding kind_with
    empty-is position from to m = rw (other_mark _ marks.OpenBrace from to m refl, m) refl

    by_keyword : (position : Position) (w : Keyword) (from rest : Input) → keyword w from ≡ Some rest
        → kind_with (whole limit) inner position from ≡ statements.keyword_kind (whole limit) inner position from
    unfolding kind_with
    by_keyword position w from rest k =
        rw (no_mark_at_keyword marks.OpenBrace w from rest k, no_mark_at_keyword marks.Semicolon w from rest k) refl

    if-is : (position : Position) (from outer : Input) (test : Expr) (start : Input) (one : Stmt) (to : Input) → keyword words.If from ≡ Some outer
        → statements.tested (whole limit) outer ≡ Some (test, start)
        → statements.statement (whole limit) inner position start ≡ Some (one, to) → keyword words.Else (under start to) ≡ None
        → kind_with (whole limit) inner position from ≡ Some (kinds.If test one, under from to)
    unfolding statements.keyword_kind statements.if_behind
    if-is position from outer test start one to k t s n = by_keyword position words.If from outer k ∙ rw (k, t, s, n) refl

    if_else-is : (position : Position) (from outer : Input) (test : Expr) (start : Input) (one : Stmt) (rest other : Input) (two : Stmt) (to : Input)
        → keyword words.If from ≡ Some outer → statements.tested (whole limit) outer ≡ Some (test, start)
        → statements.statement (whole limit) inner position start ≡ Some (one, rest) → keyword words.Else (under start rest) ≡ Some other
        → statements.statement (whole limit) inner position other ≡ Some (two, to)
        → kind_with (whole limit) inner position from ≡ Some (kinds.IfElse test one two, under from to)
    unfolding statements.keyword_kind statements.if_behind
    if_else-is position from outer test start one rest other two to k t s n o = by_keyword position words.If from outer k ∙ rw (k, t, s, n, o) refl

    switch_kind-is : (position : Position) (from outer : Input) (value : Expr) (start : Input) (body : Stmt) (to : Input)
        → keyword words.Switch from ≡ Some outer → statements.tested (whole limit) outer ≡ Some (value, start)
        → statements.switch_body (whole limit) inner (in_switch position) start ≡ Some (body, to)
        → kind_with (whole limit) inner position from ≡ Some (kinds.Switch value body, under from to)
    unfolding statements.keyword_kind statements.switch_behind
    switch_kind-is position from outer value start body to k t s =
        by_keyword position words.Switch from outer k ∙ rw (other_keyword _ words.If from outer k refl, k, t, s) refl

    while-is : (position : Position) (from outer : Input) (test : Expr) (start : Input) (body : Stmt) (to : Input)
        → keyword words.While from ≡ Some outer → statements.tested (whole limit) outer ≡ Some (test, start)
        → statements.statement (whole limit) inner in_loop start ≡ Some (body, to)
        → kind_with (whole limit) inner position from ≡ Some (kinds.While test body, under from to)
    unfolding statements.keyword_kind statements.loop_kind statements.while_behind
    while-is position from outer test start body to k t s = by_keyword position words.While from outer k
        ∙ rw (other_keyword _ words.If from outer k refl, other_keyword _ words.Switch from outer k refl, k, t, s) refl

    do-is : (position : Position) (from start : Input) (body : Stmt) (rest outer : Input) (test : Expr) (close to : Input)
        → keyword words.Do from ≡ Some start → statements.statement (whole limit) inner in_loop start ≡ Some (body, rest)
        → keyword words.While (under start rest) ≡ Some outer → statements.tested (whole limit) outer ≡ Some (test, close)
        → mark marks.Semicolon close ≡ Some to
        → kind_with (whole limit) inner position from ≡ Some (kinds.Do body test, under from to)
    unfolding statements.keyword_kind statements.loop_kind statements.do_behind
    do-is position from start body rest outer test close to k s w t m = by_keyword position words.Do from start k
        ∙ rw (
          other_keyword _ words.If from start k refl,
          other_keyword _ words.Switch from start k refl,
          other_keyword _ words.While from start k refl,
          k,
          s,
          w,
          t,
          m,
        ) refl

    for-is : (position : Position) (from outer start : Input) (init : ForInit) (first : Input) (test : Option Expr) (second third : Input)
        (step : Option Expr) (close rest : Input) (body : Stmt) (to : Input)
        → keyword words.For from ≡ Some outer → mark marks.OpenParenthesis outer ≡ Some start → statements.begun (whole limit) start ≡ Some (init, first)
        → statements.optional (whole limit) marks.Semicolon first ≡ Some (test, second) → mark marks.Semicolon second ≡ Some third
        → statements.optional (whole limit) marks.CloseParenthesis third ≡ Some (step, close) → mark marks.CloseParenthesis close ≡ Some rest
        → statements.statement (whole limit) inner in_loop rest ≡ Some (body, to)
        → kind_with (whole limit) inner position from ≡ Some (kinds.For init test step body, under from to)
    unfolding statements.keyword_kind statements.loop_kind statements.for_behind
    for-is position from outer start init first test second third step close rest body to k a b c d e f s = by_keyword position words.For from outer k
        ∙ rw (
          other_keyword _ words.If from outer k refl,
          other_keyword _ words.Switch from outer k refl,
          other_keyword _ words.While from outer k refl,
          other_keyword _ words.Do from outer k refl,
          k,
          a,
          b,
          c,
          d,
          e,
          f,
          s,
        ) refl

    continue-is : (position : Position) (from rest to : Input) → position.continues ≡ true → keyword words.Continue from ≡ Some rest
        → mark marks.Semicolon rest ≡ Some to → kind_with (whole limit) inner position from ≡ Some (kinds.Continue, to)
    unfolding statements.keyword_kind statements.loop_kind statements.jump_kind statements.jump
    continue-is position from rest to p k m = by_keyword position words.Continue from rest k
        ∙ rw (
          other_keyword _ words.If from rest k refl,
          other_keyword _ words.Switch from rest k refl,
          other_keyword _ words.While from rest k refl,
          other_keyword _ words.Do from rest k refl,
          other_keyword _ words.For from rest k refl,
          k,
          p,
          m,
        ) refl

    break-is : (position : Position) (from rest to : Input) → position.breaks ≡ true → keyword words.Break from ≡ Some rest
        → mark marks.Semicolon rest ≡ Some to → kind_with (whole limit) inner position from ≡ Some (kinds.Break, to)
    unfolding statements.keyword_kind statements.loop_kind statements.jump_kind statements.jump
    break-is position from rest to p k m = by_keyword position words.Break from rest k
        ∙ rw (
          other_keyword _ words.If from rest k refl,
          other_keyword _ words.Switch from rest k refl,
          other_keyword _ words.While from rest k refl,
          other_keyword _ words.Do from rest k refl,
          other_keyword _ words.For from rest k refl,
          other_keyword _ words.Continue from rest k refl,
          k,
          p,
          m,
        ) refl

    return-is : (position : Position) (from start : Input) (value : Option Expr) (rest to : Input) → keyword words.Return from ≡ Some start
        → statements.optional (whole limit) marks.Semicolon start ≡ Some (value, rest) → mark marks.Semicolon rest ≡ Some to
        → kind_with (whole limit) inner position from ≡ Some (kinds.Return value, to)
    unfolding statements.keyword_kind statements.loop_kind statements.jump_kind statements.return_behind
    return-is position from start value rest to k v m = by_keyword position words.Return from start k
        ∙ rw (
          other_keyword _ words.If from start k refl,
          other_keyword _ words.Switch from start k refl,
          other_keyword _ words.While from start k refl,
          other_keyword _ words.Do from start k refl,
          other_keyword _ words.For from start k refl,
          other_keyword _ words.Continue from start k refl,
          other_keyword _ words.Break from start k refl,
          k,
          v,
          m,
        ) refl

    expression-is : (position : Position) {from : Input} {tree : Expr} {rest to : Input} → Expression 0 from tree rest → expression_depth tree ≤ limit
        → mark marks.Semicolon rest ≡ Some to → kind_with (whole limit) inner position from ≡ Some (kinds.Expression tree, to)
    unfolding kind_with statements.keyword_kind statements.loop_kind statements.jump_kind statements.expression_kind
    expression-is position {rest = rest} {to = to} e within m =
        rw (
          no_mark_here marks.OpenBrace refl e,
          no_mark_here marks.Semicolon refl e,
          no_keyword_here words.If (λ meaning text. refl) e,
          no_keyword_here words.Switch (λ meaning text. refl) e,
          no_keyword_here words.While (λ meaning text. refl) e,
          no_keyword_here words.Do (λ meaning text. refl) e,
          no_keyword_here words.For (λ meaning text. refl) e,
          no_keyword_here words.Continue (λ meaning text. refl) e,
          no_keyword_here words.Break (λ meaning text. refl) e,
          no_keyword_here words.Return (λ meaning text. refl) e,
          expression-whole limit 0 e within (ends_at 0 _ rest (next_is _ rest to m) refl refl),
          m,
        ) refl

  next_kind : (room : ℕ) (position : Position) (from : Input) → kind_at (whole limit) (suc room) position from
      ≡ kind_with (whole limit) (kind_at (whole limit) room) position from
  unfolding kind_at
  next_kind room position from = refl

  mutual
    pub kind-read : {position : Position} {from : Input} {kind : StmtKind} {to : Input} → Kind position from kind to → (room : ℕ)
        → kind_depth kind ≤ suc room → kind_depth kind ≤ limit → FreeIf (kind_ends_in_if kind) to
        → kind_at (whole limit) (suc room) position from ≡ Some (kind, to)
    kind-read {position} (grammar.Kind.compound {from = from} {inner = start} {children = list} {to = to} m c) room deep within free =
        let d = depth-Compound list in
        next_kind room position from ∙ compound-is (kind_at (whole limit) room) position from start list to m
        (children-read c room (turns start) (omega arith) (omega (arith, d, deep)) (omega (arith, d, within)))
    kind-read {position} (grammar.Kind.expression {from = from} {tree = tree} e m) room deep within free =
        next_kind room position from ∙ expression-is (kind_at (whole limit) room) position e (omega (arith, depth-Expression tree, within)) m
    kind-read {position} (grammar.Kind.empty {from = from} {to = to} m) room deep within free =
        next_kind room position from ∙ empty-is (kind_at (whole limit) room) position from to m
    kind-read {position} (grammar.Kind.if_ {from = from} {open_ = outer} {test = test} {inner = start} {then_ = one} {to = to} k t s) room deep within free =
        let d = depth-If test one in
        let none = none_inside words.Else from to (free (open-If test one)) in
        next_kind room position from ∙ if-is (kind_at (whole limit) room) position from outer test start one to k
        (tested-read t (omega (arith, d, within))) (statement-read s room (omega (arith, d, deep)) (omega (arith, d, within)) (λ _. none))
        (none_under words.Else start to none)
    kind-read {position} (grammar.Kind.if_else {from = from} {open_ = outer} {test = test} {inner = start} {then_ = one} {behind = rest} {other = other} {otherwise = two} {to = to} k t s f n o)
        room deep within free =
        let d = depth-IfElse test one two in
        next_kind room position from ∙ if_else-is (kind_at (whole limit) room) position from outer test start one rest other two to k
        (tested-read t (omega (arith, d, within)))
        (statement-read s room (omega (arith, d, deep)) (omega (arith, d, within)) (λ ends. absurd (false≢true (sym f ∙ ends)))) n
        (statement-read o room (omega (arith, d, deep)) (omega (arith, d, within))
        (λ ends. none_inside words.Else from to (free (open-IfElse test one two ∙ ends))))
    kind-read {position} (grammar.Kind.switch {from = from} {open_ = outer} {value = value} {inner = start} {body = body} {to = to} k t s) room deep within free =
        let d = depth-Switch value body in
        next_kind room position from ∙ switch_kind-is (kind_at (whole limit) room) position from outer value start body to k
        (tested-read t (omega (arith, d, within))) (switch-read s room (omega (arith, d, deep)) (omega (arith, d, within)))
    kind-read {position} (grammar.Kind.while {from = from} {open_ = outer} {test = test} {inner = start} {body = body} {to = to} k t s) room deep within free =
        let d = depth-While test body in
        next_kind room position from ∙ while-is (kind_at (whole limit) room) position from outer test start body to k
        (tested-read t (omega (arith, d, within))) (statement-read s room (omega (arith, d, deep)) (omega (arith, d, within))
        (λ ends. none_inside words.Else from to (free (open-While test body ∙ ends))))
    kind-read {position} (grammar.Kind.do_ {from = from} {inner = start} {body = body} {behind = rest} {open_ = outer} {test = test} {close = close} {to = to} k s w t m)
        room deep within free =
        let d = depth-Do body test in
        next_kind room position from ∙ do-is (kind_at (whole limit) room) position from start body rest outer test close to k
        (statement-read s room (omega (arith, d, deep)) (omega (arith, d, within))
        (λ _. none_inside words.Else start rest (other_keyword _ words.Else (under start rest) outer w refl)))
        w (tested-read t (omega (arith, d, within))) m
    kind-read {position} (grammar.Kind.for {from = from} {open_ = outer} {inner = start} {init = init} {first = first} {test = test} {second = second} {third = third} {step = step} {close = close} {rest = rest} {body = body} {to = to} k a b c d e f s)
        room deep within free =
        let h = depth-For init test step body in
        next_kind room position from ∙ for-is (kind_at (whole limit) room) position from outer start init first test second third step close rest body to k a
        (begun-read b (omega (arith, h, within)) (omega (arith, h, within)))
        (optional-read marks.Semicolon third c (omega (arith, h, within)) d refl refl refl) d
        (optional-read marks.CloseParenthesis rest e (omega (arith, h, within)) f refl refl refl) f
        (statement-read s room (omega (arith, h, deep)) (omega (arith, h, within))
        (λ ends. none_inside words.Else from to (free (open-For init test step body ∙ ends))))
    kind-read {position} (grammar.Kind.continue {from = from} {behind = rest} {to = to} p k m) room deep within free =
        next_kind room position from ∙ continue-is (kind_at (whole limit) room) position from rest to p k m
    kind-read {position} (grammar.Kind.break {from = from} {behind = rest} {to = to} p k m) room deep within free =
        next_kind room position from ∙ break-is (kind_at (whole limit) room) position from rest to p k m
    kind-read {position} (grammar.Kind.return {from = from} {inner = start} {value = value} {behind = rest} {to = to} k v m) room deep within free =
        next_kind room position from ∙ return-is (kind_at (whole limit) room) position from start value rest to k
        (optional-read marks.Semicolon to v (omega (arith, depth-Return value, within)) m refl refl refl) m

    pub statement-read : {position : Position} {from : Input} {tree : Stmt} {to : Input} → Statement position from tree to → (room : ℕ)
        → statement_depth tree ≤ room → statement_depth tree ≤ limit → FreeIf (ends_in_if tree) to
        → statements.statement (whole limit) (kind_at (whole limit) room) position from ≡ Some (tree, to)
    statement-read (grammar.Statement.statement {attributes = list} {place = place} {kind = kind} a p k) zero deep within free =
        absurd (omega (arith, deep, depth-stated place [] list kind))
    statement-read {position} (grammar.Statement.statement {attributes = list} {place = place} {kind = kind} a p k) (suc room) deep within free =
        let d = depth-stated place [] list kind in
        statement-is (kind_at (whole limit) (suc room)) position a (kind_first k).bracket p
        (kind-read k room (omega (arith, d, deep)) (omega (arith, d, within)) (λ ends. free (open-stated place [] list kind ∙ ends)))

    pub children-read : {position : Position} {from : Input} {list : List Stmt} {to : Input} → Children position from list to → (room left : ℕ)
        → turns from ≤ left → deepest (map statement_depth list) ≤ room → deepest (map statement_depth list) ≤ limit
        → statements.children_from (whole limit) (kind_at (whole limit) room) position left from ≡ Some (list, to)
    children-read (grammar.Children.no_child {from = from} {to = to} m) room zero h deep within = absurd (omega (arith, h, mark-turns _ from to m))
    children-read {position} (grammar.Children.no_child {from = from} {to = to} m) room (suc left) h deep within =
        no_children (kind_at (whole limit) room) position left from to m
    children-read (grammar.Children.declared_child d others) room zero h deep within = absurd (omega (arith, h, declared-turns d))
    children-read {position} (grammar.Children.declared_child {from = from} {one = one} {behind = rest} {others = list} {to = to} d others) room (suc left) h deep within =
        more_children (kind_at (whole limit) room) position left from one rest list to (declared_first d).brace
        (declared-read d position room (omega (arith, within)))
        (children-read others room left (omega (arith, h, declared-turns d)) (omega (arith, deep)) (omega (arith, within)))
    children-read (grammar.Children.stated_child s others) room zero h deep within = absurd (omega (arith, h, statement-turns s))
    children-read {position} (grammar.Children.stated_child {from = from} {one = one} {behind = rest} {others = list} {to = to} s others) room (suc left) h deep within =
        more_children (kind_at (whole limit) room) position left from one rest list to (statement_first s).brace
        (child-read s room (omega (arith, deep)) (omega (arith, within)) (children_no_else others))
        (children-read others room left (omega (arith, h, statement-turns s)) (omega (arith, deep)) (omega (arith, within)))

    child-read : {position : Position} {from : Input} {tree : Stmt} {to : Input} → Statement position from tree to → (room : ℕ)
        → statement_depth tree ≤ room → statement_depth tree ≤ limit → keyword words.Else to ≡ None
        → statements.child (whole limit) (kind_at (whole limit) room) position from ≡ Some (tree, to)
    child-read (grammar.Statement.statement {attributes = list} {place = place} {kind = kind} a p k) zero deep within none =
        absurd (omega (arith, deep, depth-stated place [] list kind))
    child-read {position} (grammar.Statement.statement {attributes = list} {place = place} {kind = kind} a p k) (suc room) deep within none =
        let d = depth-stated place [] list kind in
        child-is (kind_at (whole limit) (suc room)) position a (kind_first k) p
        (kind-read k room (omega (arith, d, deep)) (omega (arith, d, within)) (λ _. none))

    declared-read : {from : Input} {tree : Stmt} {to : Input} → DeclaredChild from tree to → (position : Position) (room : ℕ)
        → statement_depth tree ≤ limit
        → statements.child (whole limit) (kind_at (whole limit) room) position from ≡ Some (tree, to)
    declared-read (grammar.DeclaredChild.declared {attributes = list} {place = place} {tree = tree} a p d) position room within =
        let h = depth-stated place [] list (kinds.Declaration tree) in
        let g = depth-Declaration tree in
        declared-is (kind_at (whole limit) room) position a p d (omega (arith, h, g, within)) (omega (arith, h, g, within))

    switch-read : {position : Position} {from : Input} {tree : Stmt} {to : Input} → SwitchBody position from tree to → (room : ℕ)
        → statement_depth tree ≤ room → statement_depth tree ≤ limit
        → statements.switch_body (whole limit) (kind_at (whole limit) room) position from ≡ Some (tree, to)
    switch-read {position} (grammar.SwitchBody.switch_body {attributes = list} {place = place} {inner = start} {children = children} a p o c) room deep within =
        let h = depth-stated place [] list (kinds.Compound children) in
        let g = depth-Compound children in
        switch-is (kind_at (whole limit) room) position a p o
        (cases-read c room (turns start) (omega arith) (omega (arith, h, g, deep)) (omega (arith, h, g, within)))

    cases-read : {position : Position} {from : Input} {list : List Stmt} {to : Input} → Cases position from list to → (room left : ℕ)
        → turns from ≤ left → deepest (map statement_depth list) ≤ room → deepest (map statement_depth list) ≤ limit
        → statements.cases_from (whole limit) (kind_at (whole limit) room) position left from ≡ Some (list, to)
    cases-read (grammar.Cases.no_case {from = from} {to = to} m) room zero h deep within = absurd (omega (arith, h, mark-turns _ from to m))
    cases-read {position} (grammar.Cases.no_case {from = from} {to = to} m) room (suc left) h deep within =
        no_cases (kind_at (whole limit) room) position left from to m
    cases-read (grammar.Cases.labelled_case l a p k others) room zero h deep within = absurd (omega (arith, h, labels-turns l))
    cases-read (grammar.Cases.labelled_case {list = labels} {attributes = list} {place = place} {kind = kind} l a p k others) zero (suc left) h deep within =
        absurd (omega (arith, deep, depth-stated place labels list kind))
    cases-read {position} (grammar.Cases.labelled_case {from = from} {list = labels} {attributes = list} {place = place} {kind = kind} {behind = rest} {others = children} {to = to} l a p k others)
        (suc room) (suc left) h deep within =
        let d = depth-stated place labels list kind in
        more_cases (kind_at (whole limit) (suc room)) position left from (stated place labels list kind) rest children to (label_first l).1
        (labelled-is (kind_at (whole limit) (suc room)) position l (omega (arith, d, within)) a (kind_first k) p
        (kind-read k room (omega (arith, d, deep)) (omega (arith, d, within)) (λ _. cases_no_else others)))
        (cases-read others (suc room) left (omega (arith, h, labels-turns l, attributes-turns a, kind-turns k)) (omega (arith, deep)) (omega (arith, within)))
    cases-read (grammar.Cases.declared_case d others) room zero h deep within = absurd (omega (arith, h, declared-turns d))
    cases-read {position} (grammar.Cases.declared_case {from = from} {one = one} {behind = rest} {others = list} {to = to} d others) room (suc left) h deep within =
        more_cases (kind_at (whole limit) room) position left from one rest list to (declared_first d).brace
        (unlabelled-is (kind_at (whole limit) room) position (declared_first d) (declared-read d position room (omega (arith, within))))
        (cases-read others room left (omega (arith, h, declared-turns d)) (omega (arith, deep)) (omega (arith, within)))
    cases-read (grammar.Cases.stated_case s others) room zero h deep within = absurd (omega (arith, h, statement-turns s))
    cases-read {position} (grammar.Cases.stated_case {from = from} {one = one} {behind = rest} {others = list} {to = to} s others) room (suc left) h deep within =
        more_cases (kind_at (whole limit) room) position left from one rest list to (statement_first s).brace
        (unlabelled-is (kind_at (whole limit) room) position (statement_first s)
        (child-read s room (omega (arith, deep)) (omega (arith, within)) (cases_no_else others)))
        (cases-read others room left (omega (arith, h, statement-turns s)) (omega (arith, deep)) (omega (arith, within)))
