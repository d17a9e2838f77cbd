-- Reading only adds names to those in scope: statements.
use Rattle.std.proofs.Common.{◌≡◌, ℕ, List, Option, Some, subst}
use Rattle.c_syntax.specs.declared.expr.Expr.{Expr}
use Rattle.c_syntax.specs.declared.stmt.ForInit.{ForInit}
use Rattle.c_syntax.specs.declared.stmt.Label.{Label}
use Rattle.c_syntax.specs.declared.stmt.Stmt.{Stmt}
use Rattle.c_syntax.specs.declared.stmt.StmtKind.{StmtKind}
use Rattle.c_lexer.specs.declared.keyword.Keyword.{Keyword}
use Rattle.c_lexer.specs.declared.punctuator.Punctuator.{Punctuator}
use Rattle.c_grammar.specs.Input.{Input, mark}
use Rattle.c_grammar.specs.Declarations.{under}
use Rattle.c_grammar.specs.Statements as grammar
use Rattle.c_grammar.specs.Statements.{keyword, Position, Labels, Tested, Optional, Begun, Statement, Kind, Children, DeclaredChild, SwitchBody, Cases}
use Rattle.c_grammar.specs.Reading.{nested}
use Rattle.c_grammar.specs.StatementReading as statements
use Rattle.c_grammar.specs.StatementReading.{kind_at}
use Rattle.c_grammar.proofs.Keywords.{worded}
use Rattle.c_grammar.proofs.Kept.{Extends, through, nothing, under-kept, next-kept, mark-kept, attributes-kept, expression-kept}
use Rattle.c_grammar.proofs.DeclarationsKept.{local-kept}
use Rattle.c_grammar.proofs.Sound.{nested-sound}
use Rattle.c_grammar.proofs.StatementsSound.{tested-sound, optional-sound, begun-sound, kind_at-related, statement-sound, children-sound, cases-sound, switch-sound}

pub keyword-kept : (w : Keyword) (from to : Input) → keyword w from ≡ Some to → Extends from to
keyword-kept w from to e =
    let m = worded w from to e in subst (λ (i : Input). Extends from i) m.rest (next-kept from m.taken m.next)

pub labels-kept : {from : Input} {list : List Label} {to : Input} → Labels from list to → Extends from to
labels-kept (grammar.Labels.case {from = from} {inner = inner} {colon = colon} {to = to} p k e c) =
    through (keyword-kept _ from inner k) (through (expression-kept e) (mark-kept _ colon to c))
labels-kept (grammar.Labels.default {from = from} {colon = colon} {to = to} p k c) = through (keyword-kept _ from colon k) (mark-kept _ colon to c)
labels-kept (grammar.Labels.more_case {from = from} {inner = inner} {colon = colon} {behind = behind} p k e c others) =
    through (keyword-kept _ from inner k) (through (expression-kept e) (through (mark-kept _ colon behind c) (labels-kept others)))
labels-kept (grammar.Labels.more_default {from = from} {colon = colon} {behind = behind} p k c others) =
    through (keyword-kept _ from colon k) (through (mark-kept _ colon behind c) (labels-kept others))

pub tested-kept : {from : Input} {tree : Expr} {to : Input} → Tested from tree to → Extends from to
tested-kept (grammar.Tested.tested {from = from} {inner = inner} {close = close} {to = to} o e c) =
    through (mark-kept _ from inner o) (through (expression-kept e) (mark-kept _ close to c))

pub optional-kept : {from : Input} {tree : Option Expr} {to : Input} → Optional from tree to → Extends from to
optional-kept grammar.Optional.missing = nothing _
optional-kept (grammar.Optional.given e) = expression-kept e

pub begun-kept : {from : Input} {init : ForInit} {to : Input} → Begun from init to → Extends from to
begun-kept (grammar.Begun.nothing {from = from} {to = to} m) = mark-kept _ from to m
begun-kept (grammar.Begun.expression {behind = behind} {to = to} e m) = through (expression-kept e) (mark-kept _ behind to m)
begun-kept (grammar.Begun.declaration a p d) = through (attributes-kept a) (local-kept d)

mutual
  pub statement-kept : {position : Position} {from : Input} {tree : Stmt} {to : Input} → Statement position from tree to → Extends from to
  statement-kept (grammar.Statement.statement a p k) = through (attributes-kept a) (kind-kept k)

  pub kind-kept : {position : Position} {from : Input} {kind : StmtKind} {to : Input} → Kind position from kind to → Extends from to
  kind-kept (grammar.Kind.compound {from = from} {to = to} a b) = under-kept from to
  kind-kept (grammar.Kind.expression {behind = behind} {to = to} e m) = through (expression-kept e) (mark-kept _ behind to m)
  kind-kept (grammar.Kind.empty {from = from} {to = to} m) = mark-kept _ from to m
  kind-kept (grammar.Kind.if_ {from = from} {to = to} a b c) = under-kept from to
  kind-kept (grammar.Kind.if_else {from = from} {to = to} a b c d e f) = under-kept from to
  kind-kept (grammar.Kind.switch {from = from} {to = to} a b c) = under-kept from to
  kind-kept (grammar.Kind.while {from = from} {to = to} a b c) = under-kept from to
  kind-kept (grammar.Kind.do_ {from = from} {to = to} a b c d e) = under-kept from to
  kind-kept (grammar.Kind.for {from = from} {to = to} a b c d e f g h) = under-kept from to
  kind-kept (grammar.Kind.continue {from = from} {behind = behind} {to = to} p k m) = through (keyword-kept _ from behind k) (mark-kept _ behind to m)
  kind-kept (grammar.Kind.break {from = from} {behind = behind} {to = to} p k m) = through (keyword-kept _ from behind k) (mark-kept _ behind to m)
  kind-kept (grammar.Kind.return {from = from} {inner = inner} {behind = behind} {to = to} k v m) =
      through (keyword-kept _ from inner k) (through (optional-kept v) (mark-kept _ behind to m))

  pub children-kept : {position : Position} {from : Input} {list : List Stmt} {to : Input} → Children position from list to → Extends from to
  children-kept (grammar.Children.no_child {from = from} {to = to} m) = mark-kept _ from to m
  children-kept (grammar.Children.declared_child d others) = through (declared_child-kept d) (children-kept others)
  children-kept (grammar.Children.stated_child s others) = through (statement-kept s) (children-kept others)

  pub declared_child-kept : {from : Input} {tree : Stmt} {to : Input} → DeclaredChild from tree to → Extends from to
  declared_child-kept (grammar.DeclaredChild.declared a p d) = through (attributes-kept a) (local-kept d)

  pub switch-kept : {position : Position} {from : Input} {tree : Stmt} {to : Input} → SwitchBody position from tree to → Extends from to
  switch-kept (grammar.SwitchBody.switch_body {behind = behind} {inner = inner} a p o c) =
      through (attributes-kept a) (through (mark-kept _ behind inner o) (cases-kept c))

  pub cases-kept : {position : Position} {from : Input} {list : List Stmt} {to : Input} → Cases position from list to → Extends from to
  cases-kept (grammar.Cases.no_case {from = from} {to = to} m) = mark-kept _ from to m
  cases-kept (grammar.Cases.labelled_case l a p k others) = through (labels-kept l) (through (attributes-kept a) (through (kind-kept k) (cases-kept others)))
  cases-kept (grammar.Cases.declared_case d others) = through (declared_child-kept d) (cases-kept others)
  cases-kept (grammar.Cases.stated_case s others) = through (statement-kept s) (cases-kept others)

-- ---- what is read, with the expressions in it up to a depth

module _ (limit deep : ℕ) where
  pub read_tested-kept : (from : Input) (tree : Expr) (to : Input)
      → statements.tested (nested limit deep).expression from ≡ Some (tree, to) → Extends from to
  read_tested-kept from tree to e =
      tested-kept (tested-sound limit (nested limit deep).expression (nested-sound limit deep).expressions from tree to e)

  pub read_optional-kept : (p : Punctuator) (from : Input) (tree : Option Expr) (to : Input)
      → statements.optional (nested limit deep).expression p from ≡ Some (tree, to) → Extends from to
  read_optional-kept p from tree to e =
      optional-kept (optional-sound limit (nested limit deep).expression (nested-sound limit deep).expressions p from tree to e)

  pub read_begun-kept : (from : Input) (init : ForInit) (to : Input)
      → statements.begun (nested limit deep).expression from ≡ Some (init, to) → Extends from to
  read_begun-kept from init to e =
      begun-kept (begun-sound limit (nested limit deep).expression (nested-sound limit deep).expressions from init to e)

  pub read_kind-kept : (room : ℕ) (position : Position) (from : Input) (kind : StmtKind) (to : Input)
      → kind_at (nested limit deep).expression room position from ≡ Some (kind, to) → Extends from to
  read_kind-kept room position from kind to e =
      kind-kept (kind_at-related limit (nested limit deep).expression (nested-sound limit deep).expressions room position from kind to e).is

  pub read_statement-kept : (room : ℕ) (position : Position) (from : Input) (tree : Stmt) (to : Input)
      → statements.statement (nested limit deep).expression (kind_at (nested limit deep).expression room) position from
      ≡ Some (tree, to) → Extends from to
  read_statement-kept room position from tree to e = statement-kept (statement-sound limit (nested limit deep).expression
      (nested-sound limit deep).expressions (kind_at (nested limit deep).expression room)
      (kind_at-related limit (nested limit deep).expression (nested-sound limit deep).expressions room) position from tree to e)

  pub read_children-kept : (room : ℕ) (position : Position) (left : ℕ) (from : Input) (list : List Stmt) (to : Input)
      → statements.children_from (nested limit deep).expression (kind_at (nested limit deep).expression room) position left from
      ≡ Some (list, to) → Extends from to
  read_children-kept room position left from list to e = children-kept (children-sound limit (nested limit deep).expression
      (nested-sound limit deep).expressions (kind_at (nested limit deep).expression room)
      (kind_at-related limit (nested limit deep).expression (nested-sound limit deep).expressions room) position left from list to e)

  pub read_cases-kept : (room : ℕ) (position : Position) (left : ℕ) (from : Input) (list : List Stmt) (to : Input)
      → statements.cases_from (nested limit deep).expression (kind_at (nested limit deep).expression room) position left from
      ≡ Some (list, to) → Extends from to
  read_cases-kept room position left from list to e = cases-kept (cases-sound limit (nested limit deep).expression
      (nested-sound limit deep).expressions (kind_at (nested limit deep).expression room)
      (kind_at-related limit (nested limit deep).expression (nested-sound limit deep).expressions room) position left from list to e)

  pub read_switch-kept : (room : ℕ) (position : Position) (from : Input) (tree : Stmt) (to : Input)
      → statements.switch_body (nested limit deep).expression (kind_at (nested limit deep).expression room) position from
      ≡ Some (tree, to) → Extends from to
  read_switch-kept room position from tree to e = switch-kept (switch-sound limit (nested limit deep).expression
      (nested-sound limit deep).expressions (kind_at (nested limit deep).expression room)
      (kind_at-related limit (nested limit deep).expression (nested-sound limit deep).expressions room) position from tree to e)
