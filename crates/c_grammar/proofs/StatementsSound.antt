-- What is read of statements is related by the grammar.
use Rattle.std.proofs.Common.{◌≡◌, ℕ, zero, suc, Bool, true, false, List, [], ◌∷◌, Option, Some, None, sym, refl, ◌∙◌}
use Rattle.std.specs.Prelude.{◌⊎◌}
use mathlib.Core.Logic.{inl, inr, ⊎_elim}
use Rattle.std.proofs.lemmas.Option.{none-some, some_pair_parts}
use Rattle.rc_text.specs.declared.place.Place.{Place}
use Rattle.c_lexer.specs.declared.keyword.Keyword.TheVariants as words
use Rattle.c_lexer.specs.declared.punctuator.Punctuator.{Punctuator}
use Rattle.c_lexer.specs.declared.punctuator.Punctuator.TheVariants as marks
use Rattle.c_syntax.specs.declared.attribute.Attribute.{Attribute}
use Rattle.c_syntax.specs.declared.expr.Expr.{Expr}
use Rattle.c_syntax.specs.declared.stmt.ForInit.{ForInit}
use Rattle.c_syntax.specs.declared.stmt.ForInit.TheVariants as inits
use Rattle.c_syntax.specs.declared.stmt.Label.{Label}
use Rattle.c_syntax.specs.declared.stmt.Label.TheVariants as labels
use Rattle.c_syntax.specs.declared.stmt.Stmt.{Stmt}
use Rattle.c_syntax.specs.declared.stmt.StmtKind.{StmtKind}
use Rattle.c_syntax.specs.declared.stmt.StmtKind.TheVariants as kinds
use Rattle.c_grammar.specs.Input.{Input, mark}
use Rattle.c_grammar.specs.Declarations.{under}
use Rattle.c_grammar.specs.Statements as grammar
use Rattle.c_grammar.specs.Statements.{keyword, place_of, Position, in_loop, in_switch, ends_in_if, Labels, Tested, Optional, Begun, Statement, Kind, Children, DeclaredChild, SwitchBody, Cases}
use Rattle.c_grammar.specs.Reading as reading
use Rattle.c_grammar.specs.Reading.{Reader, turns, begins_type}
use Rattle.c_grammar.specs.DeclarationReading as declarations
use Rattle.c_grammar.specs.StatementReading as statements
use Rattle.c_grammar.specs.StatementReading.{stated, begins_label, kind_at, kind_with}
use Rattle.c_grammar.proofs.Steps.{into, into_onward, into_past, into_either, into_if}
use Rattle.c_grammar.proofs.OpenIfs.{FreeIf, kind_ends_in_if, asks_nothing, open-stated, open-If, open-IfElse, open-While, open-For, open-Compound, open-Expression, open-Switch, open-Do, open-Return, open-Empty, open-Continue, open-Break, none_under, none_inside}
use Rattle.c_grammar.proofs.AttributesRead.{attributes-sound}
use Rattle.c_grammar.proofs.Sound.{SoundExpressions}
use Rattle.c_grammar.proofs.DeclarationsSound.{local-sound}

-- one label, and what it makes of a list of those behind it
record OneLabel (from : Input) (one : Label) (to : Input) : Type 0 where
  alone : Labels from (one ∷ []) to
  before : (others : List Label) (end : Input) → Labels to others end → Labels from (one ∷ others) end

-- a statement is related, and an `else` that would belong to it doesn't stand behind it
pub record Related (position : Position) (from : Input) (kind : StmtKind) (to : Input) : Type 0 where
  pub is : Kind position from kind to
  pub free : FreeIf (kind_ends_in_if kind) to

fails_by : (b : Bool) → (b ≡ true → ⊥) → b ≡ false
fails_by true f = absurd (f refl)
fails_by false f = refl

module _ (limit : ℕ) (expression : ℕ → Reader Expr) (s : SoundExpressions limit expression) where
  case-sound : (from : Input) (place : Place) (inner : Input) (one : Label) (to : Input) → place_of from ≡ Some place
      → keyword words.Case from ≡ Some inner → statements.case_behind expression place inner ≡ Some (one, to) → OneLabel from one to
  unfolding statements.case_behind
  case-sound from place inner one to p k e = into_onward (expression 2 inner) _ _ e λ value colon v found. into_past _ _ _ found λ end c same.
      let parts = some_pair_parts (labels.Case place value) one end to same in
      let value_is = (s.sound 2 inner value colon v).0 in
      rw (← parts.0, ← parts.1) (record {
        alone = grammar.Labels.case p k value_is c;
        before = λ others stop more. grammar.Labels.more_case p k value_is c more;
      })

  default-sound : (from : Input) (place : Place) (colon : Input) (one : Label) (to : Input) → place_of from ≡ Some place
      → keyword words.Default from ≡ Some colon → statements.default_behind expression place colon ≡ Some (one, to) → OneLabel from one to
  unfolding statements.default_behind
  default-sound from place colon one to p k e = into_past _ _ _ e λ end c same.
      let parts = some_pair_parts (labels.Default place) one end to same in
      rw (← parts.0, ← parts.1) (record {
        alone = grammar.Labels.default p k c;
        before = λ others stop more. grammar.Labels.more_default p k c more;
      })

  label-sound : (from : Input) (one : Label) (to : Input) → statements.label expression from ≡ Some (one, to) → OneLabel from one to
  unfolding statements.label
  label-sound from one to e = into _ (place_of from) _ e λ place p found. into_either (keyword words.Case from) _ _ _ found
      (λ none more. into_past _ _ _ more λ colon k last. default-sound from place colon one to p k last)
      (λ inner k more. case-sound from place inner one to p k more)

  labels-sound : (left : ℕ) (from : Input) (list : List Label) (to : Input) → statements.labels_from expression left from ≡ Some (list, to)
      → Labels from list to
  unfolding statements.labels_from
  labels-sound zero from list to e = absurd (none-some _ e)
  labels-sound (suc left) from list to e = into_onward (statements.label expression from) _ _ e λ one rest l found.
      let label = label-sound from one rest l in
      into_if (begins_label rest) _ _ _ found
      (λ known more. into_onward (statements.labels_from expression left rest) _ _ more λ others end o same.
      let parts = some_pair_parts (one ∷ others) list end to same in
      rw (← parts.0, ← parts.1) (label.before others end (labels-sound left rest others end o)))
      (λ known same. let parts = some_pair_parts (one ∷ []) list rest to same in rw (← parts.0, ← parts.1) label.alone)

  pub tested-sound : (from : Input) (tree : Expr) (to : Input) → statements.tested expression from ≡ Some (tree, to) → Tested from tree to
  unfolding statements.tested
  tested-sound from tree to e = into_past _ _ _ e λ inner o found. into_onward (expression 0 inner) _ _ found λ t close k more.
      into_past _ _ _ more λ end c same. let parts = some_pair_parts t tree end to same in
      rw (← parts.0, ← parts.1) (grammar.Tested.tested o (s.sound 0 inner t close k).0 c)

  pub optional-sound : (p : Punctuator) (from : Input) (tree : Option Expr) (to : Input) → statements.optional expression p from ≡ Some (tree, to)
      → Optional from tree to
  unfolding statements.optional
  optional-sound p from tree to e = into_either (mark p from) _ _ _ e
      (λ none found. into_onward (expression 0 from) _ _ found λ t end k same. let parts = some_pair_parts (Some t) tree end to same in
      rw (← parts.0, ← parts.1) (grammar.Optional.given (s.sound 0 from t end k).0))
      (λ end m same. let parts = some_pair_parts None tree from to same in rw (← parts.0, ← parts.1) grammar.Optional.missing)

  pub begun-sound : (from : Input) (init : ForInit) (to : Input) → statements.begun expression from ≡ Some (init, to) → Begun from init to
  unfolding statements.begun statements.begun_declaration statements.begun_expression
  begun-sound from init to e = into_either (mark marks.Semicolon from) _ _ _ e
      (λ none found. into_onward (reading.attributes from) _ _ found λ list behind a more. into_if (begins_type behind) _ _ _ more
      (λ known next. into _ (place_of behind) _ next λ place p last. into_onward (declarations.local_declaration expression behind) _ _ last λ tree end d same.
      let parts = some_pair_parts (inits.Declaration place list tree) init end to same in
      rw (← parts.0, ← parts.1) (grammar.Begun.declaration (attributes-sound from list behind a) p (local-sound limit expression s behind tree end d)))
      (λ known next. into_onward (expression 0 from) _ _ next λ tree rest k last. into_past _ _ _ last λ end m same.
      let parts = some_pair_parts (inits.Expression tree) init end to same in
      rw (← parts.0, ← parts.1) (grammar.Begun.expression (s.sound 0 from tree rest k).0 m)))
      (λ end m same. let parts = some_pair_parts inits.Nothing init end to same in rw (← parts.0, ← parts.1) (grammar.Begun.nothing m))

  module _ (inner_kind : Position → Reader StmtKind)
      (k : (position : Position) (from : Input) (kind : StmtKind) (to : Input) → inner_kind position from ≡ Some (kind, to) → Related position from kind to) where
    -- a statement's parts behind its labels and attributes
    record Parts (position : Position) (list : List Label) (attributes : List Attribute) (behind : Input) (tree : Stmt) (to : Input) : Type 0 where
      place : Place
      placed : place_of behind ≡ Some place
      kind : StmtKind
      related : Related position behind kind to
      same : stated place list attributes kind ≡ tree

    behind-sound : (position : Position) (list : List Label) (attributes : List Attribute) (behind : Input) (tree : Stmt) (to : Input)
        → statements.stated_behind expression inner_kind position list attributes behind ≡ Some (tree, to) → Parts position list attributes behind tree to
    unfolding statements.stated_behind
    behind-sound position list attributes behind tree to e = into _ (place_of behind) _ e λ place p found.
        into_onward (inner_kind position behind) _ _ found λ kind end o same.
        let parts = some_pair_parts (stated place list attributes kind) tree end to same in
        rw (← parts.1) (record { place = place; placed = p; kind = kind; related = k position behind kind end o; same = parts.0 })

    pub statement-sound : (position : Position) (from : Input) (tree : Stmt) (to : Input)
        → statements.statement expression inner_kind position from ≡ Some (tree, to) → Statement position from tree to
    unfolding statements.statement
    statement-sound position from tree to e = into_onward (reading.attributes from) _ _ e λ list behind a found.
        let parts = behind-sound position [] list behind tree to found in
        rw (← parts.same) (grammar.Statement.statement (attributes-sound from list behind a) parts.placed parts.related.is)

    statement-free : (position : Position) (from : Input) (tree : Stmt) (to : Input)
        → statements.statement expression inner_kind position from ≡ Some (tree, to) → FreeIf (ends_in_if tree) to
    unfolding statements.statement
    statement-free position from tree to e = into_onward (reading.attributes from) _ _ e λ list behind a found.
        let parts = behind-sound position [] list behind tree to found in
        rw (← parts.same) (λ ends. parts.related.free (sym (open-stated parts.place [] list parts.kind) ∙ ends))

    -- a child is declared or stated
    ChildIs : Position → Input → Stmt → Input → Type 0
    ChildIs position from tree to = DeclaredChild from tree to ⊎ Statement position from tree to

    child-sound : (position : Position) (from : Input) (tree : Stmt) (to : Input)
        → statements.child expression inner_kind position from ≡ Some (tree, to) → ChildIs position from tree to
    unfolding statements.child statements.declared_behind ChildIs
    child-sound position from tree to e = into_onward (reading.attributes from) _ _ e λ list behind a found.
        into_if (begins_type behind) _ _ _ found
        (λ known more. into _ (place_of behind) _ more λ place p last. into_onward (declarations.local_declaration expression behind) _ _ last λ d end l same.
        let parts = some_pair_parts (stated place [] list (kinds.Declaration d)) tree end to same in
        rw (← parts.0, ← parts.1) (inl (grammar.DeclaredChild.declared (attributes-sound from list behind a) p (local-sound limit expression s behind d end l))))
        (λ known more. let parts = behind-sound position [] list behind tree to more in
        rw (← parts.same) (inr (grammar.Statement.statement (attributes-sound from list behind a) parts.placed parts.related.is)))

    pub children-sound : (position : Position) (left : ℕ) (from : Input) (list : List Stmt) (to : Input)
        → statements.children_from expression inner_kind position left from ≡ Some (list, to) → Children position from list to
    unfolding statements.children_from ChildIs
    children-sound position zero from list to e = absurd (none-some _ e)
    children-sound position (suc left) from list to e = into_either (mark marks.CloseBrace from) _ _ _ e
        (λ none found. into_onward (statements.child expression inner_kind position from) _ _ found λ one rest c more.
        into_onward (statements.children_from expression inner_kind position left rest) _ _ more λ others end o same.
        let parts = some_pair_parts (one ∷ others) list end to same in
        let behind = children-sound position left rest others end o in
        rw (← parts.0, ← parts.1) (⊎_elim (λ d. grammar.Children.declared_child d behind) (λ t. grammar.Children.stated_child t behind)
        (child-sound position from one rest c)))
        (λ end m same. let parts = some_pair_parts [] list end to same in rw (← parts.0, ← parts.1) (grammar.Children.no_child m))

    case_child-sound : (position : Position) (from : Input) (one : Stmt) (rest : Input) (others : List Stmt) (to : Input)
        → statements.case_child expression inner_kind position from ≡ Some (one, rest) → Cases position rest others to
        → Cases position from (one ∷ others) to
    unfolding statements.case_child statements.labelled ChildIs
    case_child-sound position from one rest others to e behind = into_if (begins_label from) _ _ _ e
        (λ known found. into_onward (statements.labels_from expression (turns from) from) _ _ found λ list inner l more.
        into_onward (reading.attributes inner) _ _ more λ attributes start a last.
        let parts = behind-sound position list attributes start one rest last in
        rw (← parts.same) (grammar.Cases.labelled_case (labels-sound (turns from) from list inner l) (attributes-sound inner attributes start a)
        parts.placed parts.related.is behind))
        (λ known found. ⊎_elim (λ d. grammar.Cases.declared_case d behind) (λ t. grammar.Cases.stated_case t behind)
        (child-sound position from one rest found))

    pub cases-sound : (position : Position) (left : ℕ) (from : Input) (list : List Stmt) (to : Input)
        → statements.cases_from expression inner_kind position left from ≡ Some (list, to) → Cases position from list to
    unfolding statements.cases_from
    cases-sound position zero from list to e = absurd (none-some _ e)
    cases-sound position (suc left) from list to e = into_either (mark marks.CloseBrace from) _ _ _ e
        (λ none found. into_onward (statements.case_child expression inner_kind position from) _ _ found λ one rest c more.
        into_onward (statements.cases_from expression inner_kind position left rest) _ _ more λ others end o same.
        let parts = some_pair_parts (one ∷ others) list end to same in
        rw (← parts.0, ← parts.1) (case_child-sound position from one rest others end c (cases-sound position left rest others end o)))
        (λ end m same. let parts = some_pair_parts [] list end to same in rw (← parts.0, ← parts.1) (grammar.Cases.no_case m))

    pub switch-sound : (position : Position) (from : Input) (tree : Stmt) (to : Input)
        → statements.switch_body expression inner_kind position from ≡ Some (tree, to) → SwitchBody position from tree to
    unfolding statements.switch_body
    switch-sound position from tree to e = into_onward (reading.attributes from) _ _ e λ list behind a found. into _ (place_of behind) _ found λ place p more.
        into_past _ _ _ more λ inner o last. into_onward (statements.cases_from expression inner_kind position (turns inner) inner) _ _ last λ children end c same.
        let parts = some_pair_parts (stated place [] list (kinds.Compound children)) tree end to same in
        rw (← parts.0, ← parts.1) (grammar.SwitchBody.switch_body (attributes-sound from list behind a) p o (cases-sound position (turns inner) inner children end c))

    if-sound : (position : Position) (from outer : Input) (kind : StmtKind) (to : Input) → keyword words.If from ≡ Some outer
        → statements.if_behind expression inner_kind position from outer ≡ Some (kind, to) → Related position from kind to
    unfolding statements.if_behind
    if-sound position from outer kind to w e = into_onward (statements.tested expression outer) _ _ e λ test start t found.
        into_onward (statements.statement expression inner_kind position start) _ _ found λ one rest o more.
        into_either (keyword words.Else (under start rest)) _ _ _ more
        (λ none same. let parts = some_pair_parts (kinds.If test one) kind (under from rest) to same in
        rw (← parts.0, ← parts.1) (record {
          is = grammar.Kind.if_ w (tested-sound outer test start t) (statement-sound position start one rest o);
          free = λ _. none_under words.Else from rest (none_inside words.Else start rest none);
        }))
        (λ other n last. into_onward (statements.statement expression inner_kind position other) _ _ last λ two end b same.
        let parts = some_pair_parts (kinds.IfElse test one two) kind (under from end) to same in
        let closed = fails_by (ends_in_if one) (λ ends. none-some other (sym (none_under words.Else start rest (statement-free position start one rest o ends)) ∙ n)) in
        rw (← parts.0, ← parts.1) (record {
          is = grammar.Kind.if_else w (tested-sound outer test start t) (statement-sound position start one rest o) closed n (statement-sound position other two end b);
          free = λ ends. none_under words.Else from end (statement-free position other two end b (sym (open-IfElse test one two) ∙ ends));
        }))

    switch_kind-sound : (position : Position) (from outer : Input) (kind : StmtKind) (to : Input) → keyword words.Switch from ≡ Some outer
        → statements.switch_behind expression inner_kind position from outer ≡ Some (kind, to) → Related position from kind to
    unfolding statements.switch_behind
    switch_kind-sound position from outer kind to w e = into_onward (statements.tested expression outer) _ _ e λ value start t found.
        into_onward (statements.switch_body expression inner_kind (in_switch position) start) _ _ found λ body end b same.
        let parts = some_pair_parts (kinds.Switch value body) kind (under from end) to same in
        rw (← parts.0, ← parts.1) (record {
          is = grammar.Kind.switch w (tested-sound outer value start t) (switch-sound (in_switch position) start body end b);
          free = asks_nothing (under from end) (open-Switch value body);
        })

    while-sound : (position : Position) (from outer : Input) (kind : StmtKind) (to : Input) → keyword words.While from ≡ Some outer
        → statements.while_behind expression inner_kind from outer ≡ Some (kind, to) → Related position from kind to
    unfolding statements.while_behind
    while-sound position from outer kind to w e = into_onward (statements.tested expression outer) _ _ e λ test start t found.
        into_onward (statements.statement expression inner_kind in_loop start) _ _ found λ body end b same.
        let parts = some_pair_parts (kinds.While test body) kind (under from end) to same in
        rw (← parts.0, ← parts.1) (record {
          is = grammar.Kind.while w (tested-sound outer test start t) (statement-sound in_loop start body end b);
          free = λ ends. none_under words.Else from end (statement-free in_loop start body end b (sym (open-While test body) ∙ ends));
        })

    do-sound : (position : Position) (from start : Input) (kind : StmtKind) (to : Input) → keyword words.Do from ≡ Some start
        → statements.do_behind expression inner_kind from start ≡ Some (kind, to) → Related position from kind to
    unfolding statements.do_behind
    do-sound position from start kind to w e = into_onward (statements.statement expression inner_kind in_loop start) _ _ e λ body rest b found.
        into_past _ _ _ found λ outer v more. into_onward (statements.tested expression outer) _ _ more λ test close t last. into_past _ _ _ last λ end m same.
        let parts = some_pair_parts (kinds.Do body test) kind (under from end) to same in
        rw (← parts.0, ← parts.1) (record {
          is = grammar.Kind.do_ w (statement-sound in_loop start body rest b) v (tested-sound outer test close t) m;
          free = asks_nothing (under from end) (open-Do body test);
        })

    for-sound : (position : Position) (from outer : Input) (kind : StmtKind) (to : Input) → keyword words.For from ≡ Some outer
        → statements.for_behind expression inner_kind from outer ≡ Some (kind, to) → Related position from kind to
    unfolding statements.for_behind
    for-sound position from outer kind to w e = into_past _ _ _ e λ start a f1. into_onward (statements.begun expression start) _ _ f1 λ init first b f2.
        into_onward (statements.optional expression marks.Semicolon first) _ _ f2 λ test second c f3. into_past _ _ _ f3 λ third d f4.
        into_onward (statements.optional expression marks.CloseParenthesis third) _ _ f4 λ step close g f5. into_past _ _ _ f5 λ rest h f6.
        into_onward (statements.statement expression inner_kind in_loop rest) _ _ f6 λ body end o same.
        let parts = some_pair_parts (kinds.For init test step body) kind (under from end) to same in
        rw (← parts.0, ← parts.1) (record {
          is = grammar.Kind.for w a (begun-sound start init first b) (optional-sound marks.Semicolon first test second c) d
              (optional-sound marks.CloseParenthesis third step close g) h (statement-sound in_loop rest body end o);
          free = λ ends. none_under words.Else from end (statement-free in_loop rest body end o (sym (open-For init test step body) ∙ ends));
        })

    return-sound : (position : Position) (from start : Input) (kind : StmtKind) (to : Input) → keyword words.Return from ≡ Some start
        → statements.return_behind expression inner_kind start ≡ Some (kind, to) → Related position from kind to
    unfolding statements.return_behind
    return-sound position from start kind to w e = into_onward (statements.optional expression marks.Semicolon start) _ _ e λ value rest v found.
        into_past _ _ _ found λ end m same. let parts = some_pair_parts (kinds.Return value) kind end to same in
        rw (← parts.0, ← parts.1) (record {
          is = grammar.Kind.return w (optional-sound marks.Semicolon start value rest v) m;
          free = asks_nothing end (open-Return value);
        })

    expression-sound : (position : Position) (from : Input) (kind : StmtKind) (to : Input)
        → statements.expression_kind expression inner_kind from ≡ Some (kind, to) → Related position from kind to
    unfolding statements.expression_kind
    expression-sound position from kind to e = into_onward (expression 0 from) _ _ e λ tree rest o found. into_past _ _ _ found λ end m same.
        let parts = some_pair_parts (kinds.Expression tree) kind end to same in
        rw (← parts.0, ← parts.1) (record { is = grammar.Kind.expression (s.sound 0 from tree rest o).0 m; free = asks_nothing end (open-Expression tree) })

    jump-sound : (position : Position) (from : Input) (kind : StmtKind) (to : Input)
        → statements.jump_kind expression inner_kind position from ≡ Some (kind, to) → Related position from kind to
    unfolding statements.jump_kind statements.jump
    jump-sound position from kind to e = into_either (keyword words.Continue from) _ _ _ e
        (λ _ f1. into_either (keyword words.Break from) _ _ _ f1
        (λ _ f2. into_either (keyword words.Return from) _ _ _ f2 (λ _ f3. expression-sound position from kind to f3)
        (λ start w f3. return-sound position from start kind to w f3))
        (λ rest w f2. into_if position.breaks _ _ _ f2
        (λ allowed f3. into_past _ _ _ f3 λ end m same. let parts = some_pair_parts kinds.Break kind end to same in
        rw (← parts.0, ← parts.1) (record { is = grammar.Kind.break allowed w m; free = asks_nothing end open-Break }))
        (λ _ none. absurd (none-some _ none))))
        (λ rest w f1. into_if position.continues _ _ _ f1
        (λ allowed f2. into_past _ _ _ f2 λ end m same. let parts = some_pair_parts kinds.Continue kind end to same in
        rw (← parts.0, ← parts.1) (record { is = grammar.Kind.continue allowed w m; free = asks_nothing end open-Continue }))
        (λ _ none. absurd (none-some _ none)))

    kind-sound : (position : Position) (from : Input) (kind : StmtKind) (to : Input)
        → kind_with expression inner_kind position from ≡ Some (kind, to) → Related position from kind to
    unfolding kind_with statements.keyword_kind statements.loop_kind
    kind-sound position from kind to e = into_either (mark marks.OpenBrace from) _ _ _ e
        (λ _ f1. into_either (mark marks.Semicolon from) _ _ _ f1
        (λ _ f2. into_either (keyword words.If from) _ _ _ f2
        (λ _ f3. into_either (keyword words.Switch from) _ _ _ f3
        (λ _ f4. into_either (keyword words.While from) _ _ _ f4
        (λ _ f5. into_either (keyword words.Do from) _ _ _ f5
        (λ _ f6. into_either (keyword words.For from) _ _ _ f6 (λ _ f7. jump-sound position from kind to f7)
        (λ outer w f7. for-sound position from outer kind to w f7))
        (λ start w f6. do-sound position from start kind to w f6))
        (λ outer w f5. while-sound position from outer kind to w f5))
        (λ outer w f4. switch_kind-sound position from outer kind to w f4))
        (λ outer w f3. if-sound position from outer kind to w f3))
        (λ end m same. let parts = some_pair_parts kinds.Empty kind end to same in rw (← parts.0, ← parts.1) (record { is = grammar.Kind.empty m; free = asks_nothing end open-Empty })))
        (λ start m f1. into_onward (statements.children_from expression inner_kind position (turns start) start) _ _ f1 λ children end c same.
        let parts = some_pair_parts (kinds.Compound children) kind (under from end) to same in
        rw (← parts.0, ← parts.1) (record {
          is = grammar.Kind.compound m (children-sound position (turns start) start children end c);
          free = asks_nothing (under from end) (open-Compound children);
        }))

  pub kind_at-related : (room : ℕ) (position : Position) (from : Input) (kind : StmtKind) (to : Input)
      → kind_at expression room position from ≡ Some (kind, to) → Related position from kind to
  unfolding kind_at
  kind_at-related zero position from kind to e = absurd (none-some _ e)
  kind_at-related (suc room) position from kind to e = kind-sound (kind_at expression room) (kind_at-related room) position from kind to e

  pub block-sound : (room : ℕ) (position : Position) (left : ℕ) (from : Input) (list : List Stmt) (to : Input)
      → statements.children_from expression (kind_at expression room) position left from ≡ Some (list, to) → Children position from list to
  block-sound room position left from list to e = children-sound (kind_at expression room) (kind_at-related room) position left from list to e
