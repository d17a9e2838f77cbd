-- How statements are read, from the left to the right (inner), with the reader of expressions.
use Rattle.std.specs.Prelude.{ℕ, zero, suc, Bool, true, false, List, [], ◌∷◌, Option, Some, None, if◌then◌else◌}
use Rattle.std.specs.Prelude.{option_and_then}
use Rattle.rc_text.specs.declared.place.Place.{Place}
use Rattle.c_lexer.specs.declared.keyword.Keyword.TheVariants as words
use Rattle.c_lexer.specs.declared.punctuator.Punctuator.{Punctuator}
use Rattle.c_lexer.specs.declared.punctuator.Punctuator.TheVariants as marks
use Rattle.c_syntax.specs.declared.attribute.Attribute.{Attribute}
use Rattle.c_syntax.specs.declared.expr.Expr.{Expr}
use Rattle.c_syntax.specs.declared.stmt.ForInit.{ForInit}
use Rattle.c_syntax.specs.declared.stmt.ForInit.TheVariants as inits
use Rattle.c_syntax.specs.declared.stmt.Label.{Label}
use Rattle.c_syntax.specs.declared.stmt.Label.TheVariants as labels
use Rattle.c_syntax.specs.declared.stmt.Stmt.{Stmt}
use Rattle.c_syntax.specs.declared.stmt.StmtKind.{StmtKind}
use Rattle.c_syntax.specs.declared.stmt.StmtKind.TheVariants as kinds
use Rattle.c_grammar.specs.Input.{Input, mark}
use Rattle.c_grammar.specs.Declarations.{under}
use Rattle.c_grammar.specs.Statements.{keyword, place_of, Position, in_loop, in_switch}
use Rattle.c_grammar.specs.Reading.{Reader, onward, past, either, turns, attributes, begins_type}
use Rattle.c_grammar.specs.DeclarationReading.{local_declaration}

-- a statement of these parts
abbrev pub stated : Place → List Label → List Attribute → StmtKind → Stmt
stated place list attributes kind = record { place = place; labels = list; attributes = attributes; kind = kind }

-- whether a label begins here
unfoldable pub begins_label : Input → Bool
begins_label from = either (keyword words.Case from) (either (keyword words.Default from) false (λ _. true)) (λ _. true)

module _ (expression : ℕ → Reader Expr) where
  -- behind a label's keyword
  unfoldable pub case_behind : Place → Reader Label
  case_behind place inner = onward (expression 2 inner) λ value colon. past (mark marks.Colon colon) λ to.
      Some (labels.Case place value, to)

  -- behind `default`
  unfoldable pub default_behind : Place → Reader Label
  default_behind place colon = past (mark marks.Colon colon) λ to. Some (labels.Default place, to)

  -- one label
  unfoldable pub label : Reader Label
  label from = option_and_then (λ place. either (keyword words.Case from)
      (past (keyword words.Default from) (default_behind place)) (case_behind place)) (place_of from)

  -- labels, in so many turns at most
  unfoldable pub labels_from : ℕ → Reader (List Label)
  labels_from zero from = None
  labels_from (suc left) from = onward (label from) λ one rest. if begins_label rest
      then (onward (labels_from left rest) λ others to. Some (one ∷ others, to)) else Some (one ∷ [], rest)

  -- a test or value in parentheses
  unfoldable pub tested : Reader Expr
  tested from = past (mark marks.OpenParenthesis from) λ inner. onward (expression 0 inner) λ tree close.
      past (mark marks.CloseParenthesis close) λ to. Some (tree, to)

  -- an expression before the punctuator, or nothing
  unfoldable pub optional : Punctuator → Reader (Option Expr)
  optional end from = either (mark end from) (onward (expression 0 from) λ tree to. Some (Some tree, to))
      (λ to. Some (None, from))

  -- the first part of a `for` that is an expression
  unfoldable pub begun_expression : Reader ForInit
  begun_expression from = onward (expression 0 from) λ tree rest. past (mark marks.Semicolon rest) λ to.
      Some (inits.Expression tree, to)

  -- the first part of a `for` that is a declaration, behind its attributes
  unfoldable pub begun_declaration : List Attribute → Reader ForInit
  begun_declaration list behind = option_and_then (λ place. onward (local_declaration expression behind) λ tree to.
      Some (inits.Declaration place list tree, to)) (place_of behind)

  -- the first part of a `for`
  unfoldable pub begun : Reader ForInit
  begun from = either (mark marks.Semicolon from)
      (onward (attributes from) λ list behind. if begins_type behind then begun_declaration list behind
      else begun_expression from)
      (λ to. Some (inits.Nothing, to))

  module _ (inner_kind : Position → Reader StmtKind) where
    -- behind its labels and attributes
    unfoldable pub stated_behind : Position → List Label → List Attribute → Reader Stmt
    stated_behind position list attributes behind = option_and_then (λ place.
        onward (inner_kind position behind) λ kind to. Some (stated place list attributes kind, to)) (place_of behind)

    -- a statement without labels
    unfoldable pub statement : Position → Reader Stmt
    statement position from = onward (attributes from) λ list behind. stated_behind position [] list behind

    -- a declaration among statements, behind its attributes
    unfoldable pub declared_behind : List Attribute → Reader Stmt
    declared_behind list behind = option_and_then (λ place. onward (local_declaration expression behind) λ tree to.
        Some (stated place [] list (kinds.Declaration tree), to)) (place_of behind)

    -- a child without labels
    unfoldable pub child : Position → Reader Stmt
    child position from = onward (attributes from) λ list behind. if begins_type behind
        then declared_behind list behind else stated_behind position [] list behind

    -- a compound's children and the closing brace, in so many turns at most
    unfoldable pub children_from : Position → ℕ → Reader (List Stmt)
    children_from position zero from = None
    children_from position (suc left) from = either (mark marks.CloseBrace from)
        (onward (child position from) λ one rest. onward (children_from position left rest) λ others to.
        Some (one ∷ others, to))
        (λ to. Some ([], to))

    -- a labelled child
    unfoldable pub labelled : Position → Reader Stmt
    labelled position from = onward (labels_from (turns from) from) λ list inner.
        onward (attributes inner) λ attributes behind.
        stated_behind position list attributes behind

    -- a child of a switch's compound
    unfoldable pub case_child : Position → Reader Stmt
    case_child position from = if begins_label from then labelled position from else child position from

    -- the children of a switch's compound and the closing brace, in so many turns at most
    unfoldable pub cases_from : Position → ℕ → Reader (List Stmt)
    cases_from position zero from = None
    cases_from position (suc left) from = either (mark marks.CloseBrace from)
        (onward (case_child position from) λ one rest. onward (cases_from position left rest) λ others to.
        Some (one ∷ others, to))
        (λ to. Some ([], to))

    -- the body of a switch
    unfoldable pub switch_body : Position → Reader Stmt
    switch_body position from = onward (attributes from) λ list behind. option_and_then (λ place.
        past (mark marks.OpenBrace behind) λ inner. onward (cases_from position (turns inner) inner) λ children to.
        Some (stated place [] list (kinds.Compound children), to)) (place_of behind)

    -- ---- each production, behind its first token

    -- an `if` behind its keyword
    unfoldable pub if_behind : Position → Input → Reader StmtKind
    if_behind position from outer = onward (tested outer) λ test inner. onward (statement position inner) λ one rest.
        either (keyword words.Else (under inner rest)) (Some (kinds.If test one, under from rest))
        (λ other. onward (statement position other) λ two to. Some (kinds.IfElse test one two, under from to))

    -- a `switch` behind its keyword
    unfoldable pub switch_behind : Position → Input → Reader StmtKind
    switch_behind position from outer = onward (tested outer) λ value inner.
        onward (switch_body (in_switch position) inner) λ body to. Some (kinds.Switch value body, under from to)

    -- a `while` behind its keyword
    unfoldable pub while_behind : Input → Reader StmtKind
    while_behind from outer = onward (tested outer) λ test inner. onward (statement in_loop inner) λ body to.
        Some (kinds.While test body, under from to)

    -- a `do` behind its keyword
    unfoldable pub do_behind : Input → Reader StmtKind
    do_behind from inner = onward (statement in_loop inner) λ body rest.
        past (keyword words.While (under inner rest)) λ outer.
        onward (tested outer) λ test close. past (mark marks.Semicolon close) λ to.
        Some (kinds.Do body test, under from to)

    -- a `for` behind its keyword
    unfoldable pub for_behind : Input → Reader StmtKind
    for_behind from outer = past (mark marks.OpenParenthesis outer) λ inner. onward (begun inner) λ init first.
        onward (optional marks.Semicolon first) λ test second. past (mark marks.Semicolon second) λ third.
        onward (optional marks.CloseParenthesis third) λ step close. past (mark marks.CloseParenthesis close) λ rest.
        onward (statement in_loop rest) λ body to. Some (kinds.For init test step body, under from to)

    -- the semicolon behind `break` and `continue`, where they may stand
    unfoldable pub jump : Bool → StmtKind → Reader StmtKind
    jump allowed kind behind = if allowed then (past (mark marks.Semicolon behind) λ to. Some (kind, to)) else None

    -- a `return` behind its keyword
    unfoldable pub return_behind : Reader StmtKind
    return_behind inner = onward (optional marks.Semicolon inner) λ value rest. past (mark marks.Semicolon rest) λ to.
        Some (kinds.Return value, to)

    -- an expression and the semicolon
    unfoldable pub expression_kind : Reader StmtKind
    expression_kind from = onward (expression 0 from) λ tree rest. past (mark marks.Semicolon rest) λ to.
        Some (kinds.Expression tree, to)

    -- a jump, or an expression
    unfoldable pub jump_kind : Position → Reader StmtKind
    jump_kind position from = either (keyword words.Continue from)
        (either (keyword words.Break from) (either (keyword words.Return from) (expression_kind from) return_behind)
        (jump position.breaks kinds.Break))
        (jump position.continues kinds.Continue)

    -- a loop, or what no keyword of a loop begins
    unfoldable pub loop_kind : Position → Reader StmtKind
    loop_kind position from = either (keyword words.While from)
        (either (keyword words.Do from) (either (keyword words.For from) (jump_kind position from) (for_behind from))
        (do_behind from))
        (while_behind from)

    -- what a keyword begins, or an expression
    unfoldable pub keyword_kind : Position → Reader StmtKind
    keyword_kind position from = either (keyword words.If from)
        (either (keyword words.Switch from) (loop_kind position from) (switch_behind position from))
        (if_behind position from)

    -- a statement behind its labels and attributes
    unfoldable pub kind_with : Position → Reader StmtKind
    kind_with position from = either (mark marks.OpenBrace from)
        (either (mark marks.Semicolon from) (keyword_kind position from) (λ to. Some (kinds.Empty, to)))
        (λ inner. onward (children_from position (turns inner) inner) λ children to.
        Some (kinds.Compound children, under from to))

  -- statements that nest so often at most
  unfoldable pub kind_at : ℕ → Position → Reader StmtKind
  kind_at zero position from = None
  kind_at (suc room) position from = kind_with (kind_at room) position from
