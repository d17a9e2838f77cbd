-- Statements, by the productions of C11 (annex A.2.3), as the profile has them.
use Rattle.std.specs.Prelude.{◌≡◌, Bool, true, false, List, [], ◌∷◌, Option, Some, None, option_and_then}
use Rattle.rc_text.specs.declared.place.Place.{Place}
use Rattle.c_lexer.specs.declared.keyword.Keyword.{Keyword}
use Rattle.c_lexer.specs.declared.keyword.Keyword.TheVariants as words
use Rattle.c_lexer.specs.declared.punctuator.Punctuator.TheVariants as marks
use Rattle.c_syntax.specs.declared.attribute.Attribute.{Attribute}
use Rattle.c_syntax.specs.declared.declaration.Declaration.{Declaration}
use Rattle.c_syntax.specs.declared.expr.Expr.{Expr}
use Rattle.c_syntax.specs.declared.stmt.ForInit.{ForInit}
use Rattle.c_syntax.specs.declared.stmt.ForInit.TheVariants as inits
use Rattle.c_syntax.specs.declared.stmt.Label.{Label}
use Rattle.c_syntax.specs.declared.stmt.Label.TheVariants as labels
use Rattle.c_syntax.specs.declared.stmt.Stmt.{Stmt}
use Rattle.c_syntax.specs.declared.stmt.StmtKind.{StmtKind}
use Rattle.c_syntax.specs.declared.stmt.StmtKind.TheVariants as kinds
use Rattle.c_syntax.specs.declared.stmt.StmtKind.TheFolds.{fold-Stmt}
use Rattle.c_syntax.specs.declared.stmt.StmtKind.TheOpen.{StmtKind-F}
use Rattle.c_grammar.specs.Marks.{is_keyword}
use Rattle.c_grammar.specs.Input.{Input, next, taken_if, mark}
use Rattle.c_grammar.specs.Attributes.{Attributes}
use Rattle.c_grammar.specs.Expressions.{Expression}
use Rattle.c_grammar.specs.Declarations.{LocalDeclaration, under}

-- what is left behind the keyword, where it stands next
unfoldable pub keyword : Keyword → Input → Option Input
keyword word input = option_and_then (λ taken. taken_if (is_keyword word taken.token.kind) taken.rest) (next input)

-- the place of the next token
unfoldable pub place_of : Input → Option Place
place_of input = option_and_then (λ taken. Some taken.token.place) (next input)

-- where a statement stands: inside a loop, and inside a switch or a loop
pub record Position : Type 0 where
  pub continues : Bool
  pub breaks : Bool

-- the body of a function, of a loop, of a switch
abbrev pub outermost : Position
outermost = record { continues = false; breaks = false }

-- the body of a loop
abbrev pub in_loop : Position
in_loop = record { continues = true; breaks = true }

-- the body of a switch
abbrev pub in_switch : Position → Position
in_switch position = record { continues = position.continues; breaks = true }

-- labels of a child of a switch's compound, one at least (6.8.1)
pub data Labels : Input → List Label → Input → Type 0 where
  case : {from : Input} {place : Place} {inner : Input} {value : Expr} {colon to : Input} → place_of from ≡ Some place
      → keyword words.Case from ≡ Some inner → Expression 2 inner value colon → mark marks.Colon colon ≡ Some to
      → Labels from (labels.Case place value ∷ []) to
  default : {from : Input} {place : Place} {colon to : Input} → place_of from ≡ Some place
      → keyword words.Default from ≡ Some colon → mark marks.Colon colon ≡ Some to
      → Labels from (labels.Default place ∷ []) to
  more_case : {from : Input} {place : Place} {inner : Input} {value : Expr} {colon behind : Input} {others : List Label}
      {to : Input} → place_of from ≡ Some place → keyword words.Case from ≡ Some inner → Expression 2 inner value colon
      → mark marks.Colon colon ≡ Some behind → Labels behind others to
      → Labels from (labels.Case place value ∷ others) to
  more_default : {from : Input} {place : Place} {colon behind : Input} {others : List Label} {to : Input}
      → place_of from ≡ Some place → keyword words.Default from ≡ Some colon → mark marks.Colon colon ≡ Some behind
      → Labels behind others to → Labels from (labels.Default place ∷ others) to

-- a test or value in parentheses
pub data Tested : Input → Expr → Input → Type 0 where
  tested : {from inner : Input} {tree : Expr} {close to : Input} → mark marks.OpenParenthesis from ≡ Some inner
      → Expression 0 inner tree close → mark marks.CloseParenthesis close ≡ Some to → Tested from tree to

-- an expression before a punctuator, which may be missing
pub data Optional : Input → Option Expr → Input → Type 0 where
  missing : {from : Input} → Optional from None from
  given : {from : Input} {tree : Expr} {to : Input} → Expression 0 from tree to → Optional from (Some tree) to

-- the first part of a `for`, with its semicolon
pub data Begun : Input → ForInit → Input → Type 0 where
  nothing : {from to : Input} → mark marks.Semicolon from ≡ Some to → Begun from inits.Nothing to
  expression : {from : Input} {tree : Expr} {behind to : Input} → Expression 0 from tree behind
      → mark marks.Semicolon behind ≡ Some to → Begun from (inits.Expression tree) to
  declaration : {from : Input} {attributes : List Attribute} {behind : Input} {place : Place} {tree : Declaration}
      {to : Input} → Attributes from attributes behind → place_of behind ≡ Some place → LocalDeclaration behind tree to
      → Begun from (inits.Declaration place attributes tree) to

-- whether a statement by its production ends in an `if` without an `else`, by whether the statements in it do
abbrev pub if_step : StmtKind-F Bool Bool → Bool
if_step (StmtKind-F.If test then) = true
if_step (StmtKind-F.IfElse test then otherwise) = otherwise
if_step (StmtKind-F.While test body) = body
if_step (StmtKind-F.For init test step body) = body
if_step _ = false

-- whether a statement ends in an `if` without an `else`
abbrev pub ends_in_if : Stmt → Bool
ends_in_if = fold-Stmt Bool Bool if_step (λ statement. statement.kind)

mutual
  -- A statement without labels. A statement that selects or repeats is a block, and so is each below it (6.8.4, 6.8.5):
  -- what they declare is in scope in them alone.
  pub data Statement : Position → Input → Stmt → Input → Type 0 where
    statement : {position : Position} {from : Input} {attributes : List Attribute} {behind : Input} {place : Place}
        {kind : StmtKind} {to : Input} → Attributes from attributes behind → place_of behind ≡ Some place
        → Kind position behind kind to
        → Statement position from (record { place = place; labels = []; attributes = attributes; kind = kind }) to

  -- a statement by its production
  pub data Kind : Position → Input → StmtKind → Input → Type 0 where
    -- compound-statement (6.8.2)
    compound : {position : Position} {from inner : Input} {children : List Stmt} {to : Input}
        → mark marks.OpenBrace from ≡ Some inner → Children position inner children to
        → Kind position from (kinds.Compound children) (under from to)
    -- expression-statement (6.8.3)
    expression : {position : Position} {from : Input} {tree : Expr} {behind to : Input} → Expression 0 from tree behind
        → mark marks.Semicolon behind ≡ Some to → Kind position from (kinds.Expression tree) to
    empty : {position : Position} {from to : Input} → mark marks.Semicolon from ≡ Some to
        → Kind position from kinds.Empty to
    -- selection-statement (6.8.4): an `else` belongs to the nearest `if`, so that what stands before it doesn't end in
    -- an `if` without one
    if_ : {position : Position} {from open_ : Input} {test : Expr} {inner : Input} {then_ : Stmt} {to : Input}
        → keyword words.If from ≡ Some open_ → Tested open_ test inner → Statement position inner then_ to
        → Kind position from (kinds.If test then_) (under from to)
    if_else : {position : Position} {from open_ : Input} {test : Expr} {inner : Input} {then_ : Stmt}
        {behind other : Input} {otherwise : Stmt} {to : Input} → keyword words.If from ≡ Some open_
        → Tested open_ test inner → Statement position inner then_ behind → ends_in_if then_ ≡ false
        → keyword words.Else (under inner behind) ≡ Some other → Statement position other otherwise to
        → Kind position from (kinds.IfElse test then_ otherwise) (under from to)
    switch : {position : Position} {from open_ : Input} {value : Expr} {inner : Input} {body : Stmt} {to : Input}
        → keyword words.Switch from ≡ Some open_ → Tested open_ value inner
        → SwitchBody (in_switch position) inner body to → Kind position from (kinds.Switch value body) (under from to)
    -- iteration-statement (6.8.5)
    while : {position : Position} {from open_ : Input} {test : Expr} {inner : Input} {body : Stmt} {to : Input}
        → keyword words.While from ≡ Some open_ → Tested open_ test inner → Statement in_loop inner body to
        → Kind position from (kinds.While test body) (under from to)
    do_ : {position : Position} {from inner : Input} {body : Stmt} {behind open_ : Input} {test : Expr}
        {close to : Input}
        → keyword words.Do from ≡ Some inner → Statement in_loop inner body behind
        → keyword words.While (under inner behind) ≡ Some open_ → Tested open_ test close
        → mark marks.Semicolon close ≡ Some to → Kind position from (kinds.Do body test) (under from to)
    for : {position : Position} {from open_ inner : Input} {init : ForInit} {first : Input} {test : Option Expr}
        {second third : Input} {step : Option Expr} {close rest : Input} {body : Stmt} {to : Input}
        → keyword words.For from ≡ Some open_ → mark marks.OpenParenthesis open_ ≡ Some inner → Begun inner init first
        → Optional first test second → mark marks.Semicolon second ≡ Some third → Optional third step close
        → mark marks.CloseParenthesis close ≡ Some rest → Statement in_loop rest body to
        → Kind position from (kinds.For init test step body) (under from to)
    -- jump-statement (6.8.6)
    continue : {position : Position} {from behind to : Input} → position.continues ≡ true
        → keyword words.Continue from ≡ Some behind → mark marks.Semicolon behind ≡ Some to
        → Kind position from kinds.Continue to
    break : {position : Position} {from behind to : Input} → position.breaks ≡ true
        → keyword words.Break from ≡ Some behind → mark marks.Semicolon behind ≡ Some to
        → Kind position from kinds.Break to
    return : {position : Position} {from inner : Input} {value : Option Expr} {behind to : Input}
        → keyword words.Return from ≡ Some inner → Optional inner value behind → mark marks.Semicolon behind ≡ Some to
        → Kind position from (kinds.Return value) to

  -- block-item-list with the closing brace
  pub data Children : Position → Input → List Stmt → Input → Type 0 where
    no_child : {position : Position} {from to : Input} → mark marks.CloseBrace from ≡ Some to
        → Children position from [] to
    declared_child : {position : Position} {from : Input} {one : Stmt} {behind : Input} {others : List Stmt}
        {to : Input}
        → DeclaredChild from one behind → Children position behind others to → Children position from (one ∷ others) to
    stated_child : {position : Position} {from : Input} {one : Stmt} {behind : Input} {others : List Stmt} {to : Input}
        → Statement position from one behind → Children position behind others to
        → Children position from (one ∷ others) to

  -- a declaration among statements
  pub data DeclaredChild : Input → Stmt → Input → Type 0 where
    declared : {from : Input} {attributes : List Attribute} {behind : Input} {place : Place} {tree : Declaration}
        {to : Input} → Attributes from attributes behind → place_of behind ≡ Some place
        → LocalDeclaration behind tree to
        → DeclaredChild from
        (record { place = place; labels = []; attributes = attributes; kind = kinds.Declaration tree }) to

  -- the body of a switch: a compound
  pub data SwitchBody : Position → Input → Stmt → Input → Type 0 where
    switch_body : {position : Position} {from : Input} {attributes : List Attribute} {behind : Input} {place : Place}
        {inner : Input} {children : List Stmt} {to : Input} → Attributes from attributes behind
        → place_of behind ≡ Some place → mark marks.OpenBrace behind ≡ Some inner → Cases position inner children to
        → SwitchBody position from
        (record { place = place; labels = []; attributes = attributes; kind = kinds.Compound children }) to

  -- the children of a switch's compound, which may have labels, with the closing brace
  pub data Cases : Position → Input → List Stmt → Input → Type 0 where
    no_case : {position : Position} {from to : Input} → mark marks.CloseBrace from ≡ Some to → Cases position from [] to
    labelled_case : {position : Position} {from : Input} {list : List Label} {inner : Input}
        {attributes : List Attribute} {start : Input} {place : Place} {kind : StmtKind} {behind : Input}
        {others : List Stmt} {to : Input} → Labels from list inner → Attributes inner attributes start
        → place_of start ≡ Some place → Kind position start kind behind → Cases position behind others to
        → Cases position from
        (record { place = place; labels = list; attributes = attributes; kind = kind } ∷ others) to
    declared_case : {position : Position} {from : Input} {one : Stmt} {behind : Input} {others : List Stmt} {to : Input}
        → DeclaredChild from one behind → Cases position behind others to → Cases position from (one ∷ others) to
    stated_case : {position : Position} {from : Input} {one : Stmt} {behind : Input} {others : List Stmt} {to : Input}
        → Statement position from one behind → Cases position behind others to → Cases position from (one ∷ others) to
