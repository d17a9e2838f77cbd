-- Which statements end in an `if` without an `else`, by their productions.
use Rattle.std.proofs.Common.{◌≡◌, Bool, true, false, List, [], ◌∷◌, Option, Some, None, refl, sym, ◌∙◌, rules}
use Rattle.std.proofs.lemmas.Bool.{false≢true}
use Rattle.std.proofs.lemmas.Option.{none-some}
use Rattle.rc_text.specs.declared.place.Place.{Place}
use Rattle.c_lexer.specs.declared.token.Token.{Token}
use Rattle.c_lexer.specs.declared.keyword.Keyword.{Keyword}
use Rattle.c_lexer.specs.declared.keyword.Keyword.TheVariants as words
use Rattle.c_syntax.specs.declared.attribute.Attribute.{Attribute}
use Rattle.c_syntax.specs.declared.expr.Expr.{Expr}
use Rattle.c_syntax.specs.declared.stmt.ForInit.{ForInit}
use Rattle.c_syntax.specs.declared.stmt.Label.{Label}
use Rattle.c_syntax.specs.declared.stmt.Stmt.{Stmt}
use Rattle.c_syntax.specs.declared.stmt.StmtKind.{StmtKind, the_lemmas}
use Rattle.c_syntax.specs.declared.stmt.StmtKind.TheVariants as kinds
use Rattle.c_syntax.specs.declared.stmt.StmtKind.TheFolds.{fold-StmtKind}
use Rattle.c_grammar.specs.declared.names.NameEntry.{NameEntry}
use Rattle.c_grammar.specs.Marks.{is_keyword}
use Rattle.c_grammar.specs.Input.{Input, taken_if}
use Rattle.c_grammar.specs.Declarations.{under}
use Rattle.c_grammar.specs.Statements.{keyword, if_step, ends_in_if}
use Rattle.c_grammar.specs.StatementReading.{stated}

-- whether a statement by its production ends in an `if` without an `else`
abbrev pub kind_ends_in_if : StmtKind → Bool
kind_ends_in_if = fold-StmtKind Bool Bool if_step (λ statement. statement.kind)

pub open-stated : (place : Place) (list : List Label) (attributes : List Attribute) (kind : StmtKind)
    → ends_in_if (stated place list attributes kind) ≡ kind_ends_in_if kind
open-stated place list attributes kind = search (rules, the_lemmas)

pub open-If : (test : Expr) (one : Stmt) → kind_ends_in_if (kinds.If test one) ≡ true
open-If test one = search (rules, the_lemmas)

pub open-IfElse : (test : Expr) (one two : Stmt) → kind_ends_in_if (kinds.IfElse test one two) ≡ ends_in_if two
open-IfElse test one two = search (rules, the_lemmas)

pub open-While : (test : Expr) (body : Stmt) → kind_ends_in_if (kinds.While test body) ≡ ends_in_if body
open-While test body = search (rules, the_lemmas)

pub open-For : (init : ForInit) (test step : Option Expr) (body : Stmt) → kind_ends_in_if (kinds.For init test step body) ≡ ends_in_if body
open-For init test step body = search (rules, the_lemmas)

pub open-Compound : (list : List Stmt) → kind_ends_in_if (kinds.Compound list) ≡ false
open-Compound list = search (rules, the_lemmas)

pub open-Expression : (tree : Expr) → kind_ends_in_if (kinds.Expression tree) ≡ false
open-Expression tree = search (rules, the_lemmas)

pub open-Switch : (value : Expr) (body : Stmt) → kind_ends_in_if (kinds.Switch value body) ≡ false
open-Switch value body = search (rules, the_lemmas)

pub open-Do : (body : Stmt) (test : Expr) → kind_ends_in_if (kinds.Do body test) ≡ false
open-Do body test = search (rules, the_lemmas)

pub open-Return : (value : Option Expr) → kind_ends_in_if (kinds.Return value) ≡ false
open-Return value = search (rules, the_lemmas)

pub open-Empty : kind_ends_in_if kinds.Empty ≡ false
open-Empty = search (rules, the_lemmas)

pub open-Continue : kind_ends_in_if kinds.Continue ≡ false
open-Continue = search (rules, the_lemmas)

pub open-Break : kind_ends_in_if kinds.Break ≡ false
open-Break = search (rules, the_lemmas)

-- no `else` stands next, where this is asked
abbrev pub FreeIf : Bool → Input → Type 0
FreeIf ends to = ends ≡ true → keyword words.Else to ≡ None

-- a statement that ends in no such `if` asks nothing
pub asks_nothing : {ends : Bool} (to : Input) → ends ≡ false → FreeIf ends to
asks_nothing to closed ends = absurd (false≢true (sym closed ∙ ends))

taken_under : (b : Bool) (one other : Input) → taken_if b one ≡ None → taken_if b other ≡ None
taken_under true one other e = absurd (none-some _ (sym e))
taken_under false one other e = refl

tokens_alone : (w : Keyword) (list : List Token) (one other : List NameEntry)
    → keyword w (record { tokens = list; names = one }) ≡ None → keyword w (record { tokens = list; names = other }) ≡ None
unfolding keyword
tokens_alone w [] one other e = refl
tokens_alone w (token ∷ list) one other e = taken_under (is_keyword w token.kind) _ _ e

-- whether a keyword stands next is no matter of the names in scope
pub none_under : (w : Keyword) (outer rest : Input) → keyword w rest ≡ None → keyword w (under outer rest) ≡ None
none_under w outer rest e = tokens_alone w rest.tokens rest.names outer.names e

pub none_inside : (w : Keyword) (outer rest : Input) → keyword w (under outer rest) ≡ None → keyword w rest ≡ None
none_inside w outer rest e = tokens_alone w rest.tokens outer.names rest.names e
