-- How deep the statement of each production is, and lists with one more at their end.
use Rattle.std.proofs.Common.{◌≡◌, ℕ, ◌+◌, max, List, [], ◌∷◌, ◌++◌, map, Option, refl, rules, arith}
use Rattle.std.specs.Option.{option_map_or}
use Rattle.rc_text.specs.declared.place.Place.{Place}
use Rattle.c_syntax.specs.declared.attribute.Attribute.{Attribute}
use Rattle.c_syntax.specs.declared.declaration.Declaration.{Declaration}
use Rattle.c_syntax.specs.declared.expr.Expr.{Expr}
use Rattle.c_syntax.specs.declared.stmt.ForInit.{ForInit}
use Rattle.c_syntax.specs.declared.stmt.Label.{Label}
use Rattle.c_syntax.specs.declared.stmt.Stmt.{Stmt}
use Rattle.c_syntax.specs.declared.stmt.StmtKind.{StmtKind, the_lemmas}
use Rattle.c_syntax.specs.declared.stmt.StmtKind.TheVariants as kinds
use Rattle.c_syntax.specs.Depth.{expression_depth, declaration_depth, init_depth, label_depth, statement_depth, deepest}
use Rattle.c_grammar.specs.Depths.{kind_depth}
use Rattle.c_grammar.specs.StatementReading.{stated}
use Rattle.c_cursor.specs.Deep.{counted}

pub depth-stated : (place : Place) (list : List Label) (attributes : List Attribute) (kind : StmtKind)
    → statement_depth (stated place list attributes kind) ≡ max (kind_depth kind) (1 + deepest (map label_depth list))
depth-stated place list attributes kind = search (rules, the_lemmas)

pub depth-Compound : (list : List Stmt) → kind_depth (kinds.Compound list) ≡ 1 + deepest (map statement_depth list)
depth-Compound list = search (rules, the_lemmas)

pub depth-Declaration : (tree : Declaration) → kind_depth (kinds.Declaration tree) ≡ 1 + declaration_depth tree
depth-Declaration tree = search (rules, the_lemmas)

pub depth-Expression : (tree : Expr) → kind_depth (kinds.Expression tree) ≡ 1 + expression_depth tree
depth-Expression tree = search (rules, the_lemmas)

pub depth-If : (test : Expr) (one : Stmt) → kind_depth (kinds.If test one) ≡ 1 + max (expression_depth test) (statement_depth one)
depth-If test one = search (rules, the_lemmas)

pub depth-IfElse : (test : Expr) (one two : Stmt) → kind_depth (kinds.IfElse test one two)
    ≡ 1 + max (expression_depth test) (max (statement_depth one) (statement_depth two))
depth-IfElse test one two = search (rules, the_lemmas)

pub depth-Switch : (value : Expr) (body : Stmt) → kind_depth (kinds.Switch value body) ≡ 1 + max (expression_depth value) (statement_depth body)
depth-Switch value body = search (rules, the_lemmas)

pub depth-While : (test : Expr) (body : Stmt) → kind_depth (kinds.While test body) ≡ 1 + max (expression_depth test) (statement_depth body)
depth-While test body = search (rules, the_lemmas)

pub depth-Do : (body : Stmt) (test : Expr) → kind_depth (kinds.Do body test) ≡ 1 + max (statement_depth body) (expression_depth test)
depth-Do body test = search (rules, the_lemmas)

pub depth-For : (init : ForInit) (test step : Option Expr) (body : Stmt) → kind_depth (kinds.For init test step body)
    ≡ 1 + max (max (init_depth init) (option_map_or expression_depth test 0)) (max (option_map_or expression_depth step 0) (statement_depth body))
depth-For init test step body = search (rules, the_lemmas)

pub depth-Return : (value : Option Expr) → kind_depth (kinds.Return value) ≡ 1 + option_map_or expression_depth value 0
depth-Return value = search (rules, the_lemmas)

pub depth-Empty : kind_depth kinds.Empty ≡ 1
depth-Empty = search (rules, the_lemmas)

pub depth-Continue : kind_depth kinds.Continue ≡ 1
depth-Continue = search (rules, the_lemmas)

pub depth-Break : kind_depth kinds.Break ≡ 1
depth-Break = search (rules, the_lemmas)

pub ruleset depths = (depth-stated, depth-Compound, depth-Declaration, depth-Expression, depth-If, depth-IfElse, depth-Switch, depth-While, depth-Do, depth-For, depth-Return, depth-Empty, depth-Continue, depth-Break)

deepest-one_more : {A : Type 0} (depth_of : A → ℕ) (list : List A) (x : A)
    → deepest (map depth_of (list ++ x ∷ [])) ≡ max (depth_of x) (deepest (map depth_of list))
deepest-one_more depth_of [] x = refl
deepest-one_more depth_of (first ∷ list) x = omega (arith, deepest-one_more depth_of list x)

-- the depth as a loop counts it, with one more at the end of the list
pub counted-one_more : {A : Type 0} (depth_of : A → ℕ) (list : List A) (x : A) (one so_far : ℕ)
    → one ≡ counted (depth_of x) → so_far ≡ counted (deepest (map depth_of list))
    → max one so_far ≡ counted (deepest (map depth_of (list ++ x ∷ [])))
counted-one_more depth_of list x one so_far p q = omega (arith, deepest-one_more depth_of list x)
