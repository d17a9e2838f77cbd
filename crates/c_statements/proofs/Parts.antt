-- Statements whose scopes end behind them, by the readings of their parts.
use Rattle.std.proofs.Common.{◌≡◌, ℕ, ◌-◌, List, [], length, drop, Option, Some, None, refl, sym, ap, subst, ◌∙◌}
use Rattle.std.proofs.lemmas.Option.{none-some, same_Some}
use Rattle.c_lexer.specs.declared.keyword.Keyword.TheVariants as words
use Rattle.c_lexer.specs.declared.punctuator.Punctuator.TheVariants as marks
use Rattle.c_syntax.specs.declared.expr.Expr.{Expr}
use Rattle.c_syntax.specs.declared.stmt.ForInit.{ForInit}
use Rattle.c_syntax.specs.declared.stmt.Stmt.{Stmt}
use Rattle.c_syntax.specs.declared.stmt.StmtKind.{StmtKind}
use Rattle.c_syntax.specs.declared.stmt.StmtKind.TheVariants as kinds
use Rattle.c_grammar.specs.Input.{Input, mark}
use Rattle.c_grammar.specs.Declarations.{under}
use Rattle.c_grammar.specs.Reading.{Reading, Reader, onward, past, either, turns}
use Rattle.c_grammar.specs.Statements.{Position, keyword, in_loop, in_switch}
use Rattle.c_grammar.specs.StatementReading.{kind_at, tested, optional, begun, statement, children_from, switch_body}
use Rattle.c_grammar.specs.StatementReading.{if_behind, switch_behind, while_behind, do_behind, for_behind}
use Rattle.c_grammar.proofs.Kept.{Extends, through, left, nothing, mark-kept}
use Rattle.c_grammar.proofs.StatementsKept.{read_tested-kept, read_optional-kept, read_begun-kept, read_statement-kept}
use Rattle.c_grammar.proofs.StatementsKept.{read_children-kept, read_switch-kept, keyword-kept}
use Rattle.c_expressions.specs.Parts.{reader}
use Rattle.c_statements.specs.Productions.{enclosed, compound_behind, perhaps_else}

-- what is left behind a scope's end, by what the code leaves
pub record Ended (from to new : Input) : Type 0 where
  pub scope : ℕ
  pub count : scope ≡ length from.names
  pub leaves : new ≡ record { tokens = to.tokens; names = drop (length to.names - scope) to.names }

pub ended : {from to new : Input} → Ended from to new → Extends from to → new ≡ under from to
ended {from} {to} {new} end kept =
    end.leaves ∙ (ap (λ (scope : ℕ). record { tokens = to.tokens; names = drop (length to.names - scope) to.names }) end.count
    ∙ left kept)

-- ---- a scope in another

onward-under : {A B : Type 0} (from : Input) (next : A → Input → Option B) (reading : Reading A)
    → onward reading (λ x rest. next x (under from rest)) ≡ onward (onward reading (λ x rest. Some (x, under from rest))) next
onward-under from next None = refl
onward-under from next (Some x) = refl

enclosed-onward : {A B : Type 0} (read : Reader A) (from : Input) (next : A → Input → Option B)
    → onward (read from) (λ x rest. next x (under from rest)) ≡ onward (enclosed read from) next
unfolding enclosed
enclosed-onward read from next = onward-under from next (read from)

enclosed-names : {A : Type 0} (from to : Input) (tree : A) (reading : Reading A)
    → onward {B = A × Input} reading (λ x rest. Some (x, under from rest)) ≡ Some (tree, to) → to.names ≡ from.names
enclosed-names from to tree None e = absurd (none-some _ e)
enclosed-names {A} from to tree (Some x) e =
    ap (λ (pair : A × Input). pair.1.names) (sym (same_Some (x.0, under from x.1) (tree, to) e))

enclosed-kept : {A : Type 0} (read : Reader A) (from to : Input) (tree : A) → enclosed read from ≡ Some (tree, to)
    → Extends from to
unfolding enclosed
enclosed-kept read from to tree e = record { new = []; names = enclosed-names from to tree (read from) e }

same-onward : {A B : Type 0} (reading : Reading A) (one other : A → Input → Option B)
    → ((x : A) (rest : Input) → one x rest ≡ other x rest) → onward reading one ≡ onward reading other
same-onward None one other same = refl
same-onward (Some x) one other same = same x.0 x.1

into_onward : {A B P : Type 0} (r : Reading A) (f : A → Input → Option B) (y : B) → onward r f ≡ Some y
    → ((x : A) (rest : Input) → r ≡ Some (x, rest) → f x rest ≡ Some y → P) → P
into_onward None f y e k = absurd (none-some y e)
into_onward (Some x) f y e k = k x.0 x.1 refl e

-- ---- the second part of an `if`

second-scope : (outer : Input) (test : Expr) (one : Stmt) (reading : Reading Stmt)
    → onward {B = StmtKind × Input} reading (λ two to. Some (kinds.IfElse test one two, under outer to))
    ≡ onward {B = StmtKind × Input} (onward {B = StmtKind × Input} reading (λ two to. Some (kinds.IfElse test one two, to)))
    (λ kind to. Some (kind, under outer to))
second-scope outer test one None = refl
second-scope outer test one (Some x) = refl

else-scope : (outer mid : Input) (test : Expr) (one : Stmt) (read : Reader Stmt) (taken : Option Input)
    → either {B = Reading StmtKind} taken (Some (kinds.If test one, under outer mid))
    (λ other. onward {B = StmtKind × Input} (read other) λ two to. Some (kinds.IfElse test one two, under outer to))
    ≡ onward {B = StmtKind × Input} (either {B = Reading StmtKind} taken (Some (kinds.If test one, mid))
    (λ other. onward {B = StmtKind × Input} (read other) λ two to. Some (kinds.IfElse test one two, to)))
    (λ kind to. Some (kind, under outer to))
else-scope outer mid test one read None = refl
else-scope outer mid test one read (Some other) = second-scope outer test one (read other)

else-kept : (mid to : Input) (test : Expr) (one : Stmt) (kind : StmtKind) (read : Reader Stmt)
    → ((from rest : Input) (tree : Stmt) → read from ≡ Some (tree, rest) → Extends from rest)
    → (taken : Option Input) → ((other : Input) → taken ≡ Some other → Extends mid other)
    → either {B = Reading StmtKind} taken (Some (kinds.If test one, mid))
    (λ other. onward {B = StmtKind × Input} (read other) λ two to. Some (kinds.IfElse test one two, to)) ≡ Some (kind, to)
    → Extends mid to
else-kept mid to test one kind read kept None behind e =
    subst (λ (i : Input). Extends mid i) (ap (λ (pair : StmtKind × Input). pair.1) (same_Some _ (kind, to) e)) (nothing mid)
else-kept mid to test one kind read kept (Some other) behind e =
    into_onward (read other) (λ two to. Some (kinds.IfElse test one two, to)) (kind, to) e λ two rest is found.
    subst (λ (i : Input). Extends mid i) (ap (λ (pair : StmtKind × Input). pair.1) (same_Some _ (kind, to) found))
    (through (behind other refl) (kept other rest two is))

module _ (room : ℕ) where
  perhaps-kept : (position : Position) (mid to : Input) (test : Expr) (one : Stmt) (kind : StmtKind)
      → perhaps_else (reader 200) (kind_at (reader 200) room) position test one mid ≡ Some (kind, to) → Extends mid to
  unfolding perhaps_else
  perhaps-kept position mid to test one kind e = else-kept mid to test one kind
      (statement (reader 200) (kind_at (reader 200) room) position)
      (λ from rest tree. read_statement-kept 200 200 room position from tree rest) (keyword words.Else mid)
      (λ other taken. keyword-kept words.Else mid other taken) e

  pub if-parts : (position : Position) (outer : Input) → if_behind (reader 200) (kind_at (reader 200) room) position outer outer
      ≡ onward (tested (reader 200) outer) λ test inner.
      onward (enclosed (statement (reader 200) (kind_at (reader 200) room) position) inner) λ one mid.
      onward (perhaps_else (reader 200) (kind_at (reader 200) room) position test one mid) λ kind to. Some (kind, under outer to)
  unfolding if_behind perhaps_else
  if-parts position outer = same-onward (tested (reader 200) outer)
      (λ test inner. onward (statement (reader 200) (kind_at (reader 200) room) position inner) λ one rest.
      either (keyword words.Else (under inner rest)) (Some (kinds.If test one, under outer rest))
      (λ other. onward (statement (reader 200) (kind_at (reader 200) room) position other) λ two to.
      Some (kinds.IfElse test one two, under outer to)))
      (λ test inner. onward (enclosed (statement (reader 200) (kind_at (reader 200) room) position) inner) λ one mid.
      onward (perhaps_else (reader 200) (kind_at (reader 200) room) position test one mid) λ kind to. Some (kind, under outer to))
      (λ test inner. same-onward (statement (reader 200) (kind_at (reader 200) room) position inner)
      (λ one rest. either (keyword words.Else (under inner rest)) (Some (kinds.If test one, under outer rest))
      (λ other. onward (statement (reader 200) (kind_at (reader 200) room) position other) λ two to.
      Some (kinds.IfElse test one two, under outer to)))
      (λ one rest. onward (perhaps_else (reader 200) (kind_at (reader 200) room) position test one (under inner rest))
      λ kind to. Some (kind, under outer to))
      (λ one rest. else-scope outer (under inner rest) test one (statement (reader 200) (kind_at (reader 200) room) position)
      (keyword words.Else (under inner rest)))
      ∙ enclosed-onward (statement (reader 200) (kind_at (reader 200) room) position) inner
      (λ one mid. onward (perhaps_else (reader 200) (kind_at (reader 200) room) position test one mid) λ kind to.
      Some (kind, under outer to)))

  pub do-parts : (outer : Input) → do_behind (reader 200) (kind_at (reader 200) room) outer outer
      ≡ onward (enclosed (statement (reader 200) (kind_at (reader 200) room) in_loop) outer) λ body mid.
      past (keyword words.While mid) λ inner. onward (tested (reader 200) inner) λ test close.
      past (mark marks.Semicolon close) λ to. Some (kinds.Do body test, under outer to)
  unfolding do_behind
  do-parts outer = enclosed-onward (statement (reader 200) (kind_at (reader 200) room) in_loop) outer
      (λ body mid. past (keyword words.While mid) λ inner. onward (tested (reader 200) inner) λ test close.
      past (mark marks.Semicolon close) λ to. Some (kinds.Do body test, under outer to))

  -- ---- each statement whose scope ends behind it

  pub enclosed-read : (position : Position) (from to new : Input) (tree : Stmt)
      → statement (reader 200) (kind_at (reader 200) room) position from ≡ Some (tree, to) → Ended from to new
      → enclosed (statement (reader 200) (kind_at (reader 200) room) position) from ≡ Some (tree, new)
  unfolding enclosed
  enclosed-read position from to new tree p end =
      let e = ended end (read_statement-kept 200 200 room position from tree to p) in
      rw p (ap (λ (i : Input). Some (tree, i)) (sym e))

  pub compound-read : (position : Position) (from to new : Input) (list : List Stmt)
      → children_from (reader 200) (kind_at (reader 200) room) position (turns from) from ≡ Some (list, to) → Ended from to new
      → compound_behind (reader 200) (kind_at (reader 200) room) position from ≡ Some (kinds.Compound list, new)
  unfolding compound_behind
  compound-read position from to new list p end =
      let e = ended end (read_children-kept 200 200 room position (turns from) from list to p) in
      rw p (ap (λ (i : Input). Some (kinds.Compound list, i)) (sym e))

  pub if-read : (position : Position) (outer inner mid to new : Input) (test : Expr) (one : Stmt) (kind : StmtKind)
      → tested (reader 200) outer ≡ Some (test, inner)
      → enclosed (statement (reader 200) (kind_at (reader 200) room) position) inner ≡ Some (one, mid)
      → perhaps_else (reader 200) (kind_at (reader 200) room) position test one mid ≡ Some (kind, to) → Ended outer to new
      → if_behind (reader 200) (kind_at (reader 200) room) position outer outer ≡ Some (kind, new)
  if-read position outer inner mid to new test one kind p q r end =
      let e = ended end (through (read_tested-kept 200 200 outer test inner p)
      (through (enclosed-kept (statement (reader 200) (kind_at (reader 200) room) position) inner mid one q)
      (perhaps-kept position mid to test one kind r))) in
      if-parts position outer ∙ rw (p, q, r) (ap (λ (i : Input). Some (kind, i)) (sym e))

  pub switch-read : (position : Position) (outer inner to new : Input) (value : Expr) (body : Stmt) (inside : Position)
      → inside ≡ in_switch position → tested (reader 200) outer ≡ Some (value, inner)
      → switch_body (reader 200) (kind_at (reader 200) room) inside inner ≡ Some (body, to) → Ended outer to new
      → switch_behind (reader 200) (kind_at (reader 200) room) position outer outer ≡ Some (kinds.Switch value body, new)
  unfolding switch_behind
  switch-read position outer inner to new value body inside at p q end =
      let here = subst (λ (there : Position). switch_body (reader 200) (kind_at (reader 200) room) there inner ≡ Some (body, to)) at q in
      let e = ended end (through (read_tested-kept 200 200 outer value inner p)
      (read_switch-kept 200 200 room inside inner body to q)) in
      rw (p, here) (ap (λ (i : Input). Some (kinds.Switch value body, i)) (sym e))

  pub while-read : (outer inner to new : Input) (test : Expr) (body : Stmt) (inside : Position)
      → inside ≡ in_loop → tested (reader 200) outer ≡ Some (test, inner)
      → statement (reader 200) (kind_at (reader 200) room) inside inner ≡ Some (body, to) → Ended outer to new
      → while_behind (reader 200) (kind_at (reader 200) room) outer outer ≡ Some (kinds.While test body, new)
  unfolding while_behind
  while-read outer inner to new test body inside at p q end =
      let here = subst (λ (there : Position). statement (reader 200) (kind_at (reader 200) room) there inner ≡ Some (body, to)) at q in
      let e = ended end (through (read_tested-kept 200 200 outer test inner p)
      (read_statement-kept 200 200 room inside inner body to q)) in
      rw (p, here) (ap (λ (i : Input). Some (kinds.While test body, i)) (sym e))

  pub do-read : (outer mid inner close to new : Input) (body : Stmt) (test : Expr) (inside : Position)
      → inside ≡ in_loop → enclosed (statement (reader 200) (kind_at (reader 200) room) inside) outer ≡ Some (body, mid)
      → keyword words.While mid ≡ Some inner → tested (reader 200) inner ≡ Some (test, close)
      → mark marks.Semicolon close ≡ Some to → Ended outer to new
      → do_behind (reader 200) (kind_at (reader 200) room) outer outer ≡ Some (kinds.Do body test, new)
  do-read outer mid inner close to new body test inside at p q r m end =
      let here = subst (λ (there : Position). enclosed (statement (reader 200) (kind_at (reader 200) room) there) outer ≡ Some (body, mid)) at p in
      let e = ended end (through (enclosed-kept (statement (reader 200) (kind_at (reader 200) room) inside) outer mid body p)
      (through (keyword-kept words.While mid inner q) (through (read_tested-kept 200 200 inner test close r)
      (mark-kept marks.Semicolon close to m)))) in
      do-parts outer ∙ rw (here, q, r, m) (ap (λ (i : Input). Some (kinds.Do body test, i)) (sym e))

  pub for-read : (outer inner first second third close rest to new : Input) (init : ForInit) (test step : Option Expr)
      (body : Stmt) (inside : Position) → inside ≡ in_loop → mark marks.OpenParenthesis outer ≡ Some inner
      → begun (reader 200) inner ≡ Some (init, first)
      → optional (reader 200) marks.Semicolon first ≡ Some (test, second) → mark marks.Semicolon second ≡ Some third
      → optional (reader 200) marks.CloseParenthesis third ≡ Some (step, close)
      → mark marks.CloseParenthesis close ≡ Some rest
      → statement (reader 200) (kind_at (reader 200) room) inside rest ≡ Some (body, to) → Ended outer to new
      → for_behind (reader 200) (kind_at (reader 200) room) outer outer ≡ Some (kinds.For init test step body, new)
  unfolding for_behind
  for-read outer inner first second third close rest to new init test step body inside at o b t m s c q end =
      let here = subst (λ (there : Position). statement (reader 200) (kind_at (reader 200) room) there rest ≡ Some (body, to)) at q in
      let e = ended end (through (mark-kept marks.OpenParenthesis outer inner o)
      (through (read_begun-kept 200 200 inner init first b)
      (through (read_optional-kept 200 200 marks.Semicolon first test second t)
      (through (mark-kept marks.Semicolon second third m)
      (through (read_optional-kept 200 200 marks.CloseParenthesis third step close s)
      (through (mark-kept marks.CloseParenthesis close rest c)
      (read_statement-kept 200 200 room inside rest body to q))))))) in
      rw (o, b, t, m, s, c, here) (ap (λ (i : Input). Some (kinds.For init test step body, i)) (sym e))
