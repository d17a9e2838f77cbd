-- One turn of the loops that read labels and children.
use Rattle.std.proofs.Common.{◌≡◌, ℕ, suc, true, false, List, [], ◌∷◌, ◌++◌, Some, None, refl}
use Rattle.c_lexer.specs.declared.punctuator.Punctuator.TheVariants as marks
use Rattle.c_syntax.specs.declared.stmt.Label.{Label}
use Rattle.c_syntax.specs.declared.stmt.Stmt.{Stmt}
use Rattle.c_cursor.proofs.Turns.{behind, behind-behind, behind-nothing}
use Rattle.c_grammar.specs.Input.{Input, mark}
use Rattle.c_grammar.specs.Statements.{Position}
use Rattle.c_grammar.specs.StatementReading.{kind_at, begins_label, label, labels_from, child, children_from, case_child}
use Rattle.c_grammar.specs.StatementReading.{cases_from}
use Rattle.c_expressions.specs.Parts.{reader}

pub labels-last : (n : ℕ) (from rest : Input) (found : List Label) (one : Label) → label (reader 200) from ≡ Some (one, rest)
    → begins_label rest ≡ false → behind found (labels_from (reader 200) (suc n) from) ≡ Some (found ++ one ∷ [], rest)
unfolding labels_from
labels-last n from rest found one p q = rw (p, q) refl

pub labels-more : (n : ℕ) (from rest : Input) (found : List Label) (one : Label) → label (reader 200) from ≡ Some (one, rest)
    → begins_label rest ≡ true
    → behind found (labels_from (reader 200) (suc n) from) ≡ behind (found ++ one ∷ []) (labels_from (reader 200) n rest)
unfolding labels_from
labels-more n from rest found one p q =
    rw (p, q) (behind-behind found (one ∷ []) (labels_from (reader 200) n rest))

module _ (room : ℕ) (position : Position) where
  pub children-end : (n : ℕ) (from to : Input) (found : List Stmt) → mark marks.CloseBrace from ≡ Some to
      → behind found (children_from (reader 200) (kind_at (reader 200) room) position (suc n) from) ≡ Some (found, to)
  unfolding children_from
  children-end n from to found p = rw p (behind-nothing found to)

  pub children-more : (n : ℕ) (from at rest : Input) (found : List Stmt) (one : Stmt) → mark marks.CloseBrace from ≡ None
      → at ≡ from → child (reader 200) (kind_at (reader 200) room) position at ≡ Some (one, rest)
      → behind found (children_from (reader 200) (kind_at (reader 200) room) position (suc n) from)
      ≡ behind (found ++ one ∷ []) (children_from (reader 200) (kind_at (reader 200) room) position n rest)
  unfolding children_from
  children-more n from at rest found one p same q =
      let here = rw same at q in
      rw (p, here) (behind-behind found (one ∷ []) (children_from (reader 200) (kind_at (reader 200) room) position n rest))

  pub cases-end : (n : ℕ) (from to : Input) (found : List Stmt) → mark marks.CloseBrace from ≡ Some to
      → behind found (cases_from (reader 200) (kind_at (reader 200) room) position (suc n) from) ≡ Some (found, to)
  unfolding cases_from
  cases-end n from to found p = rw p (behind-nothing found to)

  pub cases-more : (n : ℕ) (from at rest : Input) (found : List Stmt) (one : Stmt) → mark marks.CloseBrace from ≡ None
      → at ≡ from → case_child (reader 200) (kind_at (reader 200) room) position at ≡ Some (one, rest)
      → behind found (cases_from (reader 200) (kind_at (reader 200) room) position (suc n) from)
      ≡ behind (found ++ one ∷ []) (cases_from (reader 200) (kind_at (reader 200) room) position n rest)
  unfolding cases_from
  cases-more n from at rest found one p same q =
      let here = rw same at q in
      rw (p, here) (behind-behind found (one ∷ []) (cases_from (reader 200) (kind_at (reader 200) room) position n rest))
