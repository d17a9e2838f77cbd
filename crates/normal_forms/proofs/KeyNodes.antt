-- The key of each form of node, and what is written of it step by step.
use Rattle.std.proofs.Common.{◌≡◌, ℕ, zero, suc, ◌<◌, Bool, List, [], ◌∷◌, ◌++◌, length, map, take, get_or, refl, ap, ◌∙◌, sym, append_assoc, append-nil, arith, ℤ, Result, Ok, Err}
use Rattle.std.specs.Result.{OnOk}
use Rattle.std.specs.List.{concat}
use Rattle.rc_terms.specs.declared.term.Term.{Term}
use Rattle.rc_terms.specs.declared.term.Term.TheOpen.{Term-F}
use Rattle.rc_terms.specs.declared.term.Term.TheFolds.{fold-roll-Term}
use Rattle.rc_terms.specs.declared.term.Term.TheVariants as terms
use Rattle.rc_terms.specs.declared.operator.UnaryOperator.{UnaryOperator}
use Rattle.rc_terms.specs.declared.operator.BinaryOperator.{BinaryOperator}
use Rattle.normal_forms.specs.Order.{unary_place, binary_place, number_key, truth_place, key_step, key_of}

pub key-Variable : (name : List ℕ) → key_of (terms.Variable name) ≡ 0 ∷ length name ∷ name
key-Variable name = ap key_of (sym (terms.rolls-Variable name)) ∙ fold-roll-Term (List ℕ) key_step (Term-F.Variable name)

pub key-Integer : (number : ℤ) → key_of (terms.Integer number) ≡ 1 ∷ number_key number
key-Integer number = ap key_of (sym (terms.rolls-Integer number)) ∙ fold-roll-Term (List ℕ) key_step (Term-F.Integer number)

pub key-Truth : (truth : Bool) → key_of (terms.Truth truth) ≡ 2 ∷ truth_place truth ∷ []
key-Truth truth = ap key_of (sym (terms.rolls-Truth truth)) ∙ fold-roll-Term (List ℕ) key_step (Term-F.Truth truth)

pub key-List : (elements : List Term) → key_of (terms.List elements) ≡ 4 ∷ length (map key_of elements) ∷ concat (map key_of elements)
key-List elements = ap key_of (sym (terms.rolls-List elements)) ∙ fold-roll-Term (List ℕ) key_step (Term-F.List elements)

pub key-Unary : (operator : UnaryOperator) (operand : Term) → key_of (terms.Unary operator operand) ≡ 5 ∷ unary_place operator ∷ key_of operand
key-Unary operator operand =
    ap key_of (sym (terms.rolls-Unary operator operand)) ∙ fold-roll-Term (List ℕ) key_step (Term-F.Unary operator operand)

pub key-Binary : (operator : BinaryOperator) (left right : Term)
    → key_of (terms.Binary operator left right) ≡ 6 ∷ binary_place operator ∷ (key_of left ++ key_of right)
key-Binary operator left right =
    ap key_of (sym (terms.rolls-Binary operator left right)) ∙ fold-roll-Term (List ℕ) key_step (Term-F.Binary operator left right)

pub key-Conditional : (test then otherwise : Term)
    → key_of (terms.Conditional test then otherwise) ≡ 7 ∷ (key_of test ++ (key_of then ++ key_of otherwise))
key-Conditional test then otherwise =
    ap key_of (sym (terms.rolls-Conditional test then otherwise)) ∙ fold-roll-Term (List ℕ) key_step (Term-F.Conditional test then otherwise)

pub key-Update : (list index number : Term)
    → key_of (terms.Update list index number) ≡ 8 ∷ (key_of list ++ (key_of index ++ key_of number))
key-Update list index number =
    ap key_of (sym (terms.rolls-Update list index number)) ∙ fold-roll-Term (List ℕ) key_step (Term-F.Update list index number)

-- what is written behind a front with a part behind it
pub after : (front part more written : List ℕ) → written ≡ front ++ part → written ++ more ≡ front ++ (part ++ more)
after front part more written e = ap (λ l. l ++ more) e ∙ append_assoc front part more

-- a call that ends the work
pub ends : {A E : Type 0} (r : Result A E) (new before more whole : List ℕ)
    → before ++ more ≡ whole → OnOk r (new ≡ before ++ more) → OnOk r (new ≡ whole)
ends (Ok v) new before more whole e h = h ∙ e
ends (Err v) new before more whole e h = tt

pub one_more : (items : List Term) (i : ℕ) (item : Term) → i < length items → item ≡ get_or items i item
    → concat (map key_of (take (suc i) items)) ≡ concat (map key_of (take i items)) ++ key_of item
one_more [] i item lt is = absurd (omega arith)
one_more (x ∷ xs) zero item lt is = append-nil (key_of x) ∙ ap key_of (sym is)
one_more (x ∷ xs) (suc i) item lt is =
    ap (λ l. key_of x ++ l) (one_more xs i item (omega arith) is)
    ∙ sym (append_assoc (key_of x) (concat (map key_of (take i xs))) (key_of item))

pub length-keys : (items : List Term) → length (map key_of items) ≡ length items
length-keys [] = refl
length-keys (x ∷ xs) = ap suc (length-keys xs)
