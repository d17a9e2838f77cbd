-- No two terms have one key.
use Rattle.std.proofs.Common.{◌≡◌, ℕ, Bool, true, false, List, [], ◌∷◌, ◌++◌, length, map, get_or, refl, ap, ◌∙◌, sym, subst, append_assoc, arith, ℤ, pos, negsuc}
use Rattle.std.specs.List.{concat}
use Rattle.std.specs.declared.cmp.Ordering.TheVariants.{Equal}
use Rattle.std.specs.FinMap.{slice_cmp-IsAntisymmetric, nat_cmp-IsAntisymmetric}
use Rattle.rc_terms.specs.declared.term.Term.{Term, roll-Term}
use Rattle.rc_terms.specs.declared.term.Term.TheOpen.{Term-F}
use Rattle.rc_terms.specs.declared.term.Term.TheFolds.{map-Term, fold-roll-Term, ind-Term}
use Rattle.rc_terms.specs.declared.operator.UnaryOperator.{UnaryOperator}
use Rattle.rc_terms.specs.declared.operator.UnaryOperator.TheVariants as unary
use Rattle.rc_terms.specs.declared.operator.BinaryOperator.{BinaryOperator}
use Rattle.rc_terms.specs.declared.operator.BinaryOperator.TheVariants as binary
use Rattle.normal_forms.specs.Order.{unary_place, binary_place, number_key, truth_place, key_step, key_of, term_order}

-- an operator is found by its place
unary_at : ℕ → UnaryOperator
unary_at n = get_or (unary.Negative ∷ unary.Not ∷ unary.Length ∷ unary.Reverse ∷ []) n unary.Negative

unary_at-place : (operator : UnaryOperator) → unary_at (unary_place operator) ≡ operator
unfolding unary_at
unary_at-place unary.Negative = refl
unary_at-place unary.Not = refl
unary_at-place unary.Length = refl
unary_at-place unary.Reverse = refl

unary_apart : (operator other : UnaryOperator) → unary_place operator ≡ unary_place other → operator ≡ other
unary_apart operator other e = sym (unary_at-place operator) ∙ ap unary_at e ∙ unary_at-place other

binary_at : ℕ → BinaryOperator
binary_at n = get_or (binary.Add ∷ binary.Subtract ∷ binary.Multiply ∷ binary.Quotient ∷ binary.Remainder ∷ binary.ShiftLeft ∷ binary.ShiftRight ∷ binary.BitAnd ∷ binary.BitOr ∷ binary.BitXor ∷ binary.Equal ∷ binary.Unequal ∷ binary.Below ∷ binary.AtMost ∷ binary.Above ∷ binary.AtLeast ∷ binary.And ∷ binary.Or ∷ binary.Implies ∷ binary.Aligned ∷ binary.Cons ∷ binary.Append ∷ binary.Element ∷ binary.Take ∷ binary.Drop ∷ []) n binary.Add

binary_at-place : (operator : BinaryOperator) → binary_at (binary_place operator) ≡ operator
unfolding binary_at
binary_at-place binary.Add = refl
binary_at-place binary.Subtract = refl
binary_at-place binary.Multiply = refl
binary_at-place binary.Quotient = refl
binary_at-place binary.Remainder = refl
binary_at-place binary.ShiftLeft = refl
binary_at-place binary.ShiftRight = refl
binary_at-place binary.BitAnd = refl
binary_at-place binary.BitOr = refl
binary_at-place binary.BitXor = refl
binary_at-place binary.Equal = refl
binary_at-place binary.Unequal = refl
binary_at-place binary.Below = refl
binary_at-place binary.AtMost = refl
binary_at-place binary.Above = refl
binary_at-place binary.AtLeast = refl
binary_at-place binary.And = refl
binary_at-place binary.Or = refl
binary_at-place binary.Implies = refl
binary_at-place binary.Aligned = refl
binary_at-place binary.Cons = refl
binary_at-place binary.Append = refl
binary_at-place binary.Element = refl
binary_at-place binary.Take = refl
binary_at-place binary.Drop = refl

binary_apart : (operator other : BinaryOperator) → binary_place operator ≡ binary_place other → operator ≡ other
binary_apart operator other e = sym (binary_at-place operator) ∙ ap binary_at e ∙ binary_at-place other

truth_apart : (truth other : Bool) → truth_place truth ≡ truth_place other → truth ≡ other
truth_apart true true e = refl
truth_apart true false e = cc
truth_apart false true e = cc
truth_apart false false e = refl

same_front : (a b r s : List ℕ) → length a ≡ length b → a ++ r ≡ b ++ s → (a ≡ b) × (r ≡ s)
same_front [] [] r s n e = (refl, e)
same_front [] (y ∷ b) r s n e = absurd (omega arith)
same_front (x ∷ a) [] r s n e = absurd (omega arith)
same_front (x ∷ a) (y ∷ b) r s n e =
    let rest : a ++ r ≡ b ++ s = cc in
    let head : x ≡ y = cc in
    let h = same_front a b r s (omega arith) rest in
    (ap (λ z. z ∷ a) head ∙ ap (λ l. y ∷ l) h.0, h.1)

number_reads : (a b : ℤ) (r s : List ℕ) → number_key a ++ r ≡ number_key b ++ s → (a ≡ b) × (r ≡ s)
number_reads (pos a) (pos b) r s e = let n : a ≡ b = cc in let rest : r ≡ s = cc in (ap pos n, rest)
number_reads (pos a) (negsuc b) r s e = cc
number_reads (negsuc a) (pos b) r s e = cc
number_reads (negsuc a) (negsuc b) r s e = let n : a ≡ b = cc in let rest : r ≡ s = cc in (ap negsuc n, rest)

-- a term is read off the front of a list, in one way
abbrev Reads : Term → Type 0
Reads term = (other : Term) (r s : List ℕ) → key_of term ++ r ≡ key_of other ++ s → (term ≡ other) × (r ≡ s)

abbrev Part : Type 0
Part = (term : Term) × Reads term

lists_read : (parts : List Part) (others : List Term) (r s : List ℕ)
    → length (map (λ part. key_of part.0) parts) ≡ length (map key_of others)
    → concat (map (λ part. key_of part.0) parts) ++ r ≡ concat (map key_of others) ++ s
    → (map (λ part. part.0) parts ≡ others) × (r ≡ s)
lists_read [] [] r s n e = (refl, e)
lists_read [] (t ∷ others) r s n e = absurd (omega arith)
lists_read (part ∷ parts) [] r s n e = absurd (omega arith)
lists_read (part ∷ parts) (t ∷ others) r s n e =
    let front = concat (map (λ part. key_of part.0) parts) in
    let back = concat (map key_of others) in
    let whole : key_of part.0 ++ (front ++ r) ≡ key_of t ++ (back ++ s) =
    sym (append_assoc (key_of part.0) front r) ∙ e ∙ append_assoc (key_of t) back s in
    let first = part.1 t (front ++ r) (back ++ s) whole in
    let more = lists_read parts others r s (omega arith) first.1 in
    (ap (λ z. z ∷ map (λ part. part.0) parts) first.0 ∙ ap (λ l. t ∷ l) more.0, more.1)

three_read : (a b c : Part) (x y z : Term) (r s : List ℕ)
    → (key_of a.0 ++ (key_of b.0 ++ key_of c.0)) ++ r ≡ (key_of x ++ (key_of y ++ key_of z)) ++ s
    → (a.0 ≡ x) × (b.0 ≡ y) × (c.0 ≡ z) × (r ≡ s)
three_read a b c x y z r s e =
    let first = a.1 x ((key_of b.0 ++ key_of c.0) ++ r) ((key_of y ++ key_of z) ++ s)
    (sym (append_assoc (key_of a.0) (key_of b.0 ++ key_of c.0) r) ∙ e ∙ append_assoc (key_of x) (key_of y ++ key_of z) s) in
    let second = b.1 y (key_of c.0 ++ r) (key_of z ++ s)
    (sym (append_assoc (key_of b.0) (key_of c.0) r) ∙ first.1 ∙ append_assoc (key_of y) (key_of z) s) in
    let third = c.1 z r s second.1 in
    (first.0, second.0, third.0, third.1)

abbrev node_of : Term-F Part → Term
node_of y = roll-Term (map-Term Part Term (λ part. part.0) y)

nodes_read : (y : Term-F Part) (x : Term-F Term) (r s : List ℕ)
    → key_step (map-Term Part (List ℕ) (λ part. key_of part.0) y) ++ r ≡ key_step (map-Term Term (List ℕ) key_of x) ++ s
    → (node_of y ≡ roll-Term x) × (r ≡ s)
nodes_read (Term-F.Variable name) (Term-F.Variable other) r s e =
    let long : length name ≡ length other = cc in
    let rest : name ++ r ≡ other ++ s = cc in
    let h = same_front name other r s long rest in
    (ap (λ n. roll-Term (Term-F.Variable n)) h.0, h.1)
nodes_read (Term-F.Integer number) (Term-F.Integer other) r s e =
    let rest : number_key number ++ r ≡ number_key other ++ s = cc in
    let h = number_reads number other r s rest in
    (ap (λ n. roll-Term (Term-F.Integer n)) h.0, h.1)
nodes_read (Term-F.Truth truth) (Term-F.Truth other) r s e =
    let place : truth_place truth ≡ truth_place other = cc in
    let rest : r ≡ s = cc in
    (ap (λ t. roll-Term (Term-F.Truth t)) (truth_apart truth other place), rest)
nodes_read Term-F.Null Term-F.Null r s e = let rest : r ≡ s = cc in (refl, rest)
nodes_read (Term-F.List parts) (Term-F.List others) r s e =
    let long : length (map (λ part. key_of part.0) parts) ≡ length (map key_of others) = cc in
    let rest : concat (map (λ part. key_of part.0) parts) ++ r ≡ concat (map key_of others) ++ s = cc in
    let h = lists_read parts others r s long rest in
    (ap (λ l. roll-Term (Term-F.List l)) h.0, h.1)
nodes_read (Term-F.Unary operator a) (Term-F.Unary other x) r s e =
    let place : unary_place operator ≡ unary_place other = cc in
    let rest : key_of a.0 ++ r ≡ key_of x ++ s = cc in
    let h = a.1 x r s rest in
    (ap (λ o. roll-Term (Term-F.Unary o a.0)) (unary_apart operator other place) ∙ ap (λ t. roll-Term (Term-F.Unary other t)) h.0, h.1)
nodes_read (Term-F.Binary operator a b) (Term-F.Binary other x y) r s e =
    let place : binary_place operator ≡ binary_place other = cc in
    let rest : (key_of a.0 ++ key_of b.0) ++ r ≡ (key_of x ++ key_of y) ++ s = cc in
    let first = a.1 x (key_of b.0 ++ r) (key_of y ++ s)
    (sym (append_assoc (key_of a.0) (key_of b.0) r) ∙ rest ∙ append_assoc (key_of x) (key_of y) s) in
    let second = b.1 y r s first.1 in (
      ap (λ o. roll-Term (Term-F.Binary o a.0 b.0)) (binary_apart operator other place)
          ∙ ap (λ t. roll-Term (Term-F.Binary other t b.0)) first.0 ∙ ap (λ t. roll-Term (Term-F.Binary other x t)) second.0,
      second.1,
    )
nodes_read (Term-F.Conditional a b c) (Term-F.Conditional x y z) r s e =
    let rest : (key_of a.0 ++ (key_of b.0 ++ key_of c.0)) ++ r ≡ (key_of x ++ (key_of y ++ key_of z)) ++ s = cc in
    let h = three_read a b c x y z r s rest in (
      ap (λ t. roll-Term (Term-F.Conditional t b.0 c.0)) h.0 ∙ ap (λ t. roll-Term (Term-F.Conditional x t c.0)) h.1
          ∙ ap (λ t. roll-Term (Term-F.Conditional x y t)) h.2,
      h.3,
    )
nodes_read (Term-F.Update a b c) (Term-F.Update x y z) r s e =
    let rest : (key_of a.0 ++ (key_of b.0 ++ key_of c.0)) ++ r ≡ (key_of x ++ (key_of y ++ key_of z)) ++ s = cc in
    let h = three_read a b c x y z r s rest in (
      ap (λ t. roll-Term (Term-F.Update t b.0 c.0)) h.0 ∙ ap (λ t. roll-Term (Term-F.Update x t c.0)) h.1
          ∙ ap (λ t. roll-Term (Term-F.Update x y t)) h.2,
      h.3,
    )
nodes_read y x r s e = cc

keys_of_parts : (parts : List Part) → map key_of (map (λ part. part.0) parts) ≡ map (λ part. key_of part.0) parts
keys_of_parts [] = refl
keys_of_parts (part ∷ parts) = ap (λ l. key_of part.0 ∷ l) (keys_of_parts parts)

keys_kept : (y : Term-F Part)
    → map-Term Term (List ℕ) key_of (map-Term Part Term (λ part. part.0) y) ≡ map-Term Part (List ℕ) (λ part. key_of part.0) y
keys_kept (Term-F.Variable name) = refl
keys_kept (Term-F.Integer number) = refl
keys_kept (Term-F.Truth truth) = refl
keys_kept Term-F.Null = refl
keys_kept (Term-F.List parts) = ap Term-F.List (keys_of_parts parts)
keys_kept (Term-F.Unary operator a) = refl
keys_kept (Term-F.Binary operator a b) = refl
keys_kept (Term-F.Conditional a b c) = refl
keys_kept (Term-F.Update a b c) = refl

key_at : (x : Term-F Term) → key_of (roll-Term x) ≡ key_step (map-Term Term (List ℕ) key_of x)
key_at x = fold-roll-Term (List ℕ) key_step x

node_reads : (y : Term-F Part) → Reads (node_of y)
node_reads y =
    ind-Term (λ other. (r s : List ℕ) → key_of (node_of y) ++ r ≡ key_of other ++ s → (node_of y ≡ other) × (r ≡ s))
    (λ x z is r s e. nodes_read y x r s
    (ap (λ k. key_step k ++ r) (sym (keys_kept y)) ∙ ap (λ k. k ++ r) (sym (key_at (map-Term Part Term (λ part. part.0) y)))
    ∙ e ∙ ap (λ k. k ++ s) (key_at x)))

pub reads : (term : Term) → Reads term
reads = ind-Term Reads (λ x y is. subst (λ z. Reads (roll-Term z)) is (node_reads y))

pub terms_apart : (term other : Term) → term_order term other ≡ Equal → term ≡ other
terms_apart term other e =
    let same : key_of term ≡ key_of other = slice_cmp-IsAntisymmetric nat_cmp-IsAntisymmetric (key_of term) (key_of other) e in
    (reads term other [] [] (ap (λ k. k ++ []) same)).0

-- a key begins with a number
begins : (x : Term-F (List ℕ)) (r : List ℕ) → key_step x ++ r ≡ [] → ⊥
begins (Term-F.Variable name) r e = cc
begins (Term-F.Integer number) r e = cc
begins (Term-F.Truth truth) r e = cc
begins Term-F.Null r e = cc
begins (Term-F.List elements) r e = cc
begins (Term-F.Unary operator a) r e = cc
begins (Term-F.Binary operator a b) r e = cc
begins (Term-F.Conditional a b c) r e = cc
begins (Term-F.Update a b c) r e = cc

nonempty : (term : Term) (r : List ℕ) → key_of term ++ r ≡ [] → ⊥
nonempty =
    ind-Term (λ term. (r : List ℕ) → key_of term ++ r ≡ [] → ⊥)
    (λ x z is r e. begins (map-Term Term (List ℕ) key_of x) r (ap (λ k. k ++ r) (sym (key_at x)) ∙ e))

pub products_apart : (terms others : List Term) → concat (map key_of terms) ≡ concat (map key_of others) → terms ≡ others
products_apart [] [] e = refl
products_apart [] (t ∷ others) e = absurd (nonempty t (concat (map key_of others)) (sym e))
products_apart (t ∷ terms) [] e = absurd (nonempty t (concat (map key_of terms)) e)
products_apart (t ∷ terms) (u ∷ others) e =
    let h = reads t u (concat (map key_of terms)) (concat (map key_of others)) e in
    ap (λ x. x ∷ terms) h.0 ∙ ap (λ l. u ∷ l) (products_apart terms others h.1)
