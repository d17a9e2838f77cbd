-- Where two lists of summands give each product the same factor, they are one polynomial.
use Rattle.std.proofs.Common.{◌≡◌, ℕ, Bool, true, false, not, cond, List, [], ◌∷◌, refl, ap, ◌∙◌, sym, ℤ, pos, ◌+ℤ◌, arith}
use Rattle.std.specs.Ordering.{int_eq, is_eq, match_ordering, ordering_reverse}
use Rattle.std.specs.Cmp.{IsTotalOrder, on_total}
use Rattle.std.specs.Cmp.Lexicographic.{nat_list_cmp_total}
use Rattle.std.specs.FinMap.{slice_cmp-IsAntisymmetric, nat_cmp-IsAntisymmetric}
use Rattle.std.specs.declared.cmp.Ordering.{Ordering}
use Rattle.std.specs.declared.cmp.Ordering.TheVariants.{Less, Equal, Greater}
use Rattle.std.proofs.lemmas.Bool.Decides.{Decides-int_eq}
use Rattle.std.proofs.lemmas.Int.{ints}
use Rattle.std.proofs.Math.IntN.{+ℤ_assoc, +ℤ_comm, +ℤ_idl, +ℤ_idr}
use Rattle.rc_terms.specs.declared.term.Term.{Term}
use Rattle.normal_forms.specs.declared.product.Product.{Product}
use Rattle.normal_forms.specs.declared.summand.Summand.{Summand}
use Rattle.normal_forms.specs.Polynomials.{expanded}
use Rattle.normal_forms.specs.Sums.{product_of, product_order, Polynomial, added, gathered, present, summed, normal_sum, coefficient}
use Rattle.normal_forms.proofs.SumValues.{HasKey, AllHaveKeys, added_keys, product_has_key, same_products}

total : IsTotalOrder product_order
total = on_total (λ (p : Product). p.key) nat_list_cmp_total

turned_back : (o r : Ordering) → o ≡ ordering_reverse r → r ≡ Greater → o ≡ Less
turned_back o r e g = e ∙ ap ordering_reverse g

above_it : (p q : Product) → product_order p q ≡ Greater → product_order q p ≡ Less
above_it p q g = turned_back (product_order q p) (product_order p q) (total.antisymm q p) g

own_reverse : (o : Ordering) → o ≡ ordering_reverse o → o ≡ Equal
own_reverse Less e = cc
own_reverse Equal e = refl
own_reverse Greater e = cc

itself : (p : Product) → product_order p p ≡ Equal
itself p = own_reverse (product_order p p) (total.antisymm p p)

alike : (r p q : Product) → product_order p q ≡ Equal → product_order r p ≡ product_order r q
alike r p q e = total.antisymm r p ∙ ap ordering_reverse (total.congr p q r e) ∙ sym (total.antisymm r q)

-- all products of a polynomial stand behind a product
abbrev Above : Product → Polynomial → Type 0
Above p [] = Unit {0}
Above p (e ∷ es) = (product_order p e.0 ≡ Less) × Above p es

abbrev Sorted : Polynomial → Type 0
Sorted [] = Unit {0}
Sorted (e ∷ es) = Above e.0 es × Sorted es

above_trans : (p q : Product) (es : Polynomial) → product_order p q ≡ Less → Above q es → Above p es
above_trans p q [] is all = tt
above_trans p q (e ∷ es) is all = (total.trans p q e.0 is all.0, above_trans p q es is all.1)

added_above_at : (o : Ordering) (r p : Product) (k : ℤ) (e : Product × ℤ) (es more : Polynomial) → product_order r p ≡ Less → Above r (e ∷ es) → Above r more
    → Above r (match_ordering o ((p, k) ∷ e ∷ es) ((e.0, e.1 +ℤ k) ∷ es) (e ∷ more))
added_above_at Less r p k e es more is all rest = (is, all)
added_above_at Equal r p k e es more is all rest = all
added_above_at Greater r p k e es more is all rest = (all.0, rest)

added_above : (r p : Product) (k : ℤ) (es : Polynomial) → product_order r p ≡ Less → Above r es → Above r (added es p k)
added_above r p k [] is all = (is, tt)
added_above r p k (e ∷ es) is all =
    added_above_at (product_order p e.0) r p k e es (added es p k) is all (added_above r p k es is all.1)

added_sorted_at : (o : Ordering) (p : Product) (k : ℤ) (e : Product × ℤ) (es : Polynomial) → product_order p e.0 ≡ o → Sorted (e ∷ es) → Sorted (added es p k)
    → Sorted (match_ordering o ((p, k) ∷ e ∷ es) ((e.0, e.1 +ℤ k) ∷ es) (e ∷ added es p k))
added_sorted_at Less p k e es is all rest = ((is, above_trans p e.0 es is all.0), all)
added_sorted_at Equal p k e es is all rest = all
added_sorted_at Greater p k e es is all rest = (added_above e.0 p k es (above_it p e.0 is) all.0, rest)

added_sorted : (p : Product) (k : ℤ) (es : Polynomial) → Sorted es → Sorted (added es p k)
added_sorted p k [] all = (tt, tt)
added_sorted p k (e ∷ es) all = added_sorted_at (product_order p e.0) p k e es refl all (added_sorted p k es all.1)

gathered_sorted : (es : Polynomial) (ss : List Summand) → Sorted es → Sorted (gathered es ss)
gathered_sorted es [] all = all
gathered_sorted es (s ∷ ss) all = gathered_sorted (added es (product_of s.product) s.factor) ss (added_sorted (product_of s.product) s.factor es all)

gathered_keys : (es : Polynomial) (ss : List Summand) → AllHaveKeys es → AllHaveKeys (gathered es ss)
gathered_keys es [] all = all
gathered_keys es (s ∷ ss) all =
    gathered_keys (added es (product_of s.product) s.factor) ss (added_keys es (product_of s.product) s.factor (product_has_key s.product) all)

chosen_above : (here : Bool) (p : Product) (e : Product × ℤ) (es : Polynomial) → product_order p e.0 ≡ Less → Above p es → Above p (cond here (e ∷ es) es)
chosen_above true p e es is all = (is, all)
chosen_above false p e es is all = all

present_above : (p : Product) (es : Polynomial) → Above p es → Above p (present es)
present_above p [] all = tt
present_above p (e ∷ es) all = chosen_above (not (int_eq e.1 (pos 0))) p e (present es) all.0 (present_above p es all.1)

chosen_sorted : (here : Bool) (e : Product × ℤ) (es : Polynomial) → Above e.0 es → Sorted es → Sorted (cond here (e ∷ es) es)
chosen_sorted true e es is all = (is, all)
chosen_sorted false e es is all = all

present_sorted : (es : Polynomial) → Sorted es → Sorted (present es)
present_sorted [] all = tt
present_sorted (e ∷ es) all =
    chosen_sorted (not (int_eq e.1 (pos 0))) e (present es) (present_above e.0 es all.0) (present_sorted es all.1)

chosen_keys : (here : Bool) (e : Product × ℤ) (es : Polynomial) → HasKey e.0 → AllHaveKeys es → AllHaveKeys (cond here (e ∷ es) es)
chosen_keys true e es is all = (is, all)
chosen_keys false e es is all = all

present_keys : (es : Polynomial) → AllHaveKeys es → AllHaveKeys (present es)
present_keys [] all = tt
present_keys (e ∷ es) all = chosen_keys (not (int_eq e.1 (pos 0))) e (present es) all.0 (present_keys es all.1)

abbrev NoZero : Polynomial → Type 0
NoZero [] = Unit {0}
NoZero (e ∷ es) = (e.1 ≡ pos 0 → ⊥) × NoZero es

chosen_nonzero : (zero : Bool) (e : Product × ℤ) (es : Polynomial) → int_eq e.1 (pos 0) ≡ zero → NoZero es → NoZero (cond (not zero) (e ∷ es) es)
chosen_nonzero true e es is all = all
chosen_nonzero false e es is all = ((λ n. let test = (Decides-int_eq e.1 (pos 0)).1 n in cc), all)

present_nonzero : (es : Polynomial) → NoZero (present es)
present_nonzero [] = tt
present_nonzero (e ∷ es) = chosen_nonzero (int_eq e.1 (pos 0)) e (present es) refl (present_nonzero es)

-- a product's factor in a polynomial
abbrev pub factor_at : Product → Polynomial → ℤ
factor_at p [] = pos 0
factor_at p (e ∷ es) = cond (is_eq (product_order p e.0)) e.1 (pos 0) +ℤ factor_at p es

factor_above : (p : Product) (es : Polynomial) → Above p es → factor_at p es ≡ pos 0
factor_above p [] all = refl
factor_above p (e ∷ es) all =
    ap (λ o. cond (is_eq o) e.1 (pos 0) +ℤ factor_at p es) all.0 ∙ +ℤ_idl (factor_at p es) ∙ factor_above p es all.1

added_up : (here : Bool) (a b c : ℤ) → cond here (a +ℤ b) (pos 0) +ℤ c ≡ (cond here a (pos 0) +ℤ c) +ℤ cond here b (pos 0)
added_up true a b c = omega (arith, ints)
added_up false a b c = omega (arith, ints)

factor_added_at : (o : Ordering) (r p : Product) (k : ℤ) (e : Product × ℤ) (es more : Polynomial) → product_order p e.0 ≡ o
    → factor_at r more ≡ factor_at r es +ℤ cond (is_eq (product_order r p)) k (pos 0)
    → factor_at r (match_ordering o ((p, k) ∷ e ∷ es) ((e.0, e.1 +ℤ k) ∷ es) (e ∷ more))
    ≡ (cond (is_eq (product_order r e.0)) e.1 (pos 0) +ℤ factor_at r es) +ℤ cond (is_eq (product_order r p)) k (pos 0)
factor_added_at Less r p k e es more is f =
    +ℤ_comm (cond (is_eq (product_order r p)) k (pos 0)) (cond (is_eq (product_order r e.0)) e.1 (pos 0) +ℤ factor_at r es)
factor_added_at Equal r p k e es more is f =
    added_up (is_eq (product_order r e.0)) e.1 k (factor_at r es)
    ∙ ap (λ o. (cond (is_eq (product_order r e.0)) e.1 (pos 0) +ℤ factor_at r es) +ℤ cond (is_eq o) k (pos 0)) (sym (alike r p e.0 is))
factor_added_at Greater r p k e es more is f =
    ap (λ x. cond (is_eq (product_order r e.0)) e.1 (pos 0) +ℤ x) f
    ∙ sym (+ℤ_assoc (cond (is_eq (product_order r e.0)) e.1 (pos 0)) (factor_at r es) (cond (is_eq (product_order r p)) k (pos 0)))

factor_added : (r p : Product) (k : ℤ) (es : Polynomial)
    → factor_at r (added es p k) ≡ factor_at r es +ℤ cond (is_eq (product_order r p)) k (pos 0)
factor_added r p k [] = +ℤ_comm (cond (is_eq (product_order r p)) k (pos 0)) (pos 0)
factor_added r p k (e ∷ es) = factor_added_at (product_order p e.0) r p k e es (added es p k) refl (factor_added r p k es)

factor_gathered : (r : Product) (es : Polynomial) (ss : List Summand) → factor_at r (gathered es ss) ≡ factor_at r es +ℤ coefficient r ss
factor_gathered r es [] = sym (+ℤ_idr (factor_at r es))
factor_gathered r es (s ∷ ss) =
    factor_gathered r (added es (product_of s.product) s.factor) ss
    ∙ ap (λ x. x +ℤ coefficient r ss) (factor_added r (product_of s.product) s.factor es)
    ∙ +ℤ_assoc (factor_at r es) (cond (is_eq (product_order r (product_of s.product))) s.factor (pos 0)) (coefficient r ss)

nothing : (here : Bool) (a : ℤ) → a ≡ pos 0 → cond here a (pos 0) ≡ pos 0
nothing true a e = e
nothing false a e = refl

factor_present_at : (zero : Bool) (r : Product) (e : Product × ℤ) (es : Polynomial) → int_eq e.1 (pos 0) ≡ zero
    → factor_at r (cond (not zero) (e ∷ es) es) ≡ cond (is_eq (product_order r e.0)) e.1 (pos 0) +ℤ factor_at r es
factor_present_at true r e es is =
    sym (ap (λ x. x +ℤ factor_at r es) (nothing (is_eq (product_order r e.0)) e.1 ((Decides-int_eq e.1 (pos 0)).0 is)) ∙ +ℤ_idl (factor_at r es))
factor_present_at false r e es is = refl

factor_present : (r : Product) (es : Polynomial) → factor_at r (present es) ≡ factor_at r es
factor_present r [] = refl
factor_present r (e ∷ es) =
    factor_present_at (int_eq e.1 (pos 0)) r e (present es) refl
    ∙ ap (λ x. cond (is_eq (product_order r e.0)) e.1 (pos 0) +ℤ x) (factor_present r es)

-- a first entry's factor
factor_head : (e : Product × ℤ) (es : Polynomial) → Above e.0 es → factor_at e.0 (e ∷ es) ≡ e.1
factor_head e es all =
    ap (λ o. cond (is_eq o) e.1 (pos 0) +ℤ factor_at e.0 es) (itself e.0)
    ∙ ap (λ x. e.1 +ℤ x) (factor_above e.0 es all) ∙ +ℤ_idr e.1

product_same : (p q : Product) → p.key ≡ q.key → p.factors ≡ q.factors → p ≡ q
product_same p q h g =
    ap (λ (k : List ℕ). let r : Product = record { key = k; factors = p.factors } in r) h
    ∙ ap (λ (l : List Term). let r : Product = record { key = q.key; factors = l } in r) g

cancelled : (a b c d : ℤ) → a +ℤ b ≡ c +ℤ d → a ≡ c → b ≡ d
cancelled a b c d e h = omega (arith, ints)

same_heads : (o : Ordering) (e f : Product × ℤ) (es fs : Polynomial) → product_order e.0 f.0 ≡ o
    → Sorted (e ∷ es) → Sorted (f ∷ fs) → NoZero (e ∷ es) → NoZero (f ∷ fs) → AllHaveKeys (e ∷ es) → AllHaveKeys (f ∷ fs)
    → ((r : Product) → factor_at r (e ∷ es) ≡ factor_at r (f ∷ fs)) → (((r : Product) → factor_at r es ≡ factor_at r fs) → es ≡ fs) → e ∷ es ≡ f ∷ fs
same_heads Less e f es fs is s t n m h g same rest =
    absurd (n.0 (sym (factor_head e es s.0) ∙ same e.0 ∙ factor_above e.0 (f ∷ fs) (is, above_trans e.0 f.0 fs is t.0)))
same_heads Greater e f es fs is s t n m h g same rest =
    let back = above_it e.0 f.0 is in
    absurd (m.0 (sym (factor_head f fs t.0) ∙ sym (same f.0) ∙ factor_above f.0 (e ∷ es) (back, above_trans f.0 e.0 es back s.0)))
same_heads Equal e f es fs is s t n m h g same rest =
    let keys : e.0.key ≡ f.0.key = slice_cmp-IsAntisymmetric nat_cmp-IsAntisymmetric e.0.key f.0.key is in
    let products : e.0 ≡ f.0 = product_same e.0 f.0 keys (same_products e.0 f.0 h.0 g.0 is) in
    let factors : e.1 ≡ f.1 =
    sym (factor_head e es s.0) ∙ same e.0 ∙ ap (λ r. factor_at r (f ∷ fs)) products ∙ factor_head f fs t.0 in
    let first : (r : Product) → cond (is_eq (product_order r e.0)) e.1 (pos 0) ≡ cond (is_eq (product_order r f.0)) f.1 (pos 0) =
    (λ r. ap (λ p. cond (is_eq (product_order r p)) e.1 (pos 0)) products ∙ ap (λ k. cond (is_eq (product_order r f.0)) k (pos 0)) factors) in
    let tails : es ≡ fs = rest (λ r. cancelled _ _ _ _ (same r) (first r)) in
    ap (λ (p : Product). (p, e.1) ∷ es) products ∙ ap (λ (k : ℤ). (f.0, k) ∷ es) factors ∙ ap (λ l. f ∷ l) tails

same_polynomials : (es fs : Polynomial) → Sorted es → Sorted fs → NoZero es → NoZero fs → AllHaveKeys es → AllHaveKeys fs
    → ((r : Product) → factor_at r es ≡ factor_at r fs) → es ≡ fs
same_polynomials [] [] s t n m h g same = refl
same_polynomials [] (f ∷ fs) s t n m h g same = absurd (m.0 (sym (factor_head f fs t.0) ∙ sym (same f.0)))
same_polynomials (e ∷ es) [] s t n m h g same = absurd (n.0 (sym (factor_head e es s.0) ∙ same e.0))
same_polynomials (e ∷ es) (f ∷ fs) s t n m h g same =
    same_heads (product_order e.0 f.0) e f es fs refl s t n m h g same
    (same_polynomials es fs s.1 t.1 n.1 m.1 h.1 g.1)

pub written_factor : (r : Product) (ss : List Summand) → factor_at r (present (gathered [] ss)) ≡ coefficient r ss
written_factor r ss = factor_present r (gathered [] ss) ∙ factor_gathered r [] ss ∙ +ℤ_idl (coefficient r ss)

pub one_polynomial : (a b : List Summand) → ((product : Product) → coefficient product a ≡ coefficient product b)
    → present (gathered [] a) ≡ present (gathered [] b)
one_polynomial a b same =
    same_polynomials (present (gathered [] a)) (present (gathered [] b))
    (present_sorted (gathered [] a) (gathered_sorted [] a tt)) (present_sorted (gathered [] b) (gathered_sorted [] b tt))
    (present_nonzero (gathered [] a)) (present_nonzero (gathered [] b))
    (present_keys (gathered [] a) (gathered_keys [] a tt)) (present_keys (gathered [] b) (gathered_keys [] b tt))
    (λ r. written_factor r a ∙ same r ∙ sym (written_factor r b))

pub one_form : (term other : Term) → ((product : Product) → coefficient product (expanded term) ≡ coefficient product (expanded other))
    → normal_sum term ≡ normal_sum other
one_form term other same = ap summed (one_polynomial (expanded term) (expanded other) same)
