-- A sum in normal form is its own normal form, and so is a location.
use Rattle.std.proofs.Common.{◌≡◌, ℕ, Bool, true, false, not, cond, List, [], ◌∷◌, ◌++◌, map, refl, ap, ◌∙◌, sym, subst, append_assoc, append-nil, ℤ, pos, negsuc, ◌+ℤ◌, ◌*ℤ◌}
use Rattle.std.specs.Ordering.{int_eq, is_eq, match_ordering}
use Rattle.std.specs.declared.cmp.Ordering.{Ordering}
use Rattle.std.specs.declared.cmp.Ordering.TheVariants.{Less, Equal, Greater}
use Rattle.std.proofs.lemmas.Bool.Decides.{Decides-int_eq}
use Rattle.rc_terms.specs.declared.term.Term.{Term, roll-Term}
use Rattle.rc_terms.specs.declared.term.Term.TheOpen.{Term-F}
use Rattle.rc_terms.specs.declared.term.Term.TheFolds.{map-Term, para-roll-Term, ind-Term}
use Rattle.rc_terms.specs.declared.term.Term.TheVariants as terms
use Rattle.rc_terms.specs.declared.operator.UnaryOperator.{UnaryOperator}
use Rattle.rc_terms.specs.declared.operator.UnaryOperator.TheVariants as unary
use Rattle.rc_terms.specs.declared.operator.BinaryOperator.{BinaryOperator}
use Rattle.rc_terms.specs.declared.operator.BinaryOperator.TheVariants as binary
use Rattle.normal_forms.specs.declared.product.Product.{Product}
use Rattle.normal_forms.specs.declared.summand.Summand.{Summand}
use Rattle.normal_forms.specs.Polynomials.{constant, opaque, times, multiplied, products, Expansion, unary_expanded, binary_expanded, expanded_step, expanded}
use Rattle.normal_forms.specs.Sums.{product_of, product_order, Polynomial, added, gathered, present, multiplied_by, multiple, plus_all, summed, normal_sum, coefficient}
use Rattle.normal_forms.proofs.Expands.{expanded-Integer, expanded-Add, expanded-Multiply}
use Rattle.normal_forms.proofs.Integers.{mul_one}
use Rattle.normal_forms.proofs.Ordered.{product_again}
use Rattle.normal_forms.proofs.OneForm.{factor_at, written_factor, one_form}
use Rattle.normal_forms.proofs.SumValues.{AllAre, EntriesAre, SummandsAre, gathered_whole, present_whole}

-- a term that the laws of rings don't look into
abbrev pub IsOpaque : Term → Type 0
IsOpaque t = expanded t ≡ opaque t ∷ []

module _ (Q : Term → Type 0) where
  all_append : (a b : List Term) → AllAre Q a → AllAre Q b → AllAre Q (a ++ b)
  all_append [] b h g = g
  all_append (t ∷ a) b h g = (h.0, all_append a b h.1 g)

  pub sums_append : (a b : List Summand) → SummandsAre Q a → SummandsAre Q b → SummandsAre Q (a ++ b)
  sums_append [] b h g = g
  sums_append (s ∷ a) b h g = (h.0, sums_append a b h.1 g)

  pub sums_times : (k : ℤ) (a : List Summand) → SummandsAre Q a → SummandsAre Q (map (times k) a)
  sums_times k [] h = tt
  sums_times k (s ∷ a) h = (h.0, sums_times k a h.1)

  sums_multiplied : (s : Summand) (b : List Summand) → AllAre Q s.product → SummandsAre Q b → SummandsAre Q (map (multiplied s) b)
  sums_multiplied s [] h g = tt
  sums_multiplied s (r ∷ b) h g = (all_append s.product r.product h g.0, sums_multiplied s b h g.1)

  pub sums_products : (a b : List Summand) → SummandsAre Q a → SummandsAre Q b → SummandsAre Q (products a b)
  sums_products [] b h g = tt
  sums_products (s ∷ a) b h g = sums_append (map (multiplied s) b) (products a b) (sums_multiplied s b h.0 g) (sums_products a b h.1 g)

rolled_by : (x : Term-F Term) → expanded (roll-Term x) ≡ expanded_step (map-Term Term Expansion (λ part. (part, expanded part)) x)
rolled_by x = para-roll-Term (List Summand) expanded_step x

whole_elements : (elements : List Term)
    → map (λ (part : Expansion). part.0) (map (λ (part : Term). (part, expanded part)) elements) ≡ elements
whole_elements [] = refl
whole_elements (element ∷ elements) = ap (λ l. element ∷ l) (whole_elements elements)

-- all terms in a sum's products are opaque
abbrev HasOpaques : Term → Type 0
HasOpaques t = SummandsAre IsOpaque (expanded t)

abbrev Part : Type 0
Part = (t : Term) × HasOpaques t

opaque_here : (t u : Term) → expanded t ≡ opaque u ∷ [] → t ≡ u → HasOpaques t
opaque_here t u e is = subst (SummandsAre IsOpaque) (sym e) ((subst IsOpaque is (e ∙ ap (λ x. opaque x ∷ []) (sym is)), tt), tt)

moved : {a b : List Summand} → a ≡ b → SummandsAre IsOpaque b → SummandsAre IsOpaque a
moved e h = subst (SummandsAre IsOpaque) (sym e) h

binary_opaques : (operator : BinaryOperator) (a b : Part) → HasOpaques (roll-Term (Term-F.Binary operator a.0 b.0))
binary_opaques binary.Add a b =
    moved (rolled_by (Term-F.Binary binary.Add a.0 b.0)) (sums_append IsOpaque (expanded a.0) (expanded b.0) a.1 b.1)
binary_opaques binary.Subtract a b =
    moved (rolled_by (Term-F.Binary binary.Subtract a.0 b.0))
    (sums_append IsOpaque (expanded a.0) (map (times (negsuc 0)) (expanded b.0)) a.1 (sums_times IsOpaque (negsuc 0) (expanded b.0) b.1))
binary_opaques binary.Multiply a b =
    moved (rolled_by (Term-F.Binary binary.Multiply a.0 b.0)) (sums_products IsOpaque (expanded a.0) (expanded b.0) a.1 b.1)
binary_opaques operator a b =
    opaque_here (roll-Term (Term-F.Binary operator a.0 b.0)) (terms.Binary operator a.0 b.0)
    (rolled_by (Term-F.Binary operator a.0 b.0)) (terms.rolls-Binary operator a.0 b.0)

unary_opaques : (operator : UnaryOperator) (a : Part) → HasOpaques (roll-Term (Term-F.Unary operator a.0))
unary_opaques unary.Negative a =
    moved (rolled_by (Term-F.Unary unary.Negative a.0)) (sums_times IsOpaque (negsuc 0) (expanded a.0) a.1)
unary_opaques operator a =
    opaque_here (roll-Term (Term-F.Unary operator a.0)) (terms.Unary operator a.0)
    (rolled_by (Term-F.Unary operator a.0)) (terms.rolls-Unary operator a.0)

node_opaques : (y : Term-F Part) → HasOpaques (roll-Term (map-Term Part Term (λ part. part.0) y))
node_opaques (Term-F.Variable name) =
    opaque_here (roll-Term (Term-F.Variable name)) (terms.Variable name) (rolled_by (Term-F.Variable name)) (terms.rolls-Variable name)
node_opaques (Term-F.Integer n) = moved (rolled_by (Term-F.Integer n)) (tt, tt)
node_opaques (Term-F.Truth b) = opaque_here (roll-Term (Term-F.Truth b)) (terms.Truth b) (rolled_by (Term-F.Truth b)) (terms.rolls-Truth b)
node_opaques Term-F.Null = opaque_here (roll-Term Term-F.Null) terms.Null (rolled_by Term-F.Null) terms.rolls-Null
node_opaques (Term-F.List parts) =
    let elements = map (λ (part : Part). part.0) parts in
    opaque_here (roll-Term (Term-F.List elements)) (terms.List elements)
    (rolled_by (Term-F.List elements) ∙ ap (λ l. opaque (terms.List l) ∷ []) (whole_elements elements)) (terms.rolls-List elements)
node_opaques (Term-F.Unary operator a) = unary_opaques operator a
node_opaques (Term-F.Binary operator a b) = binary_opaques operator a b
node_opaques (Term-F.Conditional a b c) =
    opaque_here (roll-Term (Term-F.Conditional a.0 b.0 c.0)) (terms.Conditional a.0 b.0 c.0)
    (rolled_by (Term-F.Conditional a.0 b.0 c.0)) (terms.rolls-Conditional a.0 b.0 c.0)
node_opaques (Term-F.Update a b c) =
    opaque_here (roll-Term (Term-F.Update a.0 b.0 c.0)) (terms.Update a.0 b.0 c.0)
    (rolled_by (Term-F.Update a.0 b.0 c.0)) (terms.rolls-Update a.0 b.0 c.0)

pub opaques : (t : Term) → HasOpaques t
opaques = ind-Term HasOpaques (λ x y is. subst (λ z. HasOpaques (roll-Term z)) is (node_opaques y))

-- an entry as a summand
abbrev pub summand_of : Product × ℤ → Summand
summand_of e = record { factor = e.1; product = e.0.factors }

module _ where
  multiplied_expanded : (t : Term) (k : ℤ) (ts fs : List Term) → expanded t ≡ (record { factor = k; product = ts } ∷ []) → AllAre IsOpaque fs
      → expanded (multiplied_by t fs) ≡ (record { factor = k; product = ts ++ fs } ∷ [])
  multiplied_expanded t k ts [] e all = e ∙ ap (λ l. record { factor = k; product = l } ∷ []) (sym (append-nil ts))
  multiplied_expanded t k ts (f ∷ fs) e all =
      let here : expanded (terms.Binary binary.Multiply t f) ≡ (record { factor = k; product = ts ++ f ∷ [] } ∷ []) =
      expanded-Multiply (terms.Binary binary.Multiply t f) binary.Multiply t f refl refl
      ∙ ap (λ l. products l (expanded f)) e
      ∙ ap (products (record { factor = k; product = ts } ∷ [])) all.0
      ∙ ap (λ n. record { factor = n; product = ts ++ f ∷ [] } ∷ []) (mul_one k) in
      multiplied_expanded (terms.Binary binary.Multiply t f) k (ts ++ f ∷ []) fs here all.1
      ∙ ap (λ l. record { factor = k; product = l } ∷ []) (append_assoc ts (f ∷ []) fs)

  first_expanded : (one : Bool) (k : ℤ) (f : Term) → int_eq k (pos 1) ≡ one → IsOpaque f
      → expanded (cond one f (terms.Binary binary.Multiply (terms.Integer k) f)) ≡ (record { factor = k; product = f ∷ [] } ∷ [])
  first_expanded true k f is h =
      h ∙ ap (λ n. record { factor = n; product = f ∷ [] } ∷ []) (sym ((Decides-int_eq k (pos 1)).0 is))
  first_expanded false k f is h =
      expanded-Multiply (terms.Binary binary.Multiply (terms.Integer k) f) binary.Multiply (terms.Integer k) f refl refl
      ∙ ap (λ l. products l (expanded f)) (expanded-Integer (terms.Integer k) k refl)
      ∙ ap (products (constant k ∷ [])) h
      ∙ ap (λ n. record { factor = n; product = f ∷ [] } ∷ []) (mul_one k)

  multiple_expanded : (k : ℤ) (fs : List Term) → AllAre IsOpaque fs → expanded (multiple k fs) ≡ (record { factor = k; product = fs } ∷ [])
  multiple_expanded k [] all = expanded-Integer (terms.Integer k) k refl
  multiple_expanded k (f ∷ fs) all =
      multiplied_expanded (cond (int_eq k (pos 1)) f (terms.Binary binary.Multiply (terms.Integer k) f)) k (f ∷ []) fs
      (first_expanded (int_eq k (pos 1)) k f refl all.0) all.1

  plus_expanded : (t : Term) (ss : List Summand) (es : Polynomial) → expanded t ≡ ss → EntriesAre IsOpaque es
      → expanded (plus_all t es) ≡ ss ++ map summand_of es
  plus_expanded t ss [] e all = e ∙ sym (append-nil ss)
  plus_expanded t ss (x ∷ es) e all =
      let term = multiple x.1 x.0.factors in
      let here : expanded (terms.Binary binary.Add t term) ≡ ss ++ summand_of x ∷ [] =
      expanded-Add (terms.Binary binary.Add t term) binary.Add t term refl refl
      ∙ ap (λ l. l ++ expanded term) e ∙ ap (λ l. ss ++ l) (multiple_expanded x.1 x.0.factors all.0) in
      plus_expanded (terms.Binary binary.Add t term) (ss ++ summand_of x ∷ []) es here all.1
      ∙ append_assoc ss (summand_of x ∷ []) (map summand_of es)

  pub summed_expanded : (x : Product × ℤ) (es : Polynomial) → EntriesAre IsOpaque (x ∷ es) → expanded (summed (x ∷ es)) ≡ map summand_of (x ∷ es)
  summed_expanded x es all = plus_expanded (multiple x.1 x.0.factors) (summand_of x ∷ []) es (multiple_expanded x.1 x.0.factors all.0) all.1

-- each product of a polynomial is that of its factors
abbrev Arranged : Polynomial → Type 0
Arranged [] = Unit {0}
Arranged (e ∷ es) = (product_of e.0.factors ≡ e.0) × Arranged es

added_arranged_at : (o : Ordering) (p : Product) (k : ℤ) (e : Product × ℤ) (es more : Polynomial) → product_of p.factors ≡ p → Arranged (e ∷ es)
    → Arranged more → Arranged (match_ordering o ((p, k) ∷ e ∷ es) ((e.0, e.1 +ℤ k) ∷ es) (e ∷ more))
added_arranged_at Less p k e es more h all rest = (h, all)
added_arranged_at Equal p k e es more h all rest = all
added_arranged_at Greater p k e es more h all rest = (all.0, rest)

added_arranged : (es : Polynomial) (p : Product) (k : ℤ) → product_of p.factors ≡ p → Arranged es → Arranged (added es p k)
added_arranged [] p k h all = (h, tt)
added_arranged (e ∷ es) p k h all =
    added_arranged_at (product_order p e.0) p k e es (added es p k) h all (added_arranged es p k h all.1)

gathered_arranged : (es : Polynomial) (ss : List Summand) → Arranged es → Arranged (gathered es ss)
gathered_arranged es [] all = all
gathered_arranged es (s ∷ ss) all =
    gathered_arranged (added es (product_of s.product) s.factor) ss
    (added_arranged es (product_of s.product) s.factor (product_again s.product) all)

present_arranged_at : (here : Bool) (e : Product × ℤ) (es : Polynomial) → product_of e.0.factors ≡ e.0 → Arranged es → Arranged (cond here (e ∷ es) es)
present_arranged_at true e es h all = (h, all)
present_arranged_at false e es h all = all

present_arranged : (es : Polynomial) → Arranged es → Arranged (present es)
present_arranged [] all = tt
present_arranged (e ∷ es) all = present_arranged_at (not (int_eq e.1 (pos 0))) e (present es) all.0 (present_arranged es all.1)

entries_factor : (r : Product) (es : Polynomial) → Arranged es → coefficient r (map summand_of es) ≡ factor_at r es
entries_factor r [] all = refl
entries_factor r (e ∷ es) all =
    ap (λ p. cond (is_eq (product_order r p)) e.1 (pos 0) +ℤ coefficient r (map summand_of es)) all.0
    ∙ ap (λ n. cond (is_eq (product_order r e.0)) e.1 (pos 0) +ℤ n) (entries_factor r es all.1)

no_factor : (here : Bool) → cond here (pos 0) (pos 0) +ℤ pos 0 ≡ pos 0
no_factor true = refl
no_factor false = refl

summed_factor : (r : Product) (es : Polynomial) → EntriesAre IsOpaque es → Arranged es → coefficient r (expanded (summed es)) ≡ factor_at r es
summed_factor r [] all is =
    ap (coefficient r) (expanded-Integer (terms.Integer (pos 0)) (pos 0) refl) ∙ no_factor (is_eq (product_order r (product_of [])))
summed_factor r (e ∷ es) all is = ap (coefficient r) (summed_expanded e es all) ∙ entries_factor r (e ∷ es) is

-- the entries of a polynomial of opaque terms
pub present_opaque : (ss : List Summand) → SummandsAre IsOpaque ss → EntriesAre IsOpaque (present (gathered [] ss))
present_opaque ss all = present_whole IsOpaque (gathered [] ss) (gathered_whole IsOpaque [] ss tt all)

pub written_again : (r : Product) (ss : List Summand) → SummandsAre IsOpaque ss
    → coefficient r (expanded (summed (present (gathered [] ss)))) ≡ coefficient r ss
written_again r ss all =
    summed_factor r (present (gathered [] ss)) (present_opaque ss all) (present_arranged (gathered [] ss) (gathered_arranged [] ss tt))
    ∙ written_factor r ss

pub sum_again : (t : Term) → normal_sum (normal_sum t) ≡ normal_sum t
sum_again t = one_form (normal_sum t) t (λ r. written_again r (expanded t) (opaques t))
