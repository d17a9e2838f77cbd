-- A sum with like products added up, and the term that writes it, have the value of the summands.
use Rattle.std.proofs.Common.{◌≡◌, ℕ, Bool, true, false, not, cond, List, [], ◌∷◌, map, refl, ap, ◌∙◌, sym, ℤ, pos, ◌+ℤ◌, ◌*ℤ◌}
use Rattle.std.specs.List.{concat}
use Rattle.std.specs.Ordering.{int_eq, is_gt, match_ordering, nat_cmp}
use Rattle.std.specs.Cmp.Lexicographic.{slice_cmp}
use Rattle.std.specs.FinMap.{slice_cmp-IsAntisymmetric, nat_cmp-IsAntisymmetric}
use Rattle.std.specs.declared.cmp.Ordering.{Ordering}
use Rattle.std.specs.declared.cmp.Ordering.TheVariants.{Less, Equal, Greater}
use Rattle.std.proofs.lemmas.Bool.Decides.{Decides-int_eq}
use Rattle.std.proofs.Math.IntN.{zero-*ℤ, +ℤ_assoc, +ℤ_idl, +ℤ_idr}
use Rattle.rc_terms.specs.declared.term.Term.{Term}
use Rattle.rc_terms.specs.declared.term.Term.TheVariants as terms
use Rattle.rc_terms.specs.declared.operator.BinaryOperator.TheVariants as binary
use Rattle.rc_terms.specs.declared.value.TermValue.TheVariants as values
use Rattle.rc_terms.specs.Operators.{number_of, plus}
use Rattle.rc_terms.specs.Evaluation.{Environment, value_of}
use Rattle.normal_forms.specs.declared.product.Factor.{Factor}
use Rattle.normal_forms.specs.declared.product.Product.{Product}
use Rattle.normal_forms.specs.declared.summand.Summand.{Summand}
use Rattle.normal_forms.specs.Order.{key_of}
use Rattle.normal_forms.specs.Polynomials.{product_value, sum_value}
use Rattle.normal_forms.specs.Sums.{keyed, placed, arranged, product_of, product_order, Polynomial, added, gathered, present, multiplied_by, multiple, plus_all, summed}
use Rattle.normal_forms.proofs.Integers.{add_mul, mul_assoc, mul_one, one_mul, add_swap, mul_swap_front}
use Rattle.normal_forms.proofs.Values.{value-Integer, value-Binary}
use Rattle.normal_forms.proofs.Keys.{products_apart}

abbrev terms_in : List Factor → List Term
terms_in factors = map (λ factor. factor.term) factors

abbrev keys_in : List Factor → List (List ℕ)
keys_in factors = map (λ factor. factor.key) factors

-- each factor has its term's key
abbrev HaveKeys : List Factor → Type 0
HaveKeys factors = keys_in factors ≡ map key_of (terms_in factors)

placed_keys_at : (behind : Bool) (t : Term) (f : Factor) (fs more : List Factor) → HaveKeys (f ∷ fs) → HaveKeys more
    → HaveKeys (cond behind (keyed t ∷ f ∷ fs) (f ∷ more))
placed_keys_at true t f fs more h rest = ap (λ l. key_of t ∷ l) h
placed_keys_at false t f fs more h rest =
    let head : f.key ≡ key_of f.term = cc in
    ap (λ k. k ∷ keys_in more) head ∙ ap (λ l. key_of f.term ∷ l) rest

placed_keys : (t : Term) (fs : List Factor) → HaveKeys fs → HaveKeys (placed (keyed t) fs)
placed_keys t [] h = refl
placed_keys t (f ∷ fs) h =
    let tail : HaveKeys fs = cc in
    placed_keys_at (is_gt (slice_cmp nat_cmp f.key (key_of t))) t f fs (placed (keyed t) fs) h (placed_keys t fs tail)

arranged_keys : (fs : List Factor) (ts : List Term) → HaveKeys fs → HaveKeys (arranged fs ts)
arranged_keys fs [] h = h
arranged_keys fs (t ∷ ts) h = arranged_keys (placed (keyed t) fs) ts (placed_keys t fs h)

-- a product has its factors' keys
abbrev pub HasKey : Product → Type 0
HasKey p = p.key ≡ concat (map key_of p.factors)

pub product_has_key : (ts : List Term) → HasKey (product_of ts)
product_has_key ts = ap concat (arranged_keys [] ts refl)

pub same_products : (p q : Product) → HasKey p → HasKey q → product_order p q ≡ Equal → p.factors ≡ q.factors
same_products p q h g e =
    products_apart p.factors q.factors
    (sym h ∙ slice_cmp-IsAntisymmetric nat_cmp-IsAntisymmetric p.key q.key e ∙ g)

abbrev pub AllHaveKeys : Polynomial → Type 0
AllHaveKeys [] = Unit {0}
AllHaveKeys (e ∷ es) = HasKey e.0 × AllHaveKeys es

added_keys_at : (o : Ordering) (p : Product) (k : ℤ) (e : Product × ℤ) (es more : Polynomial) → HasKey p → HasKey e.0 → AllHaveKeys es → AllHaveKeys more
    → AllHaveKeys (match_ordering o ((p, k) ∷ e ∷ es) ((e.0, e.1 +ℤ k) ∷ es) (e ∷ more))
added_keys_at Less p k e es more h g f rest = (h, (g, f))
added_keys_at Equal p k e es more h g f rest = (g, f)
added_keys_at Greater p k e es more h g f rest = (g, rest)

pub added_keys : (es : Polynomial) (p : Product) (k : ℤ) → HasKey p → AllHaveKeys es → AllHaveKeys (added es p k)
added_keys [] p k h all = (h, tt)
added_keys (e ∷ es) p k h all =
    added_keys_at (product_order p e.0) p k e es (added es p k) h all.0 all.1 (added_keys es p k h all.1)

-- what is so of all factors stays so
module _ (Q : Term → Type 0) where
  abbrev pub AllAre : List Term → Type 0
  AllAre [] = Unit {0}
  AllAre (t ∷ ts) = Q t × AllAre ts

  abbrev pub EntriesAre : Polynomial → Type 0
  EntriesAre [] = Unit {0}
  EntriesAre (e ∷ es) = AllAre e.0.factors × EntriesAre es

  abbrev pub SummandsAre : List Summand → Type 0
  SummandsAre [] = Unit {0}
  SummandsAre (s ∷ ss) = AllAre s.product × SummandsAre ss

  placed_whole_at : (behind : Bool) (t : Term) (f : Factor) (fs more : List Factor) → Q t → AllAre (terms_in (f ∷ fs)) → AllAre (terms_in more)
      → AllAre (terms_in (cond behind (keyed t ∷ f ∷ fs) (f ∷ more)))
  placed_whole_at true t f fs more h all rest = (h, all)
  placed_whole_at false t f fs more h all rest = (all.0, rest)

  placed_whole : (t : Term) (fs : List Factor) → Q t → AllAre (terms_in fs) → AllAre (terms_in (placed (keyed t) fs))
  placed_whole t [] h all = (h, tt)
  placed_whole t (f ∷ fs) h all =
      placed_whole_at (is_gt (slice_cmp nat_cmp f.key (key_of t))) t f fs (placed (keyed t) fs) h all (placed_whole t fs h all.1)

  arranged_whole : (fs : List Factor) (ts : List Term) → AllAre (terms_in fs) → AllAre ts → AllAre (terms_in (arranged fs ts))
  arranged_whole fs [] h all = h
  arranged_whole fs (t ∷ ts) h all = arranged_whole (placed (keyed t) fs) ts (placed_whole t fs all.0 h) all.1

  added_whole_at : (o : Ordering) (p : Product) (k : ℤ) (e : Product × ℤ) (es more : Polynomial) → AllAre p.factors → AllAre e.0.factors → EntriesAre es
      → EntriesAre more → EntriesAre (match_ordering o ((p, k) ∷ e ∷ es) ((e.0, e.1 +ℤ k) ∷ es) (e ∷ more))
  added_whole_at Less p k e es more h g f rest = (h, (g, f))
  added_whole_at Equal p k e es more h g f rest = (g, f)
  added_whole_at Greater p k e es more h g f rest = (g, rest)

  added_whole : (es : Polynomial) (p : Product) (k : ℤ) → AllAre p.factors → EntriesAre es → EntriesAre (added es p k)
  added_whole [] p k h all = (h, tt)
  added_whole (e ∷ es) p k h all =
      added_whole_at (product_order p e.0) p k e es (added es p k) h all.0 all.1 (added_whole es p k h all.1)

  pub gathered_whole : (es : Polynomial) (ss : List Summand) → EntriesAre es → SummandsAre ss → EntriesAre (gathered es ss)
  gathered_whole es [] h all = h
  gathered_whole es (s ∷ ss) h all =
      gathered_whole (added es (product_of s.product) s.factor) ss
      (added_whole es (product_of s.product) s.factor (arranged_whole [] s.product tt all.0) h) all.1

  present_whole_at : (here : Bool) (e : Product × ℤ) (es : Polynomial) → AllAre e.0.factors → EntriesAre es → EntriesAre (cond here (e ∷ es) es)
  present_whole_at true e es h all = (h, all)
  present_whole_at false e es h all = all

  pub present_whole : (es : Polynomial) → EntriesAre es → EntriesAre (present es)
  present_whole [] all = tt
  present_whole (e ∷ es) all = present_whole_at (not (int_eq e.1 (pos 0))) e (present es) all.0 (present_whole es all.1)

module _ (env : Environment) where
  abbrev number : Term → ℤ
  number t = number_of (value_of env t)

  placed_value_at : (behind : Bool) (t : Term) (f : Factor) (fs more : List Factor)
      → product_value env (terms_in more) ≡ number t *ℤ product_value env (terms_in fs)
      → product_value env (terms_in (cond behind (keyed t ∷ f ∷ fs) (f ∷ more))) ≡ number t *ℤ (number f.term *ℤ product_value env (terms_in fs))
  placed_value_at true t f fs more e = refl
  placed_value_at false t f fs more e =
      ap (λ x. number f.term *ℤ x) e ∙ mul_swap_front (number f.term) (number t) (product_value env (terms_in fs))

  placed_value : (t : Term) (fs : List Factor)
      → product_value env (terms_in (placed (keyed t) fs)) ≡ number t *ℤ product_value env (terms_in fs)
  placed_value t [] = refl
  placed_value t (f ∷ fs) =
      placed_value_at (is_gt (slice_cmp nat_cmp f.key (key_of t))) t f fs (placed (keyed t) fs) (placed_value t fs)

  arranged_value : (fs : List Factor) (ts : List Term)
      → product_value env (terms_in (arranged fs ts)) ≡ product_value env (terms_in fs) *ℤ product_value env ts
  arranged_value fs [] = sym (mul_one (product_value env (terms_in fs)))
  arranged_value fs (t ∷ ts) =
      arranged_value (placed (keyed t) fs) ts ∙ ap (λ x. x *ℤ product_value env ts) (placed_value t fs)
      ∙ mul_assoc (number t) (product_value env (terms_in fs)) (product_value env ts)
      ∙ mul_swap_front (number t) (product_value env (terms_in fs)) (product_value env ts)

  factors_value : (ts : List Term) → product_value env (product_of ts).factors ≡ product_value env ts
  factors_value ts = arranged_value [] ts ∙ one_mul (product_value env ts)

  abbrev entries_value : Polynomial → ℤ
  entries_value [] = pos 0
  entries_value (e ∷ es) = e.1 *ℤ product_value env e.0.factors +ℤ entries_value es

  added_value_at : (o : Ordering) (p : Product) (k : ℤ) (e : Product × ℤ) (es more : Polynomial) → product_order p e.0 ≡ o → HasKey p → HasKey e.0
      → entries_value more ≡ k *ℤ product_value env p.factors +ℤ entries_value es
      → entries_value (match_ordering o ((p, k) ∷ e ∷ es) ((e.0, e.1 +ℤ k) ∷ es) (e ∷ more))
      ≡ k *ℤ product_value env p.factors +ℤ (e.1 *ℤ product_value env e.0.factors +ℤ entries_value es)
  added_value_at Less p k e es more is h g f = refl
  added_value_at Equal p k e es more is h g f =
      ap (λ x. x +ℤ entries_value es) (add_mul e.1 k (product_value env e.0.factors))
      ∙ +ℤ_assoc (e.1 *ℤ product_value env e.0.factors) (k *ℤ product_value env e.0.factors) (entries_value es)
      ∙ add_swap (e.1 *ℤ product_value env e.0.factors) (k *ℤ product_value env e.0.factors) (entries_value es)
      ∙ ap (λ l. k *ℤ product_value env l +ℤ (e.1 *ℤ product_value env e.0.factors +ℤ entries_value es)) (sym (same_products p e.0 h g is))
  added_value_at Greater p k e es more is h g f =
      ap (λ x. e.1 *ℤ product_value env e.0.factors +ℤ x) f
      ∙ add_swap (e.1 *ℤ product_value env e.0.factors) (k *ℤ product_value env p.factors) (entries_value es)

  added_value : (es : Polynomial) (p : Product) (k : ℤ) → HasKey p → AllHaveKeys es
      → entries_value (added es p k) ≡ k *ℤ product_value env p.factors +ℤ entries_value es
  added_value [] p k h all = refl
  added_value (e ∷ es) p k h all =
      added_value_at (product_order p e.0) p k e es (added es p k) refl h all.0 (added_value es p k h all.1)

  gathered_value : (es : Polynomial) (ss : List Summand) → AllHaveKeys es
      → entries_value (gathered es ss) ≡ entries_value es +ℤ sum_value env ss
  gathered_value es [] all = sym (+ℤ_idr (entries_value es))
  gathered_value es (s ∷ ss) all =
      let key = product_has_key s.product in
      gathered_value (added es (product_of s.product) s.factor) ss (added_keys es (product_of s.product) s.factor key all)
      ∙ ap (λ x. x +ℤ sum_value env ss) (added_value es (product_of s.product) s.factor key all)
      ∙ ap (λ x. (s.factor *ℤ x +ℤ entries_value es) +ℤ sum_value env ss) (factors_value s.product)
      ∙ +ℤ_assoc (s.factor *ℤ product_value env s.product) (entries_value es) (sum_value env ss)
      ∙ add_swap (s.factor *ℤ product_value env s.product) (entries_value es) (sum_value env ss)

  present_value_at : (zero : Bool) (e : Product × ℤ) (es : Polynomial) → int_eq e.1 (pos 0) ≡ zero
      → entries_value (cond (not zero) (e ∷ es) es) ≡ e.1 *ℤ product_value env e.0.factors +ℤ entries_value es
  present_value_at true e es is =
      let none : e.1 ≡ pos 0 = (Decides-int_eq e.1 (pos 0)).0 is in
      sym (ap (λ k. k *ℤ product_value env e.0.factors +ℤ entries_value es) none
      ∙ ap (λ x. x +ℤ entries_value es) (zero-*ℤ (product_value env e.0.factors)) ∙ +ℤ_idl (entries_value es))
  present_value_at false e es is = refl

  present_value : (es : Polynomial) → entries_value (present es) ≡ entries_value es
  present_value [] = refl
  present_value (e ∷ es) =
      present_value_at (int_eq e.1 (pos 0)) e (present es) refl
      ∙ ap (λ x. e.1 *ℤ product_value env e.0.factors +ℤ x) (present_value es)

  -- a term whose value is a number
  abbrev pub IsWhole : Term → Type 0
  IsWhole t = value_of env t ≡ values.Integer (number t)

  abbrev pub AllWhole : List Term → Type 0
  AllWhole = AllAre IsWhole

  abbrev pub EntriesWhole : Polynomial → Type 0
  EntriesWhole = EntriesAre IsWhole

  abbrev pub SummandsWhole : List Summand → Type 0
  SummandsWhole = SummandsAre IsWhole

  times_term : (t f : Term) → value_of env (terms.Binary binary.Multiply t f) ≡ values.Integer (number t *ℤ number f)
  times_term t f = value-Binary env binary.Multiply t f

  multiplied_by_value : (t : Term) (ts : List Term) → IsWhole t
      → value_of env (multiplied_by t ts) ≡ values.Integer (number t *ℤ product_value env ts)
  multiplied_by_value t [] h = h ∙ ap values.Integer (sym (mul_one (number t)))
  multiplied_by_value t (f ∷ fs) h =
      let product = times_term t f in
      multiplied_by_value (terms.Binary binary.Multiply t f) fs (product ∙ ap values.Integer (sym (ap number_of product)))
      ∙ ap (λ v. values.Integer (number_of v *ℤ product_value env fs)) product
      ∙ ap values.Integer (mul_assoc (number t) (number f) (product_value env fs))

  multiple_at : (one : Bool) (k : ℤ) (f : Term) (fs : List Term) → int_eq k (pos 1) ≡ one → IsWhole f
      → value_of env (multiplied_by (cond one f (terms.Binary binary.Multiply (terms.Integer k) f)) fs)
      ≡ values.Integer (k *ℤ (number f *ℤ product_value env fs))
  multiple_at true k f fs is h =
      let unit : k ≡ pos 1 = (Decides-int_eq k (pos 1)).0 is in
      multiplied_by_value f fs h ∙ ap values.Integer (sym (one_mul (number f *ℤ product_value env fs)))
      ∙ ap (λ n. values.Integer (n *ℤ (number f *ℤ product_value env fs))) (sym unit)
  multiple_at false k f fs is h =
      let node = terms.Binary binary.Multiply (terms.Integer k) f in
      let product : value_of env node ≡ values.Integer (k *ℤ number f) =
      times_term (terms.Integer k) f ∙ ap (λ v. values.Integer (number_of v *ℤ number f)) (value-Integer env k) in
      multiplied_by_value node fs (product ∙ ap values.Integer (sym (ap number_of product)))
      ∙ ap (λ v. values.Integer (number_of v *ℤ product_value env fs)) product
      ∙ ap values.Integer (mul_assoc k (number f) (product_value env fs))

  multiple_value : (k : ℤ) (ts : List Term) → AllWhole ts → value_of env (multiple k ts) ≡ values.Integer (k *ℤ product_value env ts)
  multiple_value k [] h = value-Integer env k ∙ ap values.Integer (sym (mul_one k))
  multiple_value k (f ∷ fs) h = multiple_at (int_eq k (pos 1)) k f fs refl h.0

  plus_all_value : (t : Term) (es : Polynomial) → IsWhole t → EntriesWhole es
      → value_of env (plus_all t es) ≡ values.Integer (number t +ℤ entries_value es)
  plus_all_value t [] h all = h ∙ ap values.Integer (sym (+ℤ_idr (number t)))
  plus_all_value t (e ∷ es) h all =
      let more = multiple e.1 e.0.factors in
      let value = multiple_value e.1 e.0.factors all.0 in
      let sum : value_of env (terms.Binary binary.Add t more) ≡ values.Integer (number t +ℤ e.1 *ℤ product_value env e.0.factors) =
      value-Binary env binary.Add t more ∙ ap (λ v. plus v (value_of env more)) h ∙ ap (λ v. plus (values.Integer (number t)) v) value in
      plus_all_value (terms.Binary binary.Add t more) es (sum ∙ ap values.Integer (sym (ap number_of sum))) all.1
      ∙ ap (λ v. values.Integer (number_of v +ℤ entries_value es)) sum
      ∙ ap values.Integer (+ℤ_assoc (number t) (e.1 *ℤ product_value env e.0.factors) (entries_value es))

  summed_value : (es : Polynomial) → EntriesWhole es → value_of env (summed es) ≡ values.Integer (entries_value es)
  summed_value [] all = value-Integer env (pos 0)
  summed_value (e ∷ es) all =
      let first = multiple_value e.1 e.0.factors all.0 in
      plus_all_value (multiple e.1 e.0.factors) es (first ∙ ap values.Integer (sym (ap number_of first))) all.1
      ∙ ap (λ v. values.Integer (number_of v +ℤ entries_value es)) first

  pub summed-gathered : (ss : List Summand) → SummandsWhole ss
      → value_of env (summed (present (gathered [] ss))) ≡ values.Integer (sum_value env ss)
  summed-gathered ss all =
      summed_value (present (gathered [] ss)) (present_whole IsWhole (gathered [] ss) (gathered_whole IsWhole [] ss tt all))
      ∙ ap values.Integer (present_value (gathered [] ss) ∙ gathered_value [] ss tt ∙ +ℤ_idl (sum_value env ss))
