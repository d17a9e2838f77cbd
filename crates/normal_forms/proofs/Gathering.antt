-- A polynomial in the code's map, entry by entry.
use Rattle.std.proofs.lemmas.Bool.Decides.{Decides-int_eq}
use Rattle.rc_terms.specs.Numbers.{holds_in_128_bits}
use Rattle.normal_forms.specs.Widths.{is_wide}
use Rattle.std.proofs.Common.{◌≡◌, Bool, true, false, not, ◌||◌, cond, [], ◌∷◌, refl, ap, ◌∙◌, sym, ℤ, pos, ◌+ℤ◌, Option, Some, None, unwrap_or}
use Rattle.std.proofs.Math.IntN.{+ℤ_idl}
use Rattle.std.specs.Ordering.{int_eq, match_ordering, is_eq}
use Rattle.std.specs.BTreeMap.{insert_entry, is_at}
use Rattle.std.specs.Map.{lookup, keys_of}
use Rattle.std.specs.List.Sorted.{IsStrictlySortedBy}
use Rattle.std.specs.Cmp.{IsTotalOrder, on_total}
use Rattle.std.specs.Cmp.Lexicographic.{nat_list_cmp_total}
use Rattle.std.specs.declared.cmp.Ordering.{Ordering}
use Rattle.std.specs.declared.cmp.Ordering.TheVariants.{Less, Equal, Greater}
use Rattle.std.proofs.lemmas.Map.{lookup-none}
use Rattle.std.proofs.lemmas.Map.Entries.{none_below_head}
use Rattle.std.proofs.lemmas.Map.Keys.{sorted_tail}
use Rattle.rc_terms.specs.declared.term.Term.{Term}
use Rattle.normal_forms.specs.declared.product.Product.{Product}
use Rattle.normal_forms.specs.Sums.{Polynomial, product_order, added, present, plus_all, summed, multiple}
use Rattle.normal_forms.specs.Scanning.{plus_maybe, plus_rest, after_entry, is_empty}

taken : (zero : Bool) (sum : Option Term) (p : Product) (k : ℤ) (es : Polynomial)
    → plus_rest (cond zero sum (Some (plus_maybe sum (multiple k p.factors)))) es
    ≡ elim sum as (λ _. Term) [ None ↦ summed (cond (not zero) ((p, k) ∷ present es) (present es)) | Some t ↦ plus_all t (cond (not zero) ((p, k) ∷ present es) (present es)) ]
taken true None p k es = refl
taken true (Some t) p k es = refl
taken false None p k es = refl
taken false (Some t) p k es = refl

pub entry_taken : (sum : Option Term) (p : Product) (k : ℤ) (es : Polynomial)
    → plus_rest (after_entry sum p k) es ≡ plus_rest sum ((p, k) ∷ es)
entry_taken None p k es = taken (int_eq k (pos 0)) None p k es
entry_taken (Some t) p k es = taken (int_eq k (pos 0)) (Some t) p k es

pub entry_left : (p : Product) (k : ℤ) (es : Polynomial) → int_eq k (pos 0) ≡ true → present ((p, k) ∷ es) ≡ present es
entry_left p k es zero = ap (λ z. cond (not z) ((p, k) ∷ present es) (present es)) zero

pub entry_stays : (p : Product) (k : ℤ) (es : Polynomial) → int_eq k (pos 0) ≡ false → is_empty (present ((p, k) ∷ es)) ≡ false
entry_stays p k es zero = ap (λ z. is_empty (cond (not z) ((p, k) ∷ present es) (present es))) zero

narrow_here : (zero narrow : Bool) (e : Product × ℤ) (es : Polynomial) → not narrow ≡ false
    → holds_in_128_bits e.1 ≡ narrow → is_wide (cond (not zero) (e ∷ es) es) ≡ is_wide es
narrow_here true narrow e es is h = refl
narrow_here false narrow e es is h = ap (λ b. b || is_wide es) (ap not h ∙ is)

pub entry_narrow : (p : Product) (k : ℤ) (es : Polynomial) → not (holds_in_128_bits k) ≡ false
    → is_wide (present ((p, k) ∷ es)) ≡ is_wide (present es)
entry_narrow p k es is = narrow_here (int_eq k (pos 0)) (holds_in_128_bits k) (p, k) (present es) is refl

wide_here : (zero : Bool) (e : Product × ℤ) (es : Polynomial) → int_eq e.1 (pos 0) ≡ zero → not (holds_in_128_bits e.1) ≡ true
    → is_wide (cond (not zero) (e ∷ es) es) ≡ true
wide_here true e es at is =
    let none : e.1 ≡ pos 0 = (Decides-int_eq e.1 (pos 0)).0 at in
    let narrow : false ≡ true = ap (λ k. not (holds_in_128_bits k)) (sym none) ∙ is in
    cc
wide_here false e es at is = ap (λ b. b || is_wide es) is

pub entry_wide : (p : Product) (k : ℤ) (es : Polynomial) → not (holds_in_128_bits k) ≡ true → is_wide (present ((p, k) ∷ es)) ≡ true
entry_wide p k es is = wide_here (int_eq k (pos 0)) (p, k) (present es) refl is

products_total : IsTotalOrder product_order
products_total = on_total (λ (p : Product). p.key) nat_list_cmp_total

module _ (p : Product) (k : ℤ) where
  before : Polynomial → ℤ
  before es = unwrap_or (lookup (is_at (product_order p)) es) (pos 0)

  at_head : (e : Product × ℤ) (es : Polynomial) (o : Ordering) → product_order p e.0 ≡ o
      → IsStrictlySortedBy product_order (keys_of (e ∷ es))
      → insert_entry product_order es p (unwrap_or (lookup (is_at (product_order p)) es) (pos 0) +ℤ k) ≡ added es p k
      → match_ordering o ((p, unwrap_or (cond (is_eq o) (Some e.1) (lookup (is_at (product_order p)) es)) (pos 0) +ℤ k) ∷ e ∷ es)
      ((e.0, unwrap_or (cond (is_eq o) (Some e.1) (lookup (is_at (product_order p)) es)) (pos 0) +ℤ k) ∷ es)
      (e ∷ insert_entry product_order es p (unwrap_or (cond (is_eq o) (Some e.1) (lookup (is_at (product_order p)) es)) (pos 0) +ℤ k))
      ≡ match_ordering o ((p, k) ∷ e ∷ es) ((e.0, e.1 +ℤ k) ∷ es) (e ∷ added es p k)
  at_head e es Less is sorted rest =
      let none : lookup (is_at (product_order p)) (e ∷ es) ≡ None =
      lookup-none (is_at (product_order p)) (e ∷ es) (none_below_head products_total p e es sorted is) in
      let tail : lookup (is_at (product_order p)) es ≡ None =
      ap (λ o. cond (is_eq o) (Some e.1) (lookup (is_at (product_order p)) es)) (sym is) ∙ none in
      ap (λ o. (p, unwrap_or o (pos 0) +ℤ k) ∷ e ∷ es) tail ∙ ap (λ n. (p, n) ∷ e ∷ es) (+ℤ_idl k)
  at_head e es Equal is sorted rest = refl
  at_head e es Greater is sorted rest = ap (λ l. e ∷ l) rest

  pub inserted : (es : Polynomial) → IsStrictlySortedBy product_order (keys_of es)
      → insert_entry product_order es p (unwrap_or (lookup (is_at (product_order p)) es) (pos 0) +ℤ k) ≡ added es p k
  inserted [] sorted = ap (λ n. (p, n) ∷ []) (+ℤ_idl k)
  inserted (e ∷ es) sorted =
      at_head e es (product_order p e.0) refl sorted (inserted es (sorted_tail product_order e.0 (keys_of es) sorted))
