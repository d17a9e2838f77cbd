-- A running sum's factors, by look-up.
use Rattle.std.proofs.Common.{◌≡◌, ℕ, ◌↔◌, Option, Some, None, IfSome, unwrap_or, All, ℤ, pos, refl}
use Rattle.std.specs.Ordering.{nat_cmp}
use Rattle.std.specs.BTreeMap.{BTreeMap, IsOrdered, get, keys, values}
use Rattle.std.proofs.lemmas.Cmp.{nat_cmp_total, eq_by_cmp_equiv}
use Rattle.std.proofs.lemmas.Map.Keys.{IsDistinct-from_sorted}
use Rattle.std.proofs.lemmas.Map.Views.{IfSome-lookup_from_All, All-values_from_lookup}

zero_from_IfSome : (o : Option ℤ) → IfSome o (λ factor. factor ≡ pos 0) → unwrap_or o (pos 0) ≡ pos 0
zero_from_IfSome None h = refl
zero_from_IfSome (Some factor) h = h

IfSome-from_zero : (o : Option ℤ) → unwrap_or o (pos 0) ≡ pos 0 → IfSome o (λ factor. factor ≡ pos 0)
IfSome-from_zero None h = tt
IfSome-from_zero (Some factor) h = h

-- all factors are 0 where each unknown's is
pub all_zero : (m : BTreeMap ℕ ℤ) → IsOrdered nat_cmp m → All (λ factor. factor ≡ pos 0) (values m)
    ↔ ((unknown : ℕ) → unwrap_or (get nat_cmp m unknown) (pos 0) ≡ pos 0)
all_zero m ordered = (
  λ all unknown. zero_from_IfSome _ (IfSome-lookup_from_All (λ factor. factor ≡ pos 0) _ m.entries all),
  λ zero. All-values_from_lookup (eq_by_cmp_equiv nat_cmp_total) (λ factor. factor ≡ pos 0) m.entries
      (IsDistinct-from_sorted nat_cmp (keys m) ordered) (λ unknown. IfSome-from_zero _ (zero unknown)),
)
