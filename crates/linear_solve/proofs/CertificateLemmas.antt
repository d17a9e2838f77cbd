-- The certificate of a failing row, as it is made.
use Rattle.std.proofs.Common.{◌≡◌, ℕ, Bool, List, [], ◌∷◌, map, ◌||◌, ◌^◌, ℤ, pos, ◌*ℤ◌, refl, sym, ap, ◌∙◌}
use Rattle.std.proofs.Common.{nat_le, unsigned_abs}
use Rattle.rc_terms.specs.declared.cert.Cert.{Cert}
use Rattle.rc_terms.specs.declared.cert.CertEntry.{CertEntry}
use Rattle.linear_solve.specs.Solutions.{has_long_multiplier}
use Rattle.std.specs.Ordering.{nat_cmp}
use Rattle.std.specs.List.{list_any}
use Rattle.std.specs.FinMap.{FinMap, entries, from_sorted, entries_sorted}
use Rattle.linear_solve.specs.declared.derived.Derived.{Derived}
use Rattle.linear_solve.specs.Numbers.{shared_divisor, quotients}
use Rattle.linear_solve.specs.Failing.{direction, lowest_multipliers, certificate_of}
use Rattle.linear_solve.proofs.NumberLemmas.{entries-quotients}

pub any-map : {X Y : Type 0} (p : Y → Bool) (f : X → Y) (xs : List X)
    → list_any p (map f xs) ≡ list_any (λ x. p (f x)) xs
any-map p f [] = refl
any-map p f (x ∷ xs) = ap (λ b. p (f x) || b) (any-map p f xs)

pub lowest_is : (d : Derived) (zero shared : ℤ) (lowest : FinMap nat_cmp ℤ) (slice : List (ℕ × ℤ)) → zero ≡ pos 0
    → shared ≡ shared_divisor zero (entries d.multipliers)
    → lowest ≡ from_sorted (quotients shared (entries d.multipliers)) → slice ≡ entries lowest
    → slice ≡ lowest_multipliers d
lowest_is d zero shared lowest slice is_zero is_shared is_lowest is_slice =
    is_slice ∙ ap entries is_lowest ∙ entries-quotients shared (entries d.multipliers) (entries_sorted d.multipliers)
    ∙ (λ i. quotients ((is_shared ∙ ap (λ z. shared_divisor z (entries d.multipliers)) is_zero) i) (entries d.multipliers))

abbrev entry_of : ℤ → ℕ × ℤ → CertEntry
entry_of sign entry = record { row = entry.0; multiplier = sign *ℤ entry.1 }

pub cert_is : (d : Derived) (sign : ℤ) (slice : List (ℕ × ℤ)) (items held : List CertEntry)
    → sign ≡ direction d.row.constant → slice ≡ lowest_multipliers d → items ≡ map (entry_of sign) slice → held ≡ items
    → ◌≡◌ {A = Cert} (record { entries = held }) (certificate_of d)
cert_is d sign slice items held is_sign is_slice is_items is_held =
    let made = is_held ∙ is_items ∙ (λ i. map (entry_of (is_sign i)) (is_slice i)) in λ i. record { entries = made i }

pub long_is : (d : Derived) (sign : ℤ) (slice : List (ℕ × ℤ))
    → sign ≡ direction d.row.constant → slice ≡ lowest_multipliers d
    → list_any (λ entry. nat_le (2 ^ 127) (unsigned_abs (sign *ℤ entry.1))) slice
    ≡ has_long_multiplier (certificate_of d)
long_is d sign slice is_sign is_slice =
    (λ i. list_any (λ entry. nat_le (2 ^ 127) (unsigned_abs (is_sign i *ℤ entry.1))) (is_slice i))
    ∙ sym (any-map (λ entry. nat_le (2 ^ 127) (unsigned_abs entry.multiplier)) (entry_of (direction d.row.constant))
    (lowest_multipliers d))
