-- Sums over all numbers below a bound.
use Rattle.std.proofs.Common.{◌≡◌, ◌≢◌, ℕ, zero, suc, ◌<◌, ℤ, pos, ◌+ℤ◌, ◌*ℤ◌, refl, sym, ap, ◌∙◌, arith, ⊎_elim}
use Rattle.std.proofs.lemmas.Bool.{cases_eq}
use lib.IntN.{+ℤ_idl, +ℤ_idr, *ℤ-zero}
use Rattle.linear_certs.proofs.Integers.{add_across, mul_add}

abbrev pub range_sum : ℕ → (ℕ → ℤ) → ℤ
range_sum zero term = pos 0
range_sum (suc n) term = range_sum n term +ℤ term n

pub range_sum-same : (n : ℕ) (f g : ℕ → ℤ) → ((k : ℕ) → f k ≡ g k) → range_sum n f ≡ range_sum n g
range_sum-same zero f g same = refl
range_sum-same (suc n) f g same = ap (λ s. s +ℤ f n) (range_sum-same n f g same) ∙ ap (λ t. range_sum n g +ℤ t) (same n)

pub range_sum-add : (n : ℕ) (f g : ℕ → ℤ) → range_sum n (λ k. f k +ℤ g k) ≡ range_sum n f +ℤ range_sum n g
range_sum-add zero f g = refl
range_sum-add (suc n) f g =
    ap (λ s. s +ℤ (f n +ℤ g n)) (range_sum-add n f g) ∙ add_across (range_sum n f) (range_sum n g) (f n) (g n)

pub range_sum-mul : (n : ℕ) (m : ℤ) (f : ℕ → ℤ) → range_sum n (λ k. m *ℤ f k) ≡ m *ℤ range_sum n f
range_sum-mul zero m f = sym (*ℤ-zero m)
range_sum-mul (suc n) m f = ap (λ s. s +ℤ m *ℤ f n) (range_sum-mul n m f) ∙ sym (mul_add m (range_sum n f) (f n))

-- no term below the bound counts
pub range_sum-zero : (n : ℕ) (f : ℕ → ℤ) → ((k : ℕ) → k < n → f k ≡ pos 0) → range_sum n f ≡ pos 0
range_sum-zero zero f none = refl
range_sum-zero (suc n) f none =
    ap (λ s. s +ℤ f n) (range_sum-zero n f (λ k below. none k (omega arith))) ∙ +ℤ_idl (f n) ∙ none n (omega arith)

-- one term alone counts
pub range_sum-one : (n k : ℕ) (f : ℕ → ℤ) → k < n → ((i : ℕ) → i ≢ k → f i ≡ pos 0) → range_sum n f ≡ f k
range_sum-one zero k f below others = absurd (omega arith)
range_sum-one (suc n) k f below others =
    ⊎_elim
    (λ (same : k ≡ n). ap (λ s. s +ℤ f n) (range_sum-zero n f (λ i under. others i (λ e. omega arith))) ∙ +ℤ_idl (f n)
    ∙ ap f (sym same))
    (λ (apart : k ≢ n). ap (λ t. range_sum n f +ℤ t) (others n (λ e. apart (sym e))) ∙ +ℤ_idr (range_sum n f)
    ∙ range_sum-one n k f (omega arith) others)
    (cases_eq k n)
