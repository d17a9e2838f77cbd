-- Fronts of lists.
use Rattle.std.proofs.Common.{◌≡◌, ℕ, ◌<◌, ◌≤◌, Bool, true, false, List, [], ◌∷◌, ◌++◌, length, get_or, take, drop, sym, refl, ap, ◌∙◌, ⊎_elim, arith, add-zero}
use Rattle.std.specs.List.{list_all, prefix_len}
use Rattle.std.proofs.lemmas.Bool.{and_parts, and_from, false≢true, cases_lt}
use Rattle.std.proofs.lemmas.List.{take_at, drop_at, take_all, get_or-take, get_or_append_left, get_or-append-add}
use Rattle.std.proofs.lemmas.List.Folds.{length-prefix_len}
use Rattle.std.proofs.lemmas.List.Prefix.{front_fits, front_reads}
use Rattle.std.proofs.lemmas.List.Sums.{prefix_len_passes, prefix_len_stops, prefix_len_is, AllPass-from_list_all, list_all-from_AllPass}

-- two ways to cut one list at one length
pub same_fronts : {A : Type 0} (p q r s : List A) → p ++ q ≡ r ++ s → length p ≡ length r → (p ≡ r) × (q ≡ s)
same_fronts p q r s same lengths = (
  sym (take_at p q (length r) lengths) ∙ ap (take (length r)) same ∙ take_at r s (length r) refl,
  sym (drop_at p q (length r) lengths) ∙ ap (drop (length r)) same ∙ drop_at r s (length r) refl,
)

pub list_all-weaker : (p q : ℕ → Bool) (xs : List ℕ) → ((x : ℕ) → p x ≡ true → q x ≡ true) → list_all p xs ≡ true → list_all q xs ≡ true
list_all-weaker p q [] weaker all = refl
list_all-weaker p q (x ∷ xs) weaker all =
    let parts = and_parts (p x) (list_all p xs) all in
    and_from (q x) (list_all q xs) (weaker x parts.0) (list_all-weaker p q xs weaker parts.1)

-- the front that passes passes
pub list_all-take_prefix : (p : ℕ → Bool) (xs : List ℕ) → list_all p (take (prefix_len p xs) xs) ≡ true
list_all-take_prefix p xs =
    list_all-from_AllPass p (take (prefix_len p xs) xs) (λ k d h.
    let below : k < prefix_len p xs = omega (arith, length-prefix_len p xs) in
    ap p (get_or-take (prefix_len p xs) xs k d below) ∙ prefix_len_passes p xs k d below)

-- no front that passes is longer
pub length-le-prefix_len : (p : ℕ → Bool) (xs front rest : List ℕ) → xs ≡ front ++ rest → list_all p front ≡ true → length front ≤ prefix_len p xs
length-le-prefix_len p xs front rest split all =
    ⊎_elim
    (λ shorter.
    let inside : prefix_len p xs < length xs = omega (arith, front_fits xs front rest split) in
    let passes = AllPass-from_list_all p front all (prefix_len p xs) 0 shorter in
    absurd (false≢true (sym (prefix_len_stops p xs 0 inside) ∙ ap p (front_reads 0 xs front rest split (prefix_len p xs) shorter) ∙ passes)))
    (λ enough. enough)
    (cases_lt (prefix_len p xs) (length front))

-- a front that passes, before an element that doesn't
pub prefix_len_at : (p : ℕ → Bool) (xs front rest : List ℕ) → xs ≡ front ++ rest → list_all p front ≡ true → p (get_or rest 0 0) ≡ false → prefix_len p xs ≡ length front
prefix_len_at p xs front rest split all stops =
    prefix_len_is p xs (length front) 0 (front_fits xs front rest split)
    (λ k below. ap p (front_reads 0 xs front rest split k below) ∙ AllPass-from_list_all p front all k 0 below)
    (λ inside. ap p (ap (λ l. get_or l (length front) 0) split ∙ sym (ap (λ n. get_or (front ++ rest) n 0) (add-zero (length front))) ∙ get_or-append-add front rest 0 0) ∙ stops)

-- a list all of which passes is its own front
pub prefix_len_all : (p : ℕ → Bool) (xs : List ℕ) → list_all p xs ≡ true → prefix_len p xs ≡ length xs
prefix_len_all p xs all =
    prefix_len_is p xs (length xs) 0 (omega arith) (λ k below. AllPass-from_list_all p xs all k 0 below) (λ past. absurd (omega arith))

pub list_all_from_prefix : (p : ℕ → Bool) (xs : List ℕ) → length xs ≤ prefix_len p xs → list_all p xs ≡ true
list_all_from_prefix p xs whole = sym (ap (list_all p) (take_all (prefix_len p xs) xs whole)) ∙ list_all-take_prefix p xs

-- the first element of a front
pub first_of_front : (xs front rest : List ℕ) → xs ≡ front ++ rest → 0 < length front → get_or front 0 0 ≡ get_or xs 0 0
first_of_front xs front rest split some = sym (get_or_append_left front rest 0 0 some) ∙ ap (λ l. get_or l 0 0) (sym split)
