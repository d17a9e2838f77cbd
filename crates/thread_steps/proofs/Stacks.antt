-- The top of a stack, whose items lie with the top last.
use Rattle.std.proofs.Common.{◌≡◌, ℕ, zero, suc, ◌+◌, ◌-◌, ◌≤◌, ◌⊎◌, inl, inr, List, [], ◌∷◌, ◌++◌, length, refl, ap}
use Rattle.std.proofs.Common.{sym, ◌∙◌, take, drop, reverse, arith}
use Rattle.std.proofs.lemmas.List.{reverse-append, reverse-reverse, length-reverse, length-drop, take-append-drop}
use Rattle.std.proofs.lemmas.List.{take_all, take_at, drop_at}

-- either the count is within the list, or the list is shorter
within_or_short : (count long : ℕ) →
    ((count ≤ long) × (count + (long - count) ≡ long)) ⊎ ((long ≤ count) × (long - count ≡ 0))
within_or_short zero long = inl (omega arith, omega arith)
within_or_short (suc count) zero = inr (omega arith, omega arith)
within_or_short (suc count) (suc long) =
    elim (within_or_short count long) [
      | inl h ↦ inl (omega arith, omega arith)
      | inr h ↦ inr (omega arith, omega arith)
    ]

drop-short : {X : Type 0} (count : ℕ) (items : List X) → length items ≤ count → drop count items ≡ []
drop-short zero [] short = refl
drop-short (suc count) [] short = refl
drop-short zero (x ∷ items) short = absurd (omega arith)
drop-short (suc count) (x ∷ items) short = drop-short count items (omega arith)

-- the reverse, cut where the list is cut
reverse-cut : {X : Type 0} (items : List X) (below : ℕ) →
    reverse items ≡ reverse (drop below items) ++ reverse (take below items)
reverse-cut items below =
    ap reverse (sym (take-append-drop below items)) ∙ reverse-append (take below items) (drop below items)

length-back : {X : Type 0} (items : List X) (count below : ℕ) → count + below ≡ length items →
    length (reverse (drop below items)) ≡ count
length-back items count below cut = length-reverse (drop below items) ∙ length-drop below items ∙ omega arith

pub topmost_is : {X : Type 0} (items : List X) (count : ℕ) →
    drop (length items - count) items ≡ reverse (take count (reverse items))
topmost_is items count =
    elim (within_or_short count (length items)) [
      | inl h ↦
          let below = length items - count in
          let back = reverse (drop below items) in
          let kept = take_at back (reverse (take below items)) count (length-back items count below h.1) in
          let cut = ap (λ xs. reverse (take count xs)) (reverse-cut items below) in
          sym (cut ∙ ap reverse kept ∙ reverse-reverse (drop below items))
      | inr h ↦
          let all = take_all count (reverse items) (omega (arith, length-reverse items)) in
          ap (λ n. drop n items) h.1 ∙ sym (reverse-reverse items) ∙ sym (ap reverse all)
    ]

pub rest_is : {X : Type 0} (items : List X) (count : ℕ) →
    reverse (take (length items - count) items) ≡ drop count (reverse items)
rest_is items count =
    elim (within_or_short count (length items)) [
      | inl h ↦
          let below = length items - count in
          let back = reverse (drop below items) in
          let left = drop_at back (reverse (take below items)) count (length-back items count below h.1) in
          sym (ap (drop count) (reverse-cut items below) ∙ left)
      | inr h ↦
          let none = drop-short count (reverse items) (omega (arith, length-reverse items)) in
          ap (λ n. reverse (take n items)) h.1 ∙ sym none
    ]
