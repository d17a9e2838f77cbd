-- The unknowns of rows, one more.
use Rattle.std.proofs.Common.{◌≡◌, ℕ, ◌+◌, ◌<◌, List, length, get_or, drop, ℤ, sym, ap, ◌∙◌}
use Rattle.std.specs.Ordering.{nat_cmp}
use Rattle.std.specs.BTreeSet.{insert_key}
use Rattle.std.proofs.lemmas.List.{at_drop_more}
use Rattle.linear_solve.specs.Unknowns.{with_factors}

pub factors_next : (known new : List ℕ) (factors : List (ℕ × ℤ)) (i : ℕ) (d : ℕ × ℤ) (total : List ℕ)
    → i < length factors → with_factors known (drop i factors) ≡ total
    → new ≡ insert_key nat_cmp known (get_or factors i d).0 → with_factors new (drop (i + 1) factors) ≡ total
factors_next known new factors i d total within is is_new =
    ap (λ k. with_factors k (drop (i + 1) factors)) is_new
    ∙ sym (at_drop_more (with_factors known) factors i d within) ∙ is
