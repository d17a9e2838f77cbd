-- Whole numbers by index, as finite maps: an index that isn't there has 0.
use Rattle.std.specs.Prelude.{ℕ, List, ℤ, pos, ◌+ℤ◌, ◌*ℤ◌, unsigned_abs, int_div, max, fold, unwrap_or, filter}
use Rattle.std.specs.Prelude.{map, not}
use Rattle.std.specs.Ordering.{nat_cmp, int_eq}
use Rattle.std.specs.FinMap.{FinMap, get, insert}
use Rattle.linear_solve.specs.Divisors.{common_divisor}

-- the number at an index
abbrev pub number_at : FinMap nat_cmp ℤ → ℕ → ℤ
number_at numbers index = unwrap_or (get numbers index) (pos 0)

-- a number is added at an index
abbrev pub plus_at : FinMap nat_cmp ℤ → ℕ → ℤ → FinMap nat_cmp ℤ
plus_at numbers index number = insert numbers index (number_at numbers index +ℤ number)

-- a multiple of each entry is added
abbrev pub plus_multiple : ℤ → List (ℕ × ℤ) → FinMap nat_cmp ℤ → FinMap nat_cmp ℤ
plus_multiple by entries numbers = fold (λ sums entry. plus_at sums entry.0 (by *ℤ entry.1)) numbers entries

-- the greatest common divisor of a number and of all entries, 1 where all are 0
abbrev pub shared_divisor : ℤ → List (ℕ × ℤ) → ℤ
shared_divisor number entries =
    pos (max 1 (fold (λ divisor entry. common_divisor divisor (unsigned_abs entry.1)) (unsigned_abs number) entries))

-- the entries, each divided, without those that are 0
abbrev pub quotients : ℤ → List (ℕ × ℤ) → List (ℕ × ℤ)
quotients divisor entries =
    filter (λ entry. not (int_eq entry.1 (pos 0))) (map (λ entry. (entry.0, int_div entry.1 divisor)) entries)
