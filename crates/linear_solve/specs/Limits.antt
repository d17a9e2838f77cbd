-- Which numbers pass a limit.
use Rattle.std.specs.Prelude.{ℕ, ◌^◌, Bool, ◌||◌, nat_lt, ℤ, IsTrue, ⊤, ◌≡◌, unsigned_abs}
use Rattle.std.specs.List.{list_any}
use Rattle.std.specs.FinMap.{entries}
use Rattle.linear_certs.specs.declared.row.Row.{Row}
use Rattle.linear_solve.specs.declared.limit.Limit.{Limit}
use Rattle.linear_solve.specs.declared.limit.Limit.TheVariants as limits
use Rattle.linear_solve.specs.declared.limit.SolveRefusal.{SolveRefusal}
use Rattle.linear_solve.specs.declared.limit.SolveRefusal.TheVariants as refusals

-- a number beyond 2^120
abbrev pub is_wide : ℤ → Bool
is_wide number = nat_lt (2 ^ 120) (unsigned_abs number)

-- a row with such a number
abbrev pub is_wide_row : Row → Bool
is_wide_row row = is_wide row.constant || list_any (λ factor. is_wide factor.1) (entries row.factors)

-- how many rows may be counted
abbrev pub row_limit : ℕ
row_limit = 200000

-- how many unknowns there may be
abbrev pub column_limit : ℕ
column_limit = 128

-- what a refusal says where it names a limit
abbrev pub OnLimit : SolveRefusal → (Limit → Type 0) → Type 0
OnLimit (refusals.Limit limit) P = P limit
OnLimit refusals.NoMemory P = ⊤

-- the limit is that on numbers, which one of this row's passes
abbrev pub PassesWidth : Row → Limit → Type 0
PassesWidth row limit = (limit ≡ limits.Width) × IsTrue (is_wide_row row)
