use Rattle.std.proofs.Common.{◌≡◌, ◌*ℤ◌, ◌^◌, false, map, take, nat_le, unsigned_abs}
use Rattle.std.specs.List.{list_any}
use Rattle.linear_solve.proofs.solution.entries_of.Given as goal

abbrev pub invariant-loop-row : goal.invariant-loop-row
invariant-loop-row l =
    (l.entries.items ≡ map (λ entry. record { row = entry.0; multiplier = l.sign *ℤ entry.1 })
    (take l.row-index l.multipliers))
    × (list_any (λ entry. nat_le (2 ^ 127) (unsigned_abs (l.sign *ℤ entry.1))) (take l.row-index l.multipliers) ≡ false)
