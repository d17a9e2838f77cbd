use Rattle.std.proofs.Common.{◌≡◌, take, fold, pos, unsigned_abs}
use Rattle.linear_solve.specs.Divisors.{common_divisor}
use Rattle.linear_solve.proofs.numbers.Numbers.shared_divisor.Given as goal

abbrev pub invariant-loop-number : goal.invariant-loop-number
invariant-loop-number l =
    l.divisor ≡ pos (fold (λ divisor entry. common_divisor divisor (unsigned_abs entry.1)) (unsigned_abs l.fn.number)
    (take l.number-index l.number-items))
