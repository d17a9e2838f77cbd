use Rattle.std.proofs.Common.{◌≡◌, take}
use Rattle.std.specs.FinMap.{entries}
use Rattle.linear_solve.specs.Numbers.{quotients}
use Rattle.linear_solve.proofs.numbers.Numbers.quotients.Given as goal

abbrev pub invariant-loop-index : goal.invariant-loop-index
invariant-loop-index l = entries l.kept ≡ quotients l.divisor (take l.index-index l.index-items)
