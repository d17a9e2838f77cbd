use Rattle.std.proofs.Common.{◌≡◌, take}
use Rattle.linear_solve.specs.Numbers.{plus_multiple}
use Rattle.linear_solve.proofs.numbers.Numbers.add_factors.Given as goal

abbrev pub invariant-loop-index : goal.invariant-loop-index
invariant-loop-index l = l.self ≡ plus_multiple l.by (take l.index-index l.factors) l.fn.self
