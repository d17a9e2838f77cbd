use Rattle.std.proofs.Common.{◌≡◌, ◌++◌, take}
use Rattle.normal_forms.proofs.product.push_numbers.Given as goal

abbrev pub invariant-loop-number : goal.invariant-loop-number
invariant-loop-number l = l.key ≡ l.initial.key ++ take l.number-index l.numbers
