use Rattle.std.proofs.Common.{◌≡◌, take}
use Rattle.rc_terms.proofs.equality.+is_same_term.Given as goal

abbrev pub invariant-are_same-loop-index : goal.invariant-are_same-loop-index
invariant-are_same-loop-index l = take l.index l.terms ≡ take l.index l.others
