use Rattle.std.proofs.Common.{◌≡◌, ◌++◌, map, take}
use Rattle.std.specs.List.{concat}
use Rattle.normal_forms.specs.Order.{key_of}
use Rattle.normal_forms.proofs.key.+push_key.Given as goal

abbrev pub decreases-push_key : goal.decreases-push_key
decreases-push_key l = goal.size-push_key l

-- the keys of the elements so far are written
abbrev pub invariant-loop-element : goal.invariant-loop-element
invariant-loop-element l = l.key ≡ l.initial.key ++ concat (map key_of (take l.element-index l.element-items))
