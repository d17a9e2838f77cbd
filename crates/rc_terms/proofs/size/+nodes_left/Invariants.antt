use Rattle.std.proofs.Common.{◌≡◌, ◌+◌, sum, map, drop}
use Rattle.rc_terms.specs.Nodes.{nodes}
use Rattle.rc_terms.proofs.size.+nodes_left.Given as goal

abbrev pub decreases-nodes_left : goal.decreases-nodes_left
decreases-nodes_left l = goal.size-nodes_left l

-- what is left serves for the elements to come, where the most serves for the term
abbrev pub invariant-loop-element : goal.invariant-loop-element
invariant-loop-element l = l.most + sum (map nodes (drop l.element-index l.element-items)) ≡ l.left + nodes l.term
