use Rattle.std.proofs.Common.{◌≡◌, map, drop}
use Rattle.std.specs.List.{list_all}
use Rattle.rc_terms.specs.declared.sort.Sort.TheVariants as sorts
use Rattle.rc_terms.specs.Sorting.{has, sort_under}
use Rattle.rc_terms.proofs.sorting.+sort_of.Given as goal

abbrev pub decreases-sort_of : goal.decreases-sort_of
decreases-sort_of l = goal.size-sort_of l

-- all elements are numbers where those to come are
abbrev pub invariant-loop-element : goal.invariant-loop-element
invariant-loop-element l =
    list_all (has sorts.Int) (map (sort_under l.sorts) (drop l.element-index l.element-items))
    ≡ list_all (has sorts.Int) (map (sort_under l.sorts) l.element-items)
