use Rattle.std.proofs.Common.{◌≡◌, ◌++◌, true, map, drop}
use Rattle.std.specs.List.{list_any}
use Rattle.normal_forms.specs.Normal.{staged}
use Rattle.normal_forms.specs.Widths.{staging_passes}
use Rattle.normal_forms.proofs.normal.+staged.Given as goal

abbrev pub decreases-staged : goal.decreases-staged
decreases-staged l = goal.size-staged l

-- the parts so far and those to come are those of all elements, and a wide number is to come where there is one
abbrev pub invariant-loop-element : goal.invariant-loop-element
invariant-loop-element l =
    record {
      parts : l.parts ++ map (λ element. staged l.sorts element true) (drop l.element-index l.element-items)
          ≡ map (λ element. staged l.sorts element true) l.element-items;
      wide : list_any (λ element. staging_passes l.sorts element true) (drop l.element-index l.element-items)
          ≡ list_any (λ element. staging_passes l.sorts element true) l.element-items;
    }
