-- Where the members of a struct or union stand, and its own extent: System V ABI, AMD64 (3.1.2, "Aggregates and
-- Unions"; C11 6.7.2.1 leaves it to the ABI).
use Rattle.std.specs.Prelude.{ℕ, ◌+◌, max, List, [], ◌∷◌, map}
use Rattle.std.specs.Int.{next_multiple_of}
use Rattle.layouts.specs.declared.table.Kind.{Kind}
use Rattle.layouts.specs.declared.table.Kind.TheVariants.{Struct, Union}
use Rattle.layouts.specs.Layout.{Extent}

-- each member of a struct stands at the least multiple of its alignment that isn't below the end of the member before
abbrev pub offsets_from : ℕ → List Extent → List ℕ
offsets_from end [] = []
offsets_from end (m ∷ ms) = let at = next_multiple_of end m.align in at ∷ offsets_from (at + m.size) ms

-- where the last member of a struct ends
abbrev pub end_from : ℕ → List Extent → ℕ
end_from end [] = end
end_from end (m ∷ ms) = end_from (next_multiple_of end m.align + m.size) ms

-- the greatest alignment of the members, 1 where there is none
abbrev pub greatest_align : List Extent → ℕ
greatest_align [] = 1
greatest_align (m ∷ ms) = max m.align (greatest_align ms)

-- the greatest size of the members, 0 where there is none
abbrev pub greatest_size : List Extent → ℕ
greatest_size [] = 0
greatest_size (m ∷ ms) = max m.size (greatest_size ms)

-- the offsets of the members, all 0 in a union
abbrev pub offsets_of : Kind → List Extent → List ℕ
offsets_of Struct ms = offsets_from 0 ms
offsets_of Union ms = map (λ _. 0) ms

-- where the greatest end of a member is
abbrev pub end_of : Kind → List Extent → ℕ
end_of Struct ms = end_from 0 ms
end_of Union ms = greatest_size ms

-- the extent of the whole: the greatest alignment, and the least multiple of it that isn't below the end
abbrev pub whole : Kind → List Extent → Extent
whole kind ms = record { size = next_multiple_of (end_of kind ms) (greatest_align ms); align = greatest_align ms }
