-- The structs and unions of a program: this project's own list of them, each laid out by the System V ABI.
use Rattle.std.specs.Prelude.{◌≡◌, ℕ, ◌<◌, List, [], ◌∷◌, ◌++◌, map, take, slice_get, option_map, All, Some}
use Rattle.layouts.specs.declared.layout.Layout.{Layout}
use Rattle.layouts.specs.declared.layout.Layout.TheVariants.{Int, Bool, Ptr, Struct, Union, Bytes}
use Rattle.layouts.specs.declared.table.Kind.{Kind}
use Rattle.layouts.specs.declared.table.Kind.TheVariants as kinds
use Rattle.layouts.specs.declared.table.Declaration.{Declaration}
use Rattle.layouts.specs.declared.aggregate.StructLayout.{StructLayout}
use Rattle.layouts.specs.Layout.{Extent, extent_among}
use Rattle.layouts.specs.Members.{offsets_of, whole}

-- the extent of a struct or union, where the earlier ones have these extents
abbrev pub declared_extent : List Extent → Declaration → Extent
declared_extent earlier d = whole d.kind (map (extent_among earlier) d.members)

-- the extents of all, where the earlier ones have these extents
abbrev pub extents_after : List Extent → List Declaration → List Extent
extents_after earlier [] = earlier
extents_after earlier (d ∷ ds) = extents_after (earlier ++ declared_extent earlier d ∷ []) ds

-- the extents of the structs and unions of a table, each by those declared before it
abbrev pub extents : List Declaration → List Extent
extents table = extents_after [] table

-- the extent of a layout under a table
abbrev pub extent_of : List Declaration → Layout → Extent
extent_of table layout = extent_among (extents table) layout

-- how many bytes a value of the layout has
abbrev pub bytes_of : List Declaration → Layout → ℕ
bytes_of table layout = (extent_of table layout).size

-- what the offset of a value of the layout is a multiple of
abbrev pub align_of : List Declaration → Layout → ℕ
align_of table layout = (extent_of table layout).align

-- the layout of a struct or union of these members, which the table declares so far as they name any
abbrev pub layout_of : Kind → List Declaration → List Layout → StructLayout
layout_of kind table members =
    let ms = map (extent_of table) members in
    record {
      size = (whole kind ms).size;
      align = (whole kind ms).align;
      offsets = offsets_of kind ms;
      members = members;
    }

-- the layout of a declared struct or union
abbrev pub declared_layout : List Declaration → Declaration → StructLayout
declared_layout table d = layout_of d.kind table d.members

-- whether it is a struct or a union
abbrev pub kind_of : Declaration → Kind
kind_of d = d.kind

-- its tag
abbrev pub name_of : Declaration → List ℕ
name_of d = d.name

-- the table has a declaration of this kind under the number
abbrev pub Declares : List Declaration → ℕ → Kind → Type 0
Declares table i kind = option_map kind_of (slice_get table i) ≡ Some kind

-- the table has the struct or union that the layout names, and its alignment isn't 0
abbrev pub IsKnown : List Declaration → Layout → Type 0
IsKnown table (Int t) = Unit {0}
IsKnown table Bool = Unit {0}
IsKnown table Ptr = Unit {0}
IsKnown table (Struct s) = Declares table s kinds.Struct
IsKnown table (Union u) = Declares table u kinds.Union
IsKnown table (Bytes size align) = 0 < align

-- each declaration names earlier ones alone
abbrev pub IsTable : List Declaration → Type 0
IsTable table = (i : ℕ) (d : Declaration) → slice_get table i ≡ Some d → All (IsKnown (take i table)) d.members
