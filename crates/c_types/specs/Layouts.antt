-- How types lie in memory, and which are complete (C11 6.2.5p19 to p22; System V ABI, AMD64). `records` has the layout
-- of each struct and union by its number, none while it is incomplete.
use Rattle.std.specs.Prelude.{ℕ, ◌*◌, ◌^◌, Bool, false, ◌||◌, nat_lt, List, slice_get, Option, Some, None}
use Rattle.std.specs.Prelude.{option_map}
use Rattle.layouts.specs.declared.layout.Layout.{Layout}
use Rattle.layouts.specs.declared.layout.Layout.TheVariants as layouts
use Rattle.layouts.specs.declared.table.Declaration.{Declaration}
use Rattle.layouts.specs.Table.{bytes_of, align_of, IsKnown}
use Rattle.c_types.specs.declared.ctype.CType.{CType}
use Rattle.c_types.specs.declared.ctype.CType.TheFolds.{fold-CType, para-CType}
use Rattle.c_types.specs.declared.ctype.CType.TheOpen.{CType-F}

-- the layout under a number, none where it is incomplete
abbrev pub layout_under : Option (Option Layout) → Option Layout
layout_under (Some found) = found
layout_under None = None

-- the layout of so many elements, one after the other (C11 6.2.5p20)
abbrev pub array_layout : List Declaration → ℕ → Layout → Layout
array_layout table length element =
    layouts.Bytes (length * bytes_of table element) (align_of table element)

-- the layout of one layer of a type, whose parts have these layouts
abbrev pub layout_step : List Declaration → List (Option Layout) → CType-F (Option Layout) → Option Layout
layout_step table records CType-F.Void = None
layout_step table records CType-F.Bool = Some layouts.Bool
layout_step table records CType-F.AtomicBool = Some layouts.Bool
layout_step table records (CType-F.Integer t) = Some (layouts.Int t)
layout_step table records (CType-F.Pointer to) = Some layouts.Ptr
layout_step table records (CType-F.Array element length) = option_map (array_layout table length) element
layout_step table records (CType-F.Record number) = layout_under (slice_get records number)

-- the layout of a type, none where it is incomplete or void
abbrev pub type_layout : List Declaration → List (Option Layout) → CType → Option Layout
type_layout table records = fold-CType (Option Layout) (layout_step table records)

-- of more than 2 ^ 31 bytes
abbrev pub is_past_largest : List Declaration → Option Layout → Bool
is_past_largest table (Some layout) = nat_lt (2 ^ 31) (bytes_of table layout)
is_past_largest table None = false

-- one layer of a type is an array of more than 2 ^ 31 bytes, or of elements that are: each part comes with whether it
-- is
abbrev pub large_step : List Declaration → List (Option Layout) → CType-F (CType × Bool) → Bool
large_step table records (CType-F.Array element length) =
    element.1
    || is_past_largest table (option_map (array_layout table length) (type_layout table records element.0))
large_step table records _ = false

-- an array of more than 2 ^ 31 bytes, or of such arrays
abbrev pub is_too_large : List Declaration → List (Option Layout) → CType → Bool
is_too_large table records = para-CType Bool (large_step table records)

-- a number, where there is no layout
abbrev pub unless_laid_out : ℕ → Option Layout → Option ℕ
unless_laid_out number (Some layout) = None
unless_laid_out number None = Some number

-- what is missing in one layer of a type, by what is missing in its parts
abbrev pub missing_step : List (Option Layout) → CType-F (Option ℕ) → Option ℕ
missing_step records (CType-F.Array element length) = element
missing_step records (CType-F.Record number) = unless_laid_out number (layout_under (slice_get records number))
missing_step records _ = None

-- the number of the struct or union for whose lack of members a type is incomplete, none where there is none
abbrev pub missing_record : List (Option Layout) → CType → Option ℕ
missing_record records = fold-CType (Option ℕ) (missing_step records)

-- each layout names structs and unions that the table has
abbrev pub IsKnownWhere : List Declaration → Option Layout → Type 0
IsKnownWhere table (Some layout) = IsKnown table layout
IsKnownWhere table None = Unit {0}
