-- What a table keeps of each struct and union, and that it is what the definitions say.
use Rattle.std.specs.Prelude.{◌≡◌, ℕ, ◌≤◌, ◌^◌, List, map, slice_get, Some}
use Rattle.layouts.specs.declared.table.Entry.{Entry}
use Rattle.layouts.specs.declared.table.Declaration.{Declaration}
use Rattle.layouts.specs.Layout.{Extent}
use Rattle.layouts.specs.Table.{extents, layout_of, IsTable}

-- the declaration that was laid out
abbrev pub declaration_of : Entry → Declaration
declaration_of e = record { kind = e.kind; name = e.name; members = e.layout.members }

-- the size and alignment that are kept
abbrev pub kept_extent : Entry → Extent
kept_extent e = record { size = e.layout.size; align = e.layout.align }

-- what is kept is the layout by the definitions, and no size passes 2^31
pub record AreLaidOut (entries : List Entry) : Type 0 where
  pub extents_kept : map kept_extent entries ≡ extents (map declaration_of entries)
  pub laid_out : (i : ℕ) (e : Entry) → slice_get entries i ≡ Some e → e.layout ≡ layout_of e.kind
      (map declaration_of entries) e.layout.members
  pub small : (i : ℕ) (e : Entry) → slice_get entries i ≡ Some e → e.layout.size ≤ 2 ^ 31
  pub earlier : IsTable (map declaration_of entries)
