-- The offsets of members.
use Rattle.std.proofs.Common.{◌≡◌, ℕ, suc, ◌+◌, ◌<◌, List, [], ◌∷◌, map, length, refl, ap, sym, ◌∙◌, subst}
use Rattle.std.specs.Prelude.{Option, Some, None, slice_get, slice_index_or, option_map, unwrap_or}
use Rattle.std.specs.Int.{next_multiple_of}
use Rattle.std.proofs.lemmas.Option.{get_or_from_slice_get}
use Rattle.layouts.specs.declared.table.Kind.{Kind}
use Rattle.layouts.specs.declared.table.Kind.TheVariants.{Struct, Union}
use Rattle.layouts.specs.declared.table.Declaration.{Declaration}
use Rattle.layouts.specs.declared.layout.Layout.{Layout}
use Rattle.layouts.specs.declared.aggregate.StructLayout.{StructLayout}
use Rattle.layouts.specs.Layout.{Extent}
use Rattle.layouts.specs.Members.{offsets_from, offsets_of}
use Rattle.layouts.specs.Table.{declared_layout, extent_of}
use Rattle.thread_steps.specs.Operations.{member_offset}

from_length : (end : ℕ) (members : List Extent) → length (offsets_from end members) ≡ length members
from_length end [] = refl
from_length end (m ∷ members) = ap suc (from_length (next_multiple_of end m.align + m.size) members)

map_length : {X Y : Type 0} (f : X → Y) (xs : List X) → length (map f xs) ≡ length xs
map_length f [] = refl
map_length f (x ∷ xs) = ap suc (map_length f xs)

offsets_length : (kind : Kind) (members : List Extent) → length (offsets_of kind members) ≡ length members
offsets_length Struct members = from_length 0 members
offsets_length Union members = map_length (λ _. 0) members

-- a declaration has an offset for each member
pub declared_length : (table : List Declaration) (d : Declaration) →
    length (declared_layout table d).offsets ≡ length d.members
declared_length table d =
    offsets_length d.kind (map (extent_of table) d.members) ∙ map_length (extent_of table) d.members

-- what is found where this declaration stands is its layout
pub layout_found : (table : List Declaration) (found : Option Declaration) (d : Declaration) (layout : StructLayout) →
    found ≡ Some d → option_map (declared_layout table) found ≡ Some layout → declared_layout table d ≡ layout
layout_found table None d layout is found_layout = cc
layout_found table (Some other) d layout is found_layout =
    let same : other ≡ d = cc in
    subst (λ (e : Declaration). declared_layout table e ≡ layout) same (cc)

-- the offset of a member that the layout has
pub offset_found : (table : List Declaration) (number member offset : ℕ) (d : Declaration) (layout : StructLayout) →
    slice_get table number ≡ Some d → declared_layout table d ≡ layout → slice_get layout.offsets member ≡ Some offset →
    offset ≡ member_offset table number member
offset_found table number member offset d layout is same at =
    let here = get_or_from_slice_get layout.offsets member offset 0 at in
    let there = subst (λ (l : StructLayout). slice_index_or l.offsets member 0 ≡ offset) (sym same) here in
    sym (ap (λ o. unwrap_or (option_map (λ (e : Declaration).
    slice_index_or (declared_layout table e).offsets member 0) o) 0) is ∙ there)
