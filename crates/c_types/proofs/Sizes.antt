-- Which types are too large, one equation for each form of type, and that the layouts of structs and unions name what the
-- table has.
use Rattle.std.proofs.Common.{◌≡◌, ℕ, Bool, true, false, ◌||◌, ◌⊎◌, inl, inr, if◌then◌else◌, List, All, slice_get}
use Rattle.std.proofs.Common.{Option, Some, None, option_map, Result, Ok, Err, IfOk, ok_or, refl, ap, ◌∙◌, sym, subst}
use Rattle.std.proofs.lemmas.Option.{get_or_from_slice_get, slice_get_within}
use Rattle.layouts.specs.declared.int_type.IntType.{IntType}
use Rattle.layouts.specs.declared.layout.Layout.{Layout}
use Rattle.layouts.specs.declared.table.Declaration.{Declaration}
use Rattle.layouts.specs.Table.{IsKnown}
use Rattle.c_types.specs.declared.complete.Unsized.{Unsized}
use Rattle.c_types.specs.declared.ctype.CType.{CType}
use Rattle.c_types.specs.declared.ctype.CType.TheFolds.{para-roll-CType}
use Rattle.c_types.specs.declared.ctype.CType.TheOpen.{CType-F}
use Rattle.c_types.specs.declared.ctype.CType.TheVariants as types
use Rattle.c_types.specs.Layouts.{array_layout, type_layout, is_past_largest, large_step, is_too_large}
use Rattle.c_types.specs.Layouts.{layout_under, IsKnownWhere}

module _ (table : List Declaration) (records : List (Option Layout)) where
  pub large_Void : is_too_large table records types.Void ≡ false
  large_Void =
      ap (is_too_large table records) (sym types.rolls-Void)
      ∙ para-roll-CType Bool (large_step table records) CType-F.Void

  pub large_Bool : is_too_large table records types.Bool ≡ false
  large_Bool =
      ap (is_too_large table records) (sym types.rolls-Bool)
      ∙ para-roll-CType Bool (large_step table records) CType-F.Bool

  pub large_AtomicBool : is_too_large table records types.AtomicBool ≡ false
  large_AtomicBool =
      ap (is_too_large table records) (sym types.rolls-AtomicBool)
      ∙ para-roll-CType Bool (large_step table records) CType-F.AtomicBool

  pub large_Integer : (t : IntType) → is_too_large table records (types.Integer t) ≡ false
  large_Integer t =
      ap (is_too_large table records) (sym (types.rolls-Integer t))
      ∙ para-roll-CType Bool (large_step table records) (CType-F.Integer t)

  pub large_Pointer : (to : CType) → is_too_large table records (types.Pointer to) ≡ false
  large_Pointer to =
      ap (is_too_large table records) (sym (types.rolls-Pointer to))
      ∙ para-roll-CType Bool (large_step table records) (CType-F.Pointer to)

  pub large_Record : (number : ℕ) → is_too_large table records (types.Record number) ≡ false
  large_Record number =
      ap (is_too_large table records) (sym (types.rolls-Record number))
      ∙ para-roll-CType Bool (large_step table records) (CType-F.Record number)

  pub large_Array : (element : CType) (length : ℕ)
      → is_too_large table records (types.Array element length)
      ≡ (is_too_large table records element
      || is_past_largest table (option_map (array_layout table length) (type_layout table records element)))
  large_Array element length =
      ap (is_too_large table records) (sym (types.rolls-Array element length))
      ∙ para-roll-CType Bool (large_step table records) (CType-F.Array element length)

  pub large_as : (t u : CType) (large : Bool) → t ≡ u → is_too_large table records u ≡ large
      → is_too_large table records t ≡ large
  large_as t u large e h = ap (is_too_large table records) e ∙ h

  pub large_truth : (t : CType) → (t ≡ types.Bool) ⊎ (t ≡ types.AtomicBool) → is_too_large table records t ≡ false
  large_truth t (inl e) = large_as t types.Bool false e large_Bool
  large_truth t (inr e) = large_as t types.AtomicBool false e large_AtomicBool

  pub large_element : (t element got : CType) (length : ℕ) → t ≡ types.Array element length → got ≡ element
      → is_too_large table records got ≡ true → is_too_large table records t ≡ true
  large_element t element got length is same h =
      large_as t (types.Array element length) true is
      (large_Array element length
      ∙ ap (λ (large : Bool).
      large || is_past_largest table (option_map (array_layout table length) (type_layout table records element)))
      (ap (is_too_large table records) (sym same) ∙ h))

  pub large_whole : (t element got : CType) (length : ℕ) (layout : Layout)
      → t ≡ types.Array element length → got ≡ element
      → type_layout table records got ≡ Some layout → is_too_large table records got ≡ false
      → is_too_large table records t ≡ is_past_largest table (Some (array_layout table length layout))
  large_whole t element got length layout is same laid small =
      ap (is_too_large table records) is ∙ large_Array element length
      ∙ ap (λ (large : Bool).
      large || is_past_largest table (option_map (array_layout table length) (type_layout table records element)))
      (ap (is_too_large table records) (sym same) ∙ small)
      ∙ ap (λ (found : Option Layout). is_past_largest table (option_map (array_layout table length) found))
      (ap (type_layout table records) (sym same) ∙ laid)

  known_found : (found : Option (Option Layout))
      → ((x : Option Layout) → found ≡ Some x → IsKnownWhere table x) → IsKnownWhere table (layout_under found)
  known_found None known = tt
  known_found (Some found) known = known found refl

  known_record : All (IsKnownWhere table) records → (number : ℕ)
      → IsKnownWhere table (layout_under (slice_get records number))
  known_record all number =
      known_found (slice_get records number)
      (λ x e.
      subst (IsKnownWhere table) (get_or_from_slice_get records number x x e)
      (all number x (slice_get_within records number x e)))

  known_or : (found : Option Layout) (fault : Unsized) → IsKnownWhere table found
      → IfOk (ok_or found fault) (λ layout. IsKnown table layout)
  known_or (Some layout) fault known = known
  known_or None fault known = tt

  pub known_under : All (IsKnownWhere table) records → (number : ℕ) (found : Option Layout) (fault : Unsized)
      → found ≡ layout_under (slice_get records number) → (answer : Result Layout Unsized) → answer ≡ ok_or found fault
      → IfOk answer (λ layout. IsKnown table layout)
  known_under all number found fault e answer h =
      let P : Result Layout Unsized → Type 0 = λ r. IfOk r (λ layout. IsKnown table layout) in
      subst P (sym h) (known_or found fault (subst (IsKnownWhere table) (sym e) (known_record all number)))

no_ok : (layout : Layout) (fault : Unsized) → ◌≡◌ {A = Result Layout Unsized} (Ok layout) (Err fault) → ⊥
no_ok layout fault h = cc

-- an answer that is a fault where a test holds
pub fault_where : (past : Bool) (layout : Layout) (fault : Unsized) (answer : Result Layout Unsized)
    → answer ≡ (if past then Err fault else Ok layout) → answer ≡ Err fault → past ≡ true
fault_where true layout fault answer e h = refl
fault_where false layout fault answer e h = absurd (no_ok layout fault (sym e ∙ h))

pub fits_where : (past : Bool) (layout : Layout) (fault : Unsized) (answer : Result Layout Unsized) (P : Type 0)
    → (past ≡ false → P) → answer ≡ (if past then Err fault else Ok layout) → IfOk answer (λ found. P)
fits_where past layout fault (Err other) P p e = tt
fits_where true layout fault (Ok found) P p e = absurd (no_ok found fault e)
fits_where false layout fault (Ok found) P p e = p refl

pub always : (answer : Result Layout Unsized) (P : Type 0) → P → IfOk answer (λ found. P)
always (Ok found) P p = p
always (Err fault) P p = tt
