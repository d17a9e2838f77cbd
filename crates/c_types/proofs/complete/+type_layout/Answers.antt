use Rattle.std.proofs.Common.{◌≡◌, false, ap, ◌∙◌, sym, Ok, Err, Some}
use Rattle.std.proofs.lemmas.Result.{err_from_is_err_and}
use Rattle.c_types.specs.declared.complete.Unsized.TheVariants as faults
use Rattle.c_types.specs.declared.ctype.CType.TheVariants as types
use Rattle.c_types.specs.Layouts.{array_layout, is_past_largest, is_too_large}
use Rattle.c_types.proofs.Sizes.{large_as, large_truth, large_Integer, large_Pointer, large_Record}
use Rattle.c_types.proofs.Sizes.{large_element, large_whole, known_under, fault_where, fits_where, always}
use Rattle.c_types.proofs.complete.+type_layout.Goals as goal

pub returns-in_err-element-in-Array-clause-too_large : goal.returns-in_err-element-in-Array-clause-too_large
returns-in_err-element-in-Array-clause-too_large t c = λ h.
    let p = err_from_is_err_and c.from_residual.result c.from_residual.ensures.1 in
    large_element c.args.table.now c.args.records.now c.args.t.now c.in-Array.element c.get.result.now c.in-Array.length
    c.in-Array.is c.get.ensures (c.in_err-element-in-Array.ensures.too_large (ap Err (sym p.2) ∙ (sym p.1 ∙ h)))

pub returns-in-Integer-clause-fits : goal.returns-in-Integer-clause-fits
returns-in-Integer-clause-fits t c =
    large_as c.args.table.now c.args.records.now c.args.t.now (types.Integer c.in-Integer.t) false c.in-Integer.is
    (large_Integer c.args.table.now c.args.records.now c.in-Integer.t)

pub returns-in-Pointer-clause-fits : goal.returns-in-Pointer-clause-fits
returns-in-Pointer-clause-fits t c =
    large_as c.args.table.now c.args.records.now c.args.t.now (types.Pointer c.in-Pointer.field-0) false c.in-Pointer.is
    (large_Pointer c.args.table.now c.args.records.now c.in-Pointer.field-0)

pub returns-in_ok-element-in-Array-clause-too_large : goal.returns-in_ok-element-in-Array-clause-too_large
returns-in_ok-element-in-Array-clause-too_large t c = λ h.
    large_whole c.args.table.now c.args.records.now c.args.t.now c.in-Array.element c.get.result.now c.in-Array.length
    c.in_ok-element-in-Array.element c.in-Array.is c.get.ensures
    c.in_ok-element-in-Array.ensures.layout c.in_ok-element-in-Array.ensures.fits
    ∙ fault_where
    (is_past_largest c.args.table.now
    (Some (array_layout c.args.table.now c.in-Array.length c.in_ok-element-in-Array.element)))
    (array_layout c.args.table.now c.in-Array.length c.in_ok-element-in-Array.element)
    faults.TooLarge c.array_layout.result c.array_layout.ensures.layout h

pub returns-in_ok-element-in-Array-clause-fits : goal.returns-in_ok-element-in-Array-clause-fits
returns-in_ok-element-in-Array-clause-fits t c =
    fits_where
    (is_past_largest c.args.table.now
    (Some (array_layout c.args.table.now c.in-Array.length c.in_ok-element-in-Array.element)))
    (array_layout c.args.table.now c.in-Array.length c.in_ok-element-in-Array.element)
    faults.TooLarge c.array_layout.result (is_too_large c.args.table.now c.args.records.now c.args.t.now ≡ false)
    (λ small.
    large_whole c.args.table.now c.args.records.now c.args.t.now c.in-Array.element c.get.result.now
    c.in-Array.length c.in_ok-element-in-Array.element c.in-Array.is c.get.ensures
    c.in_ok-element-in-Array.ensures.layout c.in_ok-element-in-Array.ensures.fits ∙ small)
    c.array_layout.ensures.layout

pub returns-in-Record-clause-known : goal.returns-in-Record-clause-known
returns-in-Record-clause-known t c =
    known_under c.args.table.now c.args.records.now c.requires c.in-Record.number c.layout_under.result
    faults.Incomplete c.layout_under.ensures c.ok_or.result c.ok_or.ensures.value

pub returns-in-Record-clause-fits : goal.returns-in-Record-clause-fits
returns-in-Record-clause-fits t c =
    always c.ok_or.result (is_too_large c.args.table.now c.args.records.now c.args.t.now ≡ false)
    (large_as c.args.table.now c.args.records.now c.args.t.now (types.Record c.in-Record.number) false c.in-Record.is
    (large_Record c.args.table.now c.args.records.now c.in-Record.number))

pub returns-in-Bool-clause-fits : goal.returns-in-Bool-clause-fits
returns-in-Bool-clause-fits t c = large_truth c.args.table.now c.args.records.now c.args.t.now c.in-Bool.is

pub returns-in-Bool-2-clause-fits : goal.returns-in-Bool-2-clause-fits
returns-in-Bool-2-clause-fits t c = large_truth c.args.table.now c.args.records.now c.args.t.now c.in-Bool.is
