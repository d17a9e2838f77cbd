-- Each answer for a term follows from those for its parts.
use Rattle.std.proofs.Common.{◌≡◌, ◌+◌, true, false, [], ◌∷◌, ◌++◌, map, drop, refl, sym, ◌∙◌, ap, Err, Ok, rules}
use Rattle.std.proofs.lemmas.Result.{err_from_is_err_and}
use Rattle.rc_terms.specs.declared.term.Term.TheVariants as terms
use Rattle.normal_forms.specs.Polynomials.{parts_unary, parts_binary}
use Rattle.normal_forms.specs.Normal.{staged}
use Rattle.normal_forms.proofs.Stages.{staged-Variable, staged-Integer, staged-Truth, staged-Null}
use Rattle.normal_forms.proofs.Passings.{passing-Variable, passing-Integer, passing-Truth, passing-Null}
use Rattle.normal_forms.proofs.StageAnswers.{moved, leaf_answers, unary_fails, unary_answers, left_fails, right_fails, binary_answers}
use Rattle.normal_forms.proofs.StageAnswers.{test_fails, then_fails, otherwise_fails, conditional_answers}
use Rattle.normal_forms.proofs.StageAnswers.{list_fails, index_fails, number_fails, update_answers}
use Rattle.normal_forms.proofs.StageAnswers.{element_fails, next_part, next_passing, elements_answer}
use Rattle.normal_forms.proofs.normal.+staged.Goals as goal

pub returns-in_ok-copy-in-Variable : goal.returns-in_ok-copy-in-Variable
returns-in_ok-copy-in-Variable t c =
    let names = c.args.sorts.now in
    leaf_answers names c.args.term.now c.args.whole c.finish-in-Variable.result c.in_ok-copy-in-Variable.field-0 c.in_ok-copy-in-Variable.ensures
    (staged-Variable names c.args.term.now c.args.whole c.in-Variable.field-0 c.in-Variable.is) (passing-Variable names c.args.term.now c.args.whole c.in-Variable.field-0 c.in-Variable.is)
    c.finish-in-Variable.ensures

pub returns-in_ok-copy-in-Integer : goal.returns-in_ok-copy-in-Integer
returns-in_ok-copy-in-Integer t c =
    let names = c.args.sorts.now in
    leaf_answers names c.args.term.now c.args.whole c.finish-in-Integer.result c.in_ok-copy-in-Integer.field-0 c.in_ok-copy-in-Integer.ensures
    (staged-Integer names c.args.term.now c.args.whole c.in-Integer.field-0 c.in-Integer.is) (passing-Integer names c.args.term.now c.args.whole c.in-Integer.field-0 c.in-Integer.is)
    c.finish-in-Integer.ensures

pub returns-in_ok-copy-in-Truth : goal.returns-in_ok-copy-in-Truth
returns-in_ok-copy-in-Truth t c =
    let names = c.args.sorts.now in
    leaf_answers names c.args.term.now c.args.whole c.finish-in-Truth.result c.in_ok-copy-in-Truth.field-0 c.in_ok-copy-in-Truth.ensures
    (staged-Truth names c.args.term.now c.args.whole c.in-Truth.field-0 c.in-Truth.is) (passing-Truth names c.args.term.now c.args.whole c.in-Truth.field-0 c.in-Truth.is)
    c.finish-in-Truth.ensures

pub returns-in_ok-copy-in-Null : goal.returns-in_ok-copy-in-Null
returns-in_ok-copy-in-Null t c =
    let names = c.args.sorts.now in
    leaf_answers names c.args.term.now c.args.whole c.finish-in-Null.result c.in_ok-copy-in-Null.field-0 c.in_ok-copy-in-Null.ensures
    (staged-Null names c.args.term.now c.args.whole c.in-Null.is) (passing-Null names c.args.term.now c.args.whole c.in-Null.is)
    c.finish-in-Null.ensures

pub returns-in_err-part-in-Unary : goal.returns-in_err-part-in-Unary
returns-in_err-part-in-Unary t c =
    let p = err_from_is_err_and c.from_residual-in_err-part-in-Unary.result c.from_residual-in_err-part-in-Unary.ensures.1 in
    rw (p.1, p.2)
    (unary_fails c.args.sorts.now c.args.term.now c.args.whole c.in_err-part-in-Unary.field-0.0 c.in-Unary.operator c.in-Unary.operand c.in-Unary.is
    (moved c.args.sorts.now (Err c.in_err-part-in-Unary.field-0.0) _ _ _ _ c.get-in-Unary.ensures c.parts_unary.ensures c.in_err-part-in-Unary.ensures))

pub returns-in_ok-inner-in-Unary : goal.returns-in_ok-inner-in-Unary
returns-in_ok-inner-in-Unary t c =
    unary_answers c.args.sorts.now c.args.term.now c.args.whole c.finish-in-Unary.result c.in-Unary.operator c.in-Unary.operand
    c.in_ok-part-in-Unary.part c.in_ok-inner-in-Unary.inner c.in-Unary.is
    (moved c.args.sorts.now (Ok c.in_ok-part-in-Unary.part) _ _ _ _ c.get-in-Unary.ensures c.parts_unary.ensures c.in_ok-part-in-Unary.ensures)
    c.in_ok-inner-in-Unary.ensures c.finish-in-Unary.ensures

pub returns-in_err-left-in-Binary : goal.returns-in_err-left-in-Binary
returns-in_err-left-in-Binary t c =
    let p = err_from_is_err_and c.from_residual-in_err-left-in-Binary.result c.from_residual-in_err-left-in-Binary.ensures.1 in
    rw (p.1, p.2)
    (left_fails c.args.sorts.now c.args.term.now c.args.whole c.in_err-left-in-Binary.field-0.0 c.in-Binary.operator c.in-Binary.left c.in-Binary.right c.in-Binary.is
    (moved c.args.sorts.now (Err c.in_err-left-in-Binary.field-0.0) _ _ _ _ c.get-in-Binary.ensures c.parts_binary.ensures c.in_err-left-in-Binary.ensures))

pub returns-in_err-right-in-Binary : goal.returns-in_err-right-in-Binary
returns-in_err-right-in-Binary t c =
    let p = err_from_is_err_and c.from_residual-in_err-right-in-Binary.result c.from_residual-in_err-right-in-Binary.ensures.1 in
    rw (p.1, p.2)
    (right_fails c.args.sorts.now c.args.term.now c.args.whole c.in_err-right-in-Binary.field-0.0 c.in-Binary.operator c.in-Binary.left c.in-Binary.right c.in-Binary.is
    (moved c.args.sorts.now (Ok c.in_ok-left-in-Binary.left) _ _ _ _ c.get-in-Binary.ensures c.parts_binary.ensures c.in_ok-left-in-Binary.ensures).1
    (moved c.args.sorts.now (Err c.in_err-right-in-Binary.field-0.0) _ _ _ _ c.get-in-Binary-2.ensures c.parts_binary-in-Binary.ensures c.in_err-right-in-Binary.ensures))

pub returns-in_ok-inner-in-Binary : goal.returns-in_ok-inner-in-Binary
returns-in_ok-inner-in-Binary t c =
    binary_answers c.args.sorts.now c.args.term.now c.args.whole c.finish-in-Binary.result c.in-Binary.operator c.in-Binary.left c.in-Binary.right
    c.in_ok-left-in-Binary.left c.in_ok-right-in-Binary.right c.in_ok-inner-in-Binary.inner c.in-Binary.is
    (moved c.args.sorts.now (Ok c.in_ok-left-in-Binary.left) _ _ _ _ c.get-in-Binary.ensures c.parts_binary.ensures c.in_ok-left-in-Binary.ensures)
    (moved c.args.sorts.now (Ok c.in_ok-right-in-Binary.right) _ _ _ _ c.get-in-Binary-2.ensures c.parts_binary-in-Binary.ensures c.in_ok-right-in-Binary.ensures)
    c.in_ok-inner-in-Binary.ensures c.finish-in-Binary.ensures

pub returns-in_err-first-in-Conditional : goal.returns-in_err-first-in-Conditional
returns-in_err-first-in-Conditional t c =
    let p = err_from_is_err_and c.from_residual-in_err-first-in-Conditional.result c.from_residual-in_err-first-in-Conditional.ensures.1 in
    rw (p.1, p.2)
    (test_fails c.args.sorts.now c.args.term.now c.args.whole c.in_err-first-in-Conditional.field-0.0 c.in-Conditional.first c.in-Conditional.second c.in-Conditional.third c.in-Conditional.is
    (moved c.args.sorts.now (Err c.in_err-first-in-Conditional.field-0.0) _ _ _ _ c.get-in-Conditional.ensures refl c.in_err-first-in-Conditional.ensures))

pub returns-in_err-second-in-Conditional : goal.returns-in_err-second-in-Conditional
returns-in_err-second-in-Conditional t c =
    let p = err_from_is_err_and c.from_residual-in_err-second-in-Conditional.result c.from_residual-in_err-second-in-Conditional.ensures.1 in
    rw (p.1, p.2)
    (then_fails c.args.sorts.now c.args.term.now c.args.whole c.in_err-second-in-Conditional.field-0.0 c.in-Conditional.first c.in-Conditional.second c.in-Conditional.third c.in-Conditional.is
    (moved c.args.sorts.now (Ok c.in_ok-first-in-Conditional.first) _ _ _ _ c.get-in-Conditional.ensures refl c.in_ok-first-in-Conditional.ensures).1
    (moved c.args.sorts.now (Err c.in_err-second-in-Conditional.field-0.0) _ _ _ _ c.get-in-Conditional-2.ensures refl c.in_err-second-in-Conditional.ensures))

pub returns-in_err-third-in-Conditional : goal.returns-in_err-third-in-Conditional
returns-in_err-third-in-Conditional t c =
    let p = err_from_is_err_and c.from_residual-in_err-third-in-Conditional.result c.from_residual-in_err-third-in-Conditional.ensures.1 in
    rw (p.1, p.2)
    (otherwise_fails c.args.sorts.now c.args.term.now c.args.whole c.in_err-third-in-Conditional.field-0.0 c.in-Conditional.first c.in-Conditional.second c.in-Conditional.third c.in-Conditional.is
    (moved c.args.sorts.now (Ok c.in_ok-first-in-Conditional.first) _ _ _ _ c.get-in-Conditional.ensures refl c.in_ok-first-in-Conditional.ensures).1
    (moved c.args.sorts.now (Ok c.in_ok-second-in-Conditional.second) _ _ _ _ c.get-in-Conditional-2.ensures refl c.in_ok-second-in-Conditional.ensures).1
    (moved c.args.sorts.now (Err c.in_err-third-in-Conditional.field-0.0) _ _ _ _ c.get-in-Conditional-3.ensures refl c.in_err-third-in-Conditional.ensures))

pub returns-in_ok-inner-in-Conditional : goal.returns-in_ok-inner-in-Conditional
returns-in_ok-inner-in-Conditional t c =
    conditional_answers c.args.sorts.now c.args.term.now c.args.whole c.finish-in-Conditional.result c.in-Conditional.first c.in-Conditional.second c.in-Conditional.third
    c.in_ok-first-in-Conditional.first c.in_ok-second-in-Conditional.second c.in_ok-third-in-Conditional.third c.in_ok-inner-in-Conditional.inner c.in-Conditional.is
    (moved c.args.sorts.now (Ok c.in_ok-first-in-Conditional.first) _ _ _ _ c.get-in-Conditional.ensures refl c.in_ok-first-in-Conditional.ensures)
    (moved c.args.sorts.now (Ok c.in_ok-second-in-Conditional.second) _ _ _ _ c.get-in-Conditional-2.ensures refl c.in_ok-second-in-Conditional.ensures)
    (moved c.args.sorts.now (Ok c.in_ok-third-in-Conditional.third) _ _ _ _ c.get-in-Conditional-3.ensures refl c.in_ok-third-in-Conditional.ensures)
    c.in_ok-inner-in-Conditional.ensures c.finish-in-Conditional.ensures

pub returns-in_err-first-in-Update : goal.returns-in_err-first-in-Update
returns-in_err-first-in-Update t c =
    let p = err_from_is_err_and c.from_residual-in_err-first-in-Update.result c.from_residual-in_err-first-in-Update.ensures.1 in
    rw (p.1, p.2)
    (list_fails c.args.sorts.now c.args.term.now c.args.whole c.in_err-first-in-Update.field-0.0 c.in-Update.first c.in-Update.second c.in-Update.third c.in-Update.is
    (moved c.args.sorts.now (Err c.in_err-first-in-Update.field-0.0) _ _ _ _ c.get-in-Update.ensures refl c.in_err-first-in-Update.ensures))

pub returns-in_err-second-in-Update : goal.returns-in_err-second-in-Update
returns-in_err-second-in-Update t c =
    let p = err_from_is_err_and c.from_residual-in_err-second-in-Update.result c.from_residual-in_err-second-in-Update.ensures.1 in
    rw (p.1, p.2)
    (index_fails c.args.sorts.now c.args.term.now c.args.whole c.in_err-second-in-Update.field-0.0 c.in-Update.first c.in-Update.second c.in-Update.third c.in-Update.is
    (moved c.args.sorts.now (Ok c.in_ok-first-in-Update.first) _ _ _ _ c.get-in-Update.ensures refl c.in_ok-first-in-Update.ensures).1
    (moved c.args.sorts.now (Err c.in_err-second-in-Update.field-0.0) _ _ _ _ c.get-in-Update-2.ensures refl c.in_err-second-in-Update.ensures))

pub returns-in_err-third-in-Update : goal.returns-in_err-third-in-Update
returns-in_err-third-in-Update t c =
    let p = err_from_is_err_and c.from_residual-in_err-third-in-Update.result c.from_residual-in_err-third-in-Update.ensures.1 in
    rw (p.1, p.2)
    (number_fails c.args.sorts.now c.args.term.now c.args.whole c.in_err-third-in-Update.field-0.0 c.in-Update.first c.in-Update.second c.in-Update.third c.in-Update.is
    (moved c.args.sorts.now (Ok c.in_ok-first-in-Update.first) _ _ _ _ c.get-in-Update.ensures refl c.in_ok-first-in-Update.ensures).1
    (moved c.args.sorts.now (Ok c.in_ok-second-in-Update.second) _ _ _ _ c.get-in-Update-2.ensures refl c.in_ok-second-in-Update.ensures).1
    (moved c.args.sorts.now (Err c.in_err-third-in-Update.field-0.0) _ _ _ _ c.get-in-Update-3.ensures refl c.in_err-third-in-Update.ensures))

pub returns-in_ok-inner-in-Update : goal.returns-in_ok-inner-in-Update
returns-in_ok-inner-in-Update t c =
    update_answers c.args.sorts.now c.args.term.now c.args.whole c.finish-in-Update.result c.in-Update.first c.in-Update.second c.in-Update.third
    c.in_ok-first-in-Update.first c.in_ok-second-in-Update.second c.in_ok-third-in-Update.third c.in_ok-inner-in-Update.inner c.in-Update.is
    (moved c.args.sorts.now (Ok c.in_ok-first-in-Update.first) _ _ _ _ c.get-in-Update.ensures refl c.in_ok-first-in-Update.ensures)
    (moved c.args.sorts.now (Ok c.in_ok-second-in-Update.second) _ _ _ _ c.get-in-Update-2.ensures refl c.in_ok-second-in-Update.ensures)
    (moved c.args.sorts.now (Ok c.in_ok-third-in-Update.third) _ _ _ _ c.get-in-Update-3.ensures refl c.in_ok-third-in-Update.ensures)
    c.in_ok-inner-in-Update.ensures c.finish-in-Update.ensures

pub returns-in_err-part-in-List : goal.returns-in_err-part-in-List
returns-in_err-part-in-List t c =
    let p = err_from_is_err_and c.from_residual.result c.from_residual.ensures.1 in
    let e = c.in_err-part-in-List.field-0.0 in
    rw (p.1, p.2)
    (element_fails c.args.sorts.now c.args.term.now c.args.whole e c.as_slice-element-items.result.now c.loop-element.element-index c.element-item.result
    (c.in-List.is ∙ ap terms.List (sym c.as_slice-element-items.ensures))
    c.loop-element-test.true c.element-item.is c.loop-element.invariant.wide
    (moved c.args.sorts.now (Err e) _ _ _ _ c.get.ensures refl c.in_err-part-in-List.ensures))

pub loop-element-preserved : goal.loop-element-preserved
loop-element-preserved t c =
    let names = c.args.sorts.now in
    let items = c.as_slice-element-items.result.now in
    let i = c.loop-element.element-index in
    let part = moved names (Ok c.in_ok-part-in-List.part) _ _ _ _ c.get.ensures refl c.in_ok-part-in-List.ensures in
    record {
      parts =
          ap (λ l. l ++ map (λ x. staged names x true) (drop (i + 1) items))
          (c.in_ok-push-in-List.ensures.ok ∙ ap (λ x. c.loop-element.parts ++ x ∷ []) c.in_ok-new-in-List.ensures)
          ∙ next_part names c.args.term.now c.args.whole items i c.element-item.result c.in_ok-part-in-List.part c.loop-element.parts _
          c.loop-element-test.true c.element-item.is part c.loop-element.invariant.parts;
      wide = next_passing names c.args.term.now c.args.whole items i c.element-item.result c.in_ok-part-in-List.part
          c.loop-element-test.true c.element-item.is part c.loop-element.invariant.wide;
    }

pub returns-after-loop-element : goal.returns-after-loop-element
returns-after-loop-element t c =
    elements_answer c.args.sorts.now c.args.term.now c.args.whole c.finish.result c.as_slice-element-items.result.now c.loop-element.element-index
    c.loop-element.parts (c.in-List.is ∙ ap terms.List (sym c.as_slice-element-items.ensures))
    c.loop-element-test.false c.loop-element.invariant.parts c.loop-element.invariant.wide c.finish.ensures
