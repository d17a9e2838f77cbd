-- Each answer for a term follows from those for its parts.
use Rattle.std.proofs.Common.{◌≡◌, ◌+◌, true, false, [], ◌∷◌, ◌++◌, map, drop, sym, ◌∙◌, ap, Err, Ok, rules, FitsSigned}
use mir.Syntax.{w128}
use Rattle.rc_terms.specs.Operators.{number_of, truth_of}
use Rattle.rc_terms.specs.Evaluation.{value_of}
use Rattle.rc_terms.specs.declared.term.Term.TheVariants as terms
use Rattle.std.proofs.lemmas.Result.{err_from_is_err_and}
use Rattle.std.proofs.lemmas.Int.{to_z-of_z}
use Rattle.rc_terms.specs.declared.value.TermValue.TheVariants as values
use Rattle.rc_terms.specs.declared.location.Loc.TheVariants as locations
use Rattle.rc_terms.proofs.Evaluations.{moved, moved_back, name_answers, integer_answers, truth_answers, null_answers}
use Rattle.rc_terms.proofs.Evaluations.{operand_fails, unary_answers, left_fails, right_fails, binary_answers}
use Rattle.rc_terms.proofs.Evaluations.{test_fails, then_answers, otherwise_answers}
use Rattle.rc_terms.proofs.Evaluations.{list_fails, index_fails, number_fails, update_answers}
use Rattle.rc_terms.proofs.Evaluations.{elements_fail, next_number, next_width, list_answers}
use Rattle.rc_terms.proofs.evaluation.+evaluated.Goals as goal
use Rattle.rc_terms.proofs.evaluation.+evaluated.Goals.{evaluated-then-truth, evaluated-else-truth}

pub evaluated-returns-in-Integer : goal.evaluated-returns-in-Integer
evaluated-returns-in-Integer t c =
    let fits : FitsSigned w128 c.in-Integer.number = search rules in
    let answer = moved_back c.args.env.now (Ok (values.Integer c.in-Integer.number)) c.in-Integer.is (integer_answers c.args.env.now c.in-Integer.number) in
    (ap values.Integer (to_z-of_z w128 c.in-Integer.number fits) ∙ answer.0, answer.1)

pub evaluated-returns-in-Truth : goal.evaluated-returns-in-Truth
evaluated-returns-in-Truth t c =
    moved_back c.args.env.now (Ok (values.Truth c.in-Truth.truth)) c.in-Truth.is (truth_answers c.args.env.now c.in-Truth.truth)

pub evaluated-returns-in-Null : goal.evaluated-returns-in-Null
evaluated-returns-in-Null t c =
    moved_back c.args.env.now (Ok (values.Location locations.Null)) c.in-Null.is (null_answers c.args.env.now)

pub evaluated-returns-in_err-operand-in-Unary : goal.evaluated-returns-in_err-operand-in-Unary
evaluated-returns-in_err-operand-in-Unary t c =
    let p = err_from_is_err_and c.from_residual-in_err-operand-in-Unary.result c.from_residual-in_err-operand-in-Unary.ensures.1 in
    rw (p.1, p.2)
    (moved_back c.args.env.now (Err c.in_err-operand-in-Unary.field-0.0) c.in-Unary.is (operand_fails c.args.env.now c.in_err-operand-in-Unary.field-0.0 c.in-Unary.operator c.in-Unary.operand
    (moved c.args.env.now (Err c.in_err-operand-in-Unary.field-0.0) c.get.ensures c.in_err-operand-in-Unary.ensures)))

pub evaluated-returns-in_ok-operand-in-Unary : goal.evaluated-returns-in_ok-operand-in-Unary
evaluated-returns-in_ok-operand-in-Unary t c =
    moved_back c.args.env.now c.unary.result c.in-Unary.is
    (unary_answers c.args.env.now c.in-Unary.operator c.in-Unary.operand c.in_ok-operand-in-Unary.operand c.unary.result
    (moved c.args.env.now (Ok c.in_ok-operand-in-Unary.operand) c.get.ensures c.in_ok-operand-in-Unary.ensures)
    c.unary.ensures)

pub evaluated-returns-in_err-left-in-Binary : goal.evaluated-returns-in_err-left-in-Binary
evaluated-returns-in_err-left-in-Binary t c =
    let p = err_from_is_err_and c.from_residual-in_err-left-in-Binary.result c.from_residual-in_err-left-in-Binary.ensures.1 in
    rw (p.1, p.2)
    (moved_back c.args.env.now (Err c.in_err-left-in-Binary.field-0.0) c.in-Binary.is (left_fails c.args.env.now c.in_err-left-in-Binary.field-0.0 c.in-Binary.operator c.in-Binary.left c.in-Binary.right
    (moved c.args.env.now (Err c.in_err-left-in-Binary.field-0.0) c.get-in-Binary.ensures c.in_err-left-in-Binary.ensures)))

pub evaluated-returns-in_err-right-in-Binary : goal.evaluated-returns-in_err-right-in-Binary
evaluated-returns-in_err-right-in-Binary t c =
    let p = err_from_is_err_and c.from_residual-in_err-right-in-Binary.result c.from_residual-in_err-right-in-Binary.ensures.1 in
    rw (p.1, p.2)
    (moved_back c.args.env.now (Err c.in_err-right-in-Binary.field-0.0) c.in-Binary.is (right_fails c.args.env.now c.in_err-right-in-Binary.field-0.0 c.in-Binary.operator c.in-Binary.left c.in-Binary.right (moved c.args.env.now (Ok c.in_ok-left-in-Binary.left) c.get-in-Binary.ensures c.in_ok-left-in-Binary.ensures).1
    (moved c.args.env.now (Err c.in_err-right-in-Binary.field-0.0) c.get-in-Binary-2.ensures c.in_err-right-in-Binary.ensures)))

pub evaluated-returns-in_ok-right-in-Binary : goal.evaluated-returns-in_ok-right-in-Binary
evaluated-returns-in_ok-right-in-Binary t c =
    moved_back c.args.env.now c.binary.result c.in-Binary.is
    (binary_answers c.args.env.now c.in-Binary.operator c.in-Binary.left c.in-Binary.right c.in_ok-left-in-Binary.left c.in_ok-right-in-Binary.right c.binary.result
    (moved c.args.env.now (Ok c.in_ok-left-in-Binary.left) c.get-in-Binary.ensures c.in_ok-left-in-Binary.ensures)
    (moved c.args.env.now (Ok c.in_ok-right-in-Binary.right) c.get-in-Binary-2.ensures c.in_ok-right-in-Binary.ensures)
    c.binary.ensures)

pub evaluated-returns-in_err-test-in-Conditional : goal.evaluated-returns-in_err-test-in-Conditional
evaluated-returns-in_err-test-in-Conditional t c =
    let p = err_from_is_err_and c.from_residual-in_err-test-in-Conditional.result c.from_residual-in_err-test-in-Conditional.ensures.1 in
    rw (p.1, p.2)
    (moved_back c.args.env.now (Err c.in_err-test-in-Conditional.field-0.0) c.in-Conditional.is (test_fails c.args.env.now c.in_err-test-in-Conditional.field-0.0 c.in-Conditional.test c.in-Conditional.then c.in-Conditional.otherwise
    (moved c.args.env.now (Err c.in_err-test-in-Conditional.field-0.0) c.get-in-Conditional.ensures c.in_err-test-in-Conditional.ensures)))

pub evaluated-returns-after-truth : goal.evaluated-returns-after-truth
evaluated-returns-after-truth t c =
    let test = moved c.args.env.now (Ok c.in_ok-test-in-Conditional.test) c.get-in-Conditional.ensures c.in_ok-test-in-Conditional.ensures in
    let branch = moved c.args.env.now c.evaluated-in-Conditional-2.result c.get-in-Conditional-2.ensures c.evaluated-in-Conditional-2.ensures in
    moved_back c.args.env.now c.evaluated-in-Conditional-2.result c.in-Conditional.is
    (elim c.if-truth.branch [
      | evaluated-then-truth w ↦
          let branch_is : c.if-truth.branch'.now ≡ c.in-Conditional.then = search rules in
          let holds : truth_of c.in_ok-test-in-Conditional.test ≡ true = sym c.truth.ensures ∙ (search rules) in
          then_answers c.args.env.now c.in-Conditional.test c.in-Conditional.then c.in-Conditional.otherwise c.in_ok-test-in-Conditional.test c.evaluated-in-Conditional-2.result test holds
          (moved c.args.env.now c.evaluated-in-Conditional-2.result branch_is branch)
      | evaluated-else-truth w ↦
          let branch_is : c.if-truth.branch'.now ≡ c.in-Conditional.otherwise = search rules in
          let holds : truth_of c.in_ok-test-in-Conditional.test ≡ false = sym c.truth.ensures ∙ (search rules) in
          otherwise_answers c.args.env.now c.in-Conditional.test c.in-Conditional.then c.in-Conditional.otherwise c.in_ok-test-in-Conditional.test c.evaluated-in-Conditional-2.result test holds
          (moved c.args.env.now c.evaluated-in-Conditional-2.result branch_is branch)
    ])

pub evaluated-returns-in_err-list-in-Update : goal.evaluated-returns-in_err-list-in-Update
evaluated-returns-in_err-list-in-Update t c =
    let p = err_from_is_err_and c.from_residual-in_err-list-in-Update.result c.from_residual-in_err-list-in-Update.ensures.1 in
    rw (p.1, p.2)
    (moved_back c.args.env.now (Err c.in_err-list-in-Update.field-0.0) c.in-Update.is (list_fails c.args.env.now c.in_err-list-in-Update.field-0.0 c.in-Update.list c.in-Update.index c.in-Update.number
    (moved c.args.env.now (Err c.in_err-list-in-Update.field-0.0) c.get-in-Update.ensures c.in_err-list-in-Update.ensures)))

pub evaluated-returns-in_err-evaluated-in-Update : goal.evaluated-returns-in_err-evaluated-in-Update
evaluated-returns-in_err-evaluated-in-Update t c =
    let p = err_from_is_err_and c.from_residual-in_err-evaluated-in-Update.result c.from_residual-in_err-evaluated-in-Update.ensures.1 in
    rw (p.1, p.2)
    (moved_back c.args.env.now (Err c.in_err-evaluated-in-Update.field-0.0) c.in-Update.is (index_fails c.args.env.now c.in_err-evaluated-in-Update.field-0.0 c.in-Update.list c.in-Update.index c.in-Update.number (moved c.args.env.now (Ok c.in_ok-list-in-Update.list) c.get-in-Update.ensures c.in_ok-list-in-Update.ensures).1
    (moved c.args.env.now (Err c.in_err-evaluated-in-Update.field-0.0) c.get-in-Update-2.ensures c.in_err-evaluated-in-Update.ensures)))

pub evaluated-returns-in_err-evaluated-in-Update-2 : goal.evaluated-returns-in_err-evaluated-in-Update-2
evaluated-returns-in_err-evaluated-in-Update-2 t c =
    let p = err_from_is_err_and c.from_residual-in_err-evaluated-in-Update-2.result c.from_residual-in_err-evaluated-in-Update-2.ensures.1 in
    rw (p.1, p.2)
    (moved_back c.args.env.now (Err c.in_err-evaluated-in-Update-2.field-0.0) c.in-Update.is (number_fails c.args.env.now c.in_err-evaluated-in-Update-2.field-0.0 c.in-Update.list c.in-Update.index c.in-Update.number (moved c.args.env.now (Ok c.in_ok-list-in-Update.list) c.get-in-Update.ensures c.in_ok-list-in-Update.ensures).1 (moved c.args.env.now (Ok c.in_ok-evaluated-in-Update.field-0) c.get-in-Update-2.ensures c.in_ok-evaluated-in-Update.ensures).1
    (moved c.args.env.now (Err c.in_err-evaluated-in-Update-2.field-0.0) c.get-in-Update-3.ensures c.in_err-evaluated-in-Update-2.ensures)))

pub evaluated-returns-in_ok-numbers-in-Update : goal.evaluated-returns-in_ok-numbers-in-Update
evaluated-returns-in_ok-numbers-in-Update t c =
    let is = c.in_ok-numbers-in-Update.ensures in
    moved_back c.args.env.now (Ok (values.List c.in_ok-numbers-in-Update.numbers)) c.in-Update.is
    (update_answers c.args.env.now c.in-Update.list c.in-Update.index c.in-Update.number _ _ _ c.in_ok-numbers-in-Update.numbers
    (moved c.args.env.now (Ok c.in_ok-list-in-Update.list) c.get-in-Update.ensures c.in_ok-list-in-Update.ensures)
    (moved c.args.env.now (Ok c.in_ok-evaluated-in-Update.field-0) c.get-in-Update-2.ensures c.in_ok-evaluated-in-Update.ensures)
    (moved c.args.env.now (Ok c.in_ok-evaluated-in-Update-2.field-0) c.get-in-Update-3.ensures c.in_ok-evaluated-in-Update-2.ensures)
    (search rules))

pub evaluated-returns-in_ok-bound-in-Variable : goal.evaluated-returns-in_ok-bound-in-Variable
evaluated-returns-in_ok-bound-in-Variable t c =
    moved_back c.args.env.now (Ok c.in_ok-bound-in-Variable.field-0) c.in-Variable.is
    (name_answers c.args.env.now c.in-Variable.name c.in_ok-bound-in-Variable.field-0 c.in_ok-bound-in-Variable.ensures)

pub evaluated-returns-in_err-numbers-in-List : goal.evaluated-returns-in_err-numbers-in-List
evaluated-returns-in_err-numbers-in-List t c =
    let p = err_from_is_err_and c.from_residual-in_err-numbers-in-List.result c.from_residual-in_err-numbers-in-List.ensures.1 in
    let e = c.in_err-numbers-in-List.field-0.0 in
    rw (p.1, p.2)
    (moved_back c.args.env.now (Err e) c.in-List.is
    (moved c.args.env.now (Err e) (ap terms.List c.as_slice.ensures)
    (elements_fail c.args.env.now e c.as_slice.result.now c.in_err-numbers-in-List.ensures)))

pub evaluated-returns-in_ok-numbers-in-List : goal.evaluated-returns-in_ok-numbers-in-List
evaluated-returns-in_ok-numbers-in-List t c =
    moved_back c.args.env.now (Ok (values.List c.in_ok-numbers-in-List.field-0)) c.in-List.is
    (moved c.args.env.now (Ok (values.List c.in_ok-numbers-in-List.field-0)) (ap terms.List c.as_slice.ensures)
    (list_answers c.args.env.now c.as_slice.result.now c.in_ok-numbers-in-List.field-0 c.in_ok-numbers-in-List.ensures))

pub numbers-loop-element-preserved : goal.numbers-loop-element-preserved
numbers-loop-element-preserved t c =
    let value = moved c.args.env.now (Ok c.in_ok-evaluated.field-0) c.get.ensures c.in_ok-evaluated.ensures in
    record {
      numbers =
          let grown : c.push.new.self ≡ c.loop-element.numbers ++ number_of c.in_ok-evaluated.field-0 ∷ [] = search rules in
          ap (λ l. l ++ map number_of (map (value_of c.args.env.now) (drop (c.loop-element.element-index + 1) c.args.elements.now))) grown
          ∙ next_number c.args.env.now c.args.elements.now c.loop-element.element-index c.element-item.result c.in_ok-evaluated.field-0
          c.loop-element.numbers _ c.loop-element-test.true c.element-item.is value c.loop-element.invariant.numbers;
      wide = next_width c.args.env.now c.args.elements.now c.loop-element.element-index c.element-item.result c.in_ok-evaluated.field-0
          c.loop-element-test.true c.element-item.is value c.loop-element.invariant.wide;
    }
