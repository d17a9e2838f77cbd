use Rattle.std.proofs.Common.{◌≡◌, ℤ, FitsSigned, negsuc, [], ◌∷◌, ◌++◌, map, not, ap, ◌∙◌, sym, append_assoc, rules}
use Rattle.std.proofs.lemmas.Int.{to_z-of_z}
use mir.Syntax.{w128}
use Rattle.normal_forms.specs.Polynomials.{expanded, opaque, products, times}
use Rattle.normal_forms.specs.Scanning.{signed_sum}
use Rattle.normal_forms.proofs.Expands.{told, expanded-Variable, expanded-Truth, expanded-Null, expanded-List, expanded-Conditional, expanded-Update, expanded-Integer, expanded-Negative, expanded-Unary, expanded-Add, expanded-Subtract, expanded-Multiply, expanded-Binary, signed-opposite, signed-append, signed-products}
use Rattle.normal_forms.proofs.expansion.+expand.Goals as goal

pub returns-in-Integer : goal.returns-in-Integer
returns-in-Integer t c =
    let number : ℤ = c.in-Integer.number in
    let fits : FitsSigned w128 number = search rules in
    let written = simp to_z-of_z at c.push_constant.ensures in
    told c.push_constant.result _ _ _
    (ap (λ l. c.args.summands.now ++ signed_sum c.args.negative l) (sym (expanded-Integer c.args.term.now number c.in-Integer.is))) written

pub returns-in-Negative : goal.returns-in-Negative
returns-in-Negative t c =
    let front = c.args.summands.now in
    let k = expanded-Negative c.args.term.now c.in-Unary.operator c.in-Unary.operand c.in-Unary.is c.in-Negative.is in
    told c.expand.result _ (front ++ signed_sum (not c.args.negative) (expanded c.get.result.now)) _
    (ap (λ x. front ++ signed_sum (not c.args.negative) (expanded x)) c.get.ensures
    ∙ ap (λ l. front ++ l) (signed-opposite c.args.negative (expanded c.in-Unary.operand))
    ∙ ap (λ l. front ++ signed_sum c.args.negative l) (sym k))
    c.expand.ensures

pub returns-in_ok-expand-in-Add : goal.returns-in_ok-expand-in-Add
returns-in_ok-expand-in-Add t c =
    let front = c.args.summands.now in
    let n = c.args.negative in
    let left = expanded c.in-Binary.left in
    let right = expanded c.in-Binary.right in
    let k = expanded-Add c.args.term.now c.in-Binary.operator c.in-Binary.left c.in-Binary.right c.in-Binary.is c.in-Add.is in
    told c.expand-in-Add-2.result _ (c.expand-in-Add.new.summands ++ signed_sum n (expanded c.get-in-Add-2.result.now)) _
    (ap (λ l. l ++ signed_sum n (expanded c.get-in-Add-2.result.now)) c.in_ok-expand-in-Add.ensures
    ∙ ap (λ x. (front ++ signed_sum n (expanded x)) ++ signed_sum n (expanded c.get-in-Add-2.result.now)) c.get-in-Add.ensures
    ∙ ap (λ x. (front ++ signed_sum n left) ++ signed_sum n (expanded x)) c.get-in-Add-2.ensures
    ∙ append_assoc front (signed_sum n left) (signed_sum n right)
    ∙ ap (λ l. front ++ l) (sym (signed-append n left right))
    ∙ ap (λ l. front ++ signed_sum n l) (sym k))
    c.expand-in-Add-2.ensures

pub returns-in_ok-expand-in-Subtract : goal.returns-in_ok-expand-in-Subtract
returns-in_ok-expand-in-Subtract t c =
    let front = c.args.summands.now in
    let n = c.args.negative in
    let left = expanded c.in-Binary.left in
    let right = expanded c.in-Binary.right in
    let k = expanded-Subtract c.args.term.now c.in-Binary.operator c.in-Binary.left c.in-Binary.right c.in-Binary.is c.in-Subtract.is in
    told c.expand-in-Subtract-2.result _ (c.expand-in-Subtract.new.summands ++ signed_sum (not n) (expanded c.get-in-Subtract-2.result.now)) _
    (ap (λ l. l ++ signed_sum (not n) (expanded c.get-in-Subtract-2.result.now)) c.in_ok-expand-in-Subtract.ensures
    ∙ ap (λ x. (front ++ signed_sum n (expanded x)) ++ signed_sum (not n) (expanded c.get-in-Subtract-2.result.now)) c.get-in-Subtract.ensures
    ∙ ap (λ x. (front ++ signed_sum n left) ++ signed_sum (not n) (expanded x)) c.get-in-Subtract-2.ensures
    ∙ append_assoc front (signed_sum n left) (signed_sum (not n) right)
    ∙ ap (λ l. front ++ (signed_sum n left ++ l)) (signed-opposite n right)
    ∙ ap (λ l. front ++ l) (sym (signed-append n left (map (times (negsuc 0)) right)))
    ∙ ap (λ l. front ++ signed_sum n l) (sym k))
    c.expand-in-Subtract-2.ensures

pub returns-in_ok-expand-in-Multiply-2 : goal.returns-in_ok-expand-in-Multiply-2
returns-in_ok-expand-in-Multiply-2 t c =
    let front = c.args.summands.now in
    let n = c.args.negative in
    let left = expanded c.in-Binary.left in
    let right = expanded c.in-Binary.right in
    let k = expanded-Multiply c.args.term.now c.in-Binary.operator c.in-Binary.left c.in-Binary.right c.in-Binary.is c.in-Multiply.is in
    let first : c.as_slice.result.now ≡ signed_sum n left =
    c.as_slice.ensures ∙ c.in_ok-expand-in-Multiply.ensures
    ∙ ap (λ l. l ++ signed_sum n (expanded c.get-in-Multiply.result.now)) c.new-first.ensures
    ∙ ap (λ x. signed_sum n (expanded x)) c.get-in-Multiply.ensures in
    let second : c.as_slice-in-Multiply.result.now ≡ right =
    c.as_slice-in-Multiply.ensures ∙ c.in_ok-expand-in-Multiply-2.ensures
    ∙ ap (λ l. l ++ expanded c.get-in-Multiply-2.result.now) c.new-second.ensures
    ∙ ap expanded c.get-in-Multiply-2.ensures in
    told c.push_products.result _ (front ++ products c.as_slice.result.now c.as_slice-in-Multiply.result.now) _
    (ap (λ l. front ++ products l c.as_slice-in-Multiply.result.now) first
    ∙ ap (λ l. front ++ products (signed_sum n left) l) second
    ∙ ap (λ l. front ++ l) (signed-products n left right)
    ∙ ap (λ l. front ++ signed_sum n l) (sym k))
    c.push_products.ensures

pub returns-in_default : goal.returns-in_default
returns-in_default t c =
    told c.push_opaque.result _ (c.args.summands.now ++ signed_sum c.args.negative (opaque c.args.term.now ∷ [])) _
    (ap (λ l. c.args.summands.now ++ signed_sum c.args.negative l) (sym (expanded-Unary c.args.term.now c.in-Unary.operator c.in-Unary.operand c.in-Unary.is c.in_default.not-Negative))) c.push_opaque.ensures

pub returns-in_default-operator : goal.returns-in_default-operator
returns-in_default-operator t c =
    told c.push_opaque-in_default-operator.result _ (c.args.summands.now ++ signed_sum c.args.negative (opaque c.args.term.now ∷ [])) _
    (ap (λ l. c.args.summands.now ++ signed_sum c.args.negative l) (sym (expanded-Binary c.args.term.now c.in-Binary.operator c.in-Binary.left c.in-Binary.right c.in-Binary.is c.in_default-operator.not-Add c.in_default-operator.not-Subtract c.in_default-operator.not-Multiply))) c.push_opaque-in_default-operator.ensures

pub returns-in-Variable : goal.returns-in-Variable
returns-in-Variable t c =
    told c.push_opaque-in-Variable.result _ (c.args.summands.now ++ signed_sum c.args.negative (opaque c.args.term.now ∷ [])) _
    (ap (λ l. c.args.summands.now ++ signed_sum c.args.negative l) (sym (expanded-Variable c.args.term.now c.in-Variable.field-0 c.in-Variable.is))) c.push_opaque-in-Variable.ensures

pub returns-in-Truth : goal.returns-in-Truth
returns-in-Truth t c =
    told c.push_opaque-in-Truth.result _ (c.args.summands.now ++ signed_sum c.args.negative (opaque c.args.term.now ∷ [])) _
    (ap (λ l. c.args.summands.now ++ signed_sum c.args.negative l) (sym (expanded-Truth c.args.term.now c.in-Truth.field-0 c.in-Truth.is))) c.push_opaque-in-Truth.ensures

pub returns-in-Null : goal.returns-in-Null
returns-in-Null t c =
    told c.push_opaque-in-Null.result _ (c.args.summands.now ++ signed_sum c.args.negative (opaque c.args.term.now ∷ [])) _
    (ap (λ l. c.args.summands.now ++ signed_sum c.args.negative l) (sym (expanded-Null c.args.term.now c.in-Null.is))) c.push_opaque-in-Null.ensures

pub returns-in-List : goal.returns-in-List
returns-in-List t c =
    told c.push_opaque-in-List.result _ (c.args.summands.now ++ signed_sum c.args.negative (opaque c.args.term.now ∷ [])) _
    (ap (λ l. c.args.summands.now ++ signed_sum c.args.negative l) (sym (expanded-List c.args.term.now c.in-List.field-0 c.in-List.is))) c.push_opaque-in-List.ensures

pub returns-in-Conditional : goal.returns-in-Conditional
returns-in-Conditional t c =
    told c.push_opaque-in-Conditional.result _ (c.args.summands.now ++ signed_sum c.args.negative (opaque c.args.term.now ∷ [])) _
    (ap (λ l. c.args.summands.now ++ signed_sum c.args.negative l) (sym (expanded-Conditional c.args.term.now c.in-Conditional.field-0 c.in-Conditional.field-1 c.in-Conditional.field-2 c.in-Conditional.is))) c.push_opaque-in-Conditional.ensures

pub returns-in-Update : goal.returns-in-Update
returns-in-Update t c =
    told c.push_opaque-in-Update.result _ (c.args.summands.now ++ signed_sum c.args.negative (opaque c.args.term.now ∷ [])) _
    (ap (λ l. c.args.summands.now ++ signed_sum c.args.negative l) (sym (expanded-Update c.args.term.now c.in-Update.field-0 c.in-Update.field-1 c.in-Update.field-2 c.in-Update.is))) c.push_opaque-in-Update.ensures
