use Rattle.std.proofs.Common.{◌≡◌, ℕ, ℤ, FitsSigned, List, ◌++◌, ◌∷◌, [], length, map, take, ap, sym, ◌∙◌, add-one, rules}
use Rattle.std.proofs.lemmas.Int.{to_z-of_z}
use mir.Syntax.{w128}
use Rattle.std.proofs.lemmas.List.{take_all}
use Rattle.std.specs.List.{concat}
use Rattle.normal_forms.specs.Order.{key_of, number_key, truth_place}
use Rattle.normal_forms.proofs.KeyNodes.{key-Variable, key-Integer, key-Truth, key-List, key-Unary, key-Binary, key-Conditional, key-Update, after, ends, one_more, length-keys}
use Rattle.normal_forms.proofs.key.+push_key.Goals as goal

pub returns-in_ok-push-in-Variable : goal.returns-in_ok-push-in-Variable
returns-in_ok-push-in-Variable t c =
    let name : List ℕ = c.in-Variable.name in
    let key : key_of c.args.term.now ≡ 0 ∷ length name ∷ name = ap key_of c.in-Variable.is ∙ key-Variable name in
    ends c.push_name.result _ c.push.new.self (length name ∷ name) _
    (after c.args.key.now (0 ∷ []) (length name ∷ name) _ c.in_ok-push-in-Variable.ensures.ok ∙ ap (λ l. c.args.key.now ++ l) (sym key))
    c.push_name.ensures

pub returns-in_ok-push-in-Integer : goal.returns-in_ok-push-in-Integer
returns-in_ok-push-in-Integer t c =
    let number : ℤ = c.in-Integer.number in
    let key : key_of c.args.term.now ≡ 1 ∷ number_key number = ap key_of c.in-Integer.is ∙ key-Integer number in
    let fits : FitsSigned w128 number = search rules in
    let told = simp to_z-of_z at c.push_number.ensures in
    ends c.push_number.result _ c.push-in-Integer.new.self (number_key number) _
    (after c.args.key.now (1 ∷ []) (number_key number) _ c.in_ok-push-in-Integer.ensures.ok ∙ ap (λ l. c.args.key.now ++ l) (sym key))
    told

pub returns-in_ok-push-in-Truth : goal.returns-in_ok-push-in-Truth
returns-in_ok-push-in-Truth t c =
    let truth = c.in-Truth.truth in
    let key : key_of c.args.term.now ≡ 2 ∷ truth_place truth ∷ [] = ap key_of c.in-Truth.is ∙ key-Truth truth in
    ends c.push-in-Truth-2.result _ c.push-in-Truth.new.self (truth_place truth ∷ []) _
    (after c.args.key.now (2 ∷ []) (truth_place truth ∷ []) _ c.in_ok-push-in-Truth.ensures.ok ∙ ap (λ l. c.args.key.now ++ l) (sym key))
    (search rules)

pub returns-in_ok-push-in-Unary-2 : goal.returns-in_ok-push-in-Unary-2
returns-in_ok-push-in-Unary-2 t c =
    let place = c.unary_place.result in
    let part = key_of c.get-in-Unary.result.now in
    let key : key_of c.args.term.now ≡ 5 ∷ place ∷ part =
    (let k = key-Unary c.in-Unary.operator c.in-Unary.operand in cc (k, c.in-Unary.is, c.get-in-Unary.ensures, c.unary_place.ensures)) in
    ends c.push_key-in-Unary.result _ c.push-in-Unary-2.new.self part _
    (after c.push-in-Unary.new.self (place ∷ []) part _ c.in_ok-push-in-Unary-2.ensures.ok
    ∙ after c.args.key.now (5 ∷ []) (place ∷ part) _ c.in_ok-push-in-Unary.ensures.ok ∙ ap (λ l. c.args.key.now ++ l) (sym key))
    c.push_key-in-Unary.ensures

pub returns-in_ok-push_key-in-Binary : goal.returns-in_ok-push_key-in-Binary
returns-in_ok-push_key-in-Binary t c =
    let place = c.binary_place.result in
    let left = key_of c.get-in-Binary.result.now in
    let right = key_of c.get-in-Binary-2.result.now in
    let key : key_of c.args.term.now ≡ 6 ∷ place ∷ (left ++ right) =
    (let k = key-Binary c.in-Binary.operator c.in-Binary.left c.in-Binary.right in
    cc (k, c.in-Binary.is, c.get-in-Binary.ensures, c.get-in-Binary-2.ensures, c.binary_place.ensures)) in
    ends c.push_key-in-Binary-2.result _ c.push_key-in-Binary.new.key right _
    (after c.push-in-Binary-2.new.self left right _ c.in_ok-push_key-in-Binary.ensures
    ∙ after c.push-in-Binary.new.self (place ∷ []) (left ++ right) _ c.in_ok-push-in-Binary-2.ensures.ok
    ∙ after c.args.key.now (6 ∷ []) (place ∷ (left ++ right)) _ c.in_ok-push-in-Binary.ensures.ok ∙ ap (λ l. c.args.key.now ++ l) (sym key))
    c.push_key-in-Binary-2.ensures

pub returns-in_ok-push_key-in-Conditional-2 : goal.returns-in_ok-push_key-in-Conditional-2
returns-in_ok-push_key-in-Conditional-2 t c =
    let first = key_of c.get-in-Conditional.result.now in
    let second = key_of c.get-in-Conditional-2.result.now in
    let third = key_of c.get-in-Conditional-3.result.now in
    let key : key_of c.args.term.now ≡ 7 ∷ (first ++ (second ++ third)) =
    (let k = key-Conditional c.in-Conditional.first c.in-Conditional.second c.in-Conditional.third in
    cc (k, c.in-Conditional.is, c.get-in-Conditional.ensures, c.get-in-Conditional-2.ensures, c.get-in-Conditional-3.ensures)) in
    ends c.push_key-in-Conditional-3.result _ c.push_key-in-Conditional-2.new.key third _
    (after c.push_key-in-Conditional.new.key second third _ c.in_ok-push_key-in-Conditional-2.ensures
    ∙ after c.push-in-Conditional.new.self first (second ++ third) _ c.in_ok-push_key-in-Conditional.ensures
    ∙ after c.args.key.now (7 ∷ []) (first ++ (second ++ third)) _ c.in_ok-push-in-Conditional.ensures.ok ∙ ap (λ l. c.args.key.now ++ l) (sym key))
    c.push_key-in-Conditional-3.ensures

pub returns-in_ok-push_key-in-Update-2 : goal.returns-in_ok-push_key-in-Update-2
returns-in_ok-push_key-in-Update-2 t c =
    let first = key_of c.get-in-Update.result.now in
    let second = key_of c.get-in-Update-2.result.now in
    let third = key_of c.get-in-Update-3.result.now in
    let key : key_of c.args.term.now ≡ 8 ∷ (first ++ (second ++ third)) =
    (let k = key-Update c.in-Update.first c.in-Update.second c.in-Update.third in
    cc (k, c.in-Update.is, c.get-in-Update.ensures, c.get-in-Update-2.ensures, c.get-in-Update-3.ensures)) in
    ends c.push_key-in-Update-3.result _ c.push_key-in-Update-2.new.key third _
    (after c.push_key-in-Update.new.key second third _ c.in_ok-push_key-in-Update-2.ensures
    ∙ after c.push-in-Update.new.self first (second ++ third) _ c.in_ok-push_key-in-Update.ensures
    ∙ after c.args.key.now (8 ∷ []) (first ++ (second ++ third)) _ c.in_ok-push-in-Update.ensures.ok ∙ ap (λ l. c.args.key.now ++ l) (sym key))
    c.push_key-in-Update-3.ensures

pub loop-element-preserved : goal.loop-element-preserved
loop-element-preserved t c =
    let items = c.as_slice-element-items.result.now in
    let i = c.loop-element.element-index in
    let front = concat (map key_of (take i items)) in
    let item = c.element-item.result in
    let more = one_more items i item c.loop-element-test.true c.element-item.is in
    let grown : c.push_key.new.key ≡ c.loop-element.key ++ key_of item = cc (c.in_ok-push_key-in-List.ensures, c.get.ensures) in
    grown ∙ after c.push-in-List-2.new.self front (key_of item) _ c.loop-element.invariant
    ∙ ap (λ l. c.push-in-List-2.new.self ++ l) (sym more)
    ∙ ap (λ n. c.push-in-List-2.new.self ++ concat (map key_of (take n items))) (sym (add-one i))

pub returns-after-loop-element : goal.returns-after-loop-element
returns-after-loop-element t c =
    let items = c.as_slice-element-items.result.now in
    let count = c.len.result in
    let all : take c.loop-element.element-index items ≡ items = take_all c.loop-element.element-index items c.loop-element-test.false in
    let keys = concat (map key_of items) in
    let written : c.loop-element.key ≡ c.push-in-List-2.new.self ++ keys =
    c.loop-element.invariant ∙ ap (λ l. c.push-in-List-2.new.self ++ concat (map key_of l)) all in
    let key : key_of c.args.term.now ≡ 4 ∷ count ∷ keys =
    (let k = key-List c.in-List.elements in let n = length-keys c.in-List.elements in
    cc (k, n, c.in-List.is, c.len.ensures, c.as_slice-element-items.ensures)) in
    written ∙ after c.push-in-List.new.self (count ∷ []) keys _ c.in_ok-push-in-List-2.ensures.ok
    ∙ after c.args.key.now (4 ∷ []) (count ∷ keys) _ c.in_ok-push-in-List.ensures.ok ∙ ap (λ l. c.args.key.now ++ l) (sym key)
