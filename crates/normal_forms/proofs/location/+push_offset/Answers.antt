use Rattle.std.proofs.Common.{◌++◌, ap, ◌∙◌, sym, append_assoc, append-nil}
use Rattle.normal_forms.specs.Polynomials.{expanded}
use Rattle.normal_forms.specs.Locations.{offset}
use Rattle.normal_forms.proofs.Expands.{told}
use Rattle.normal_forms.proofs.Roots.{offset-Add, alone-Binary, alone-Variable, alone-Integer, alone-Truth, alone-Null, alone-List, alone-Unary, alone-Conditional, alone-Update}
use Rattle.normal_forms.proofs.location.+push_offset.Goals as goal

pub returns-in_ok-push_offset-in-Add : goal.returns-in_ok-push_offset-in-Add
returns-in_ok-push_offset-in-Add t c =
    let front = c.args.summands.now in
    told c.expand.result _ _ _
    (ap (λ l. l ++ expanded c.get-in-Add.result.now) c.in_ok-push_offset-in-Add.ensures
    ∙ ap (λ x. (front ++ offset x) ++ expanded c.get-in-Add.result.now) c.get.ensures
    ∙ ap (λ x. (front ++ offset c.in-Binary.left) ++ expanded x) c.get-in-Add.ensures
    ∙ append_assoc front (offset c.in-Binary.left) (expanded c.in-Binary.right)
    ∙ ap (λ l. front ++ l)
    (sym (offset-Add c.args.term.now c.in-Binary.operator c.in-Binary.left c.in-Binary.right c.in-Binary.is c.in-Add.is)))
    c.expand.ensures

pub returns-in_default : goal.returns-in_default
returns-in_default t c =
    sym (ap (λ l. c.args.summands.now ++ l)
    (alone-Binary c.args.term.now c.in-Binary.operator c.in-Binary.left c.in-Binary.right c.in-Binary.is c.in_default.not-Add).1
    ∙ append-nil c.args.summands.now)

pub returns-in-Variable : goal.returns-in-Variable
returns-in-Variable t c =
    sym (ap (λ l. c.args.summands.now ++ l) (alone-Variable c.args.term.now c.in-Variable.field-0 c.in-Variable.is).1 ∙ append-nil c.args.summands.now)

pub returns-in-Integer : goal.returns-in-Integer
returns-in-Integer t c =
    sym (ap (λ l. c.args.summands.now ++ l) (alone-Integer c.args.term.now c.in-Integer.field-0 c.in-Integer.is).1 ∙ append-nil c.args.summands.now)

pub returns-in-Truth : goal.returns-in-Truth
returns-in-Truth t c =
    sym (ap (λ l. c.args.summands.now ++ l) (alone-Truth c.args.term.now c.in-Truth.field-0 c.in-Truth.is).1 ∙ append-nil c.args.summands.now)

pub returns-in-Null : goal.returns-in-Null
returns-in-Null t c =
    sym (ap (λ l. c.args.summands.now ++ l) (alone-Null c.args.term.now c.in-Null.is).1 ∙ append-nil c.args.summands.now)

pub returns-in-List : goal.returns-in-List
returns-in-List t c =
    sym (ap (λ l. c.args.summands.now ++ l) (alone-List c.args.term.now c.in-List.field-0 c.in-List.is).1 ∙ append-nil c.args.summands.now)

pub returns-in-Unary : goal.returns-in-Unary
returns-in-Unary t c =
    sym (ap (λ l. c.args.summands.now ++ l) (alone-Unary c.args.term.now c.in-Unary.field-0 c.in-Unary.field-1 c.in-Unary.is).1 ∙ append-nil c.args.summands.now)

pub returns-in-Conditional : goal.returns-in-Conditional
returns-in-Conditional t c =
    sym (ap (λ l. c.args.summands.now ++ l) (alone-Conditional c.args.term.now c.in-Conditional.field-0 c.in-Conditional.field-1 c.in-Conditional.field-2 c.in-Conditional.is).1 ∙ append-nil c.args.summands.now)

pub returns-in-Update : goal.returns-in-Update
returns-in-Update t c =
    sym (ap (λ l. c.args.summands.now ++ l) (alone-Update c.args.term.now c.in-Update.field-0 c.in-Update.field-1 c.in-Update.field-2 c.in-Update.is).1 ∙ append-nil c.args.summands.now)
