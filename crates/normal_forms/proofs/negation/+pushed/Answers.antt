use Rattle.std.proofs.Common.{◌≡◌, not, ap, sym, ◌∙◌}
use Rattle.rc_terms.specs.declared.term.Term.TheVariants as terms
use Rattle.normal_forms.specs.Negation.{pushed, signed}
use Rattle.normal_forms.proofs.Pushes.{answers, pushed-Variable, pushed-Integer, pushed-Null, pushed-List, pushed-Update, pushed-Truth, pushed-Not, pushed-Unary, pushed-Comparison, pushed-Connective, pushed-Implication, pushed-Opaque, pushed-Conditional, truth_turned}
use Rattle.normal_forms.proofs.negation.+pushed.Goals as goal

pub returns-in-Truth : goal.returns-in-Truth
returns-in-Truth t c =
    ap terms.Truth (truth_turned c.in-Truth.truth c.args.negative)
    ∙ sym (pushed-Truth c.args.term.now c.args.negative c.in-Truth.truth c.in-Truth.is)

pub returns-in-Not : goal.returns-in-Not
returns-in-Not t c =
    let same : pushed c.get.result.now (not c.args.negative) ≡ pushed c.args.term.now c.args.negative =
    (let k = pushed-Not c.args.term.now c.args.negative c.in-Unary.operator c.in-Unary.operand c.in-Unary.is c.in-Not.is in
    cc (k, c.get.ensures)) in
    answers c.pushed.result _ _ same c.pushed.ensures

pub returns-in_ok-copy-in_default : goal.returns-in_ok-copy-in_default
returns-in_ok-copy-in_default t c =
    answers c.signed.result (signed c.args.negative c.in_ok-copy-in_default.field-0) _
    (ap (signed c.args.negative) c.in_ok-copy-in_default.ensures
    ∙ sym (pushed-Unary c.args.term.now c.args.negative c.in-Unary.operator c.in-Unary.operand c.in-Unary.is c.in_default.not-Not))
    c.signed.ensures

pub returns-in_ok-share-in-Comparison-2 : goal.returns-in_ok-share-in-Comparison-2
returns-in_ok-share-in-Comparison-2 t c =
    let k = pushed-Comparison c.args.term.now c.args.negative c.in-Binary.operator c.in-Binary.left c.in-Binary.right c.in-Binary.is c.in-Comparison.ensures in
    cc (k, c.turned.ensures, c.in_ok-share-in-Comparison.ensures, c.in_ok-share-in-Comparison-2.ensures)

pub returns-in_ok-right-in-Connective : goal.returns-in_ok-right-in-Connective
returns-in_ok-right-in-Connective t c =
    let k = pushed-Connective c.args.term.now c.args.negative c.in-Binary.operator c.in-Binary.left c.in-Binary.right c.in-Binary.is c.in-Connective.ensures in
    let same : terms.Binary c.turned-in-Connective.result c.in_ok-left-in-Connective.left c.in_ok-right-in-Connective.right ≡ pushed c.args.term.now c.args.negative =
    cc (k, c.turned-in-Connective.ensures, c.in_ok-left-in-Connective.ensures, c.in_ok-right-in-Connective.ensures, c.get-in-Connective.ensures, c.get-in-Connective-2.ensures) in
    answers c.binary.result _ _ same c.binary.ensures

pub returns-in_ok-right-in-Implication : goal.returns-in_ok-right-in-Implication
returns-in_ok-right-in-Implication t c =
    let k = pushed-Implication c.args.term.now c.args.negative c.in-Binary.operator c.in-Binary.left c.in-Binary.right c.in-Binary.is c.in-Implication.ensures in
    let same : terms.Binary c.turned-in-Implication.result c.in_ok-left-in-Implication.left c.in_ok-right-in-Implication.right ≡ pushed c.args.term.now c.args.negative =
    cc (k, c.turned-in-Implication.ensures, c.in_ok-left-in-Implication.ensures, c.in_ok-right-in-Implication.ensures, c.get-in-Implication.ensures, c.get-in-Implication-2.ensures) in
    answers c.binary-in-Implication.result _ _ same c.binary-in-Implication.ensures

pub returns-in_ok-copy-in-Opaque : goal.returns-in_ok-copy-in-Opaque
returns-in_ok-copy-in-Opaque t c =
    answers c.signed-in-Opaque.result (signed c.args.negative c.in_ok-copy-in-Opaque.field-0) _
    (ap (signed c.args.negative) c.in_ok-copy-in-Opaque.ensures
    ∙ sym (pushed-Opaque c.args.term.now c.args.negative c.in-Binary.operator c.in-Binary.left c.in-Binary.right c.in-Binary.is c.in-Opaque.ensures))
    c.signed-in-Opaque.ensures

pub returns-in_ok-otherwise-in-Conditional : goal.returns-in_ok-otherwise-in-Conditional
returns-in_ok-otherwise-in-Conditional t c =
    let k = pushed-Conditional c.args.term.now c.args.negative c.in-Conditional.test c.in-Conditional.then c.in-Conditional.otherwise c.in-Conditional.is in
    let same : terms.Conditional c.in_ok-test-in-Conditional.test c.in_ok-then-in-Conditional.then c.in_ok-otherwise-in-Conditional.otherwise ≡ pushed c.args.term.now c.args.negative =
    cc (
      k,
      c.in_ok-test-in-Conditional.ensures,
      c.in_ok-then-in-Conditional.ensures,
      c.in_ok-otherwise-in-Conditional.ensures,
      c.get-in-Conditional.ensures,
      c.get-in-Conditional-2.ensures,
      c.get-in-Conditional-3.ensures,
    ) in
    answers c.conditional.result _ _ same c.conditional.ensures

pub returns-in_ok-copy-in-Variable : goal.returns-in_ok-copy-in-Variable
returns-in_ok-copy-in-Variable t c =
    answers c.signed-in-Variable.result (signed c.args.negative c.in_ok-copy-in-Variable.field-0) _
    (ap (signed c.args.negative) c.in_ok-copy-in-Variable.ensures
    ∙ sym (pushed-Variable c.args.term.now c.args.negative c.in-Variable.field-0 c.in-Variable.is))
    c.signed-in-Variable.ensures

pub returns-in_ok-copy-in-Integer : goal.returns-in_ok-copy-in-Integer
returns-in_ok-copy-in-Integer t c =
    answers c.signed-in-Integer.result (signed c.args.negative c.in_ok-copy-in-Integer.field-0) _
    (ap (signed c.args.negative) c.in_ok-copy-in-Integer.ensures
    ∙ sym (pushed-Integer c.args.term.now c.args.negative c.in-Integer.field-0 c.in-Integer.is))
    c.signed-in-Integer.ensures

pub returns-in_ok-copy-in-Null : goal.returns-in_ok-copy-in-Null
returns-in_ok-copy-in-Null t c =
    answers c.signed-in-Null.result (signed c.args.negative c.in_ok-copy-in-Null.field-0) _
    (ap (signed c.args.negative) c.in_ok-copy-in-Null.ensures
    ∙ sym (pushed-Null c.args.term.now c.args.negative c.in-Null.is))
    c.signed-in-Null.ensures

pub returns-in_ok-copy-in-List : goal.returns-in_ok-copy-in-List
returns-in_ok-copy-in-List t c =
    answers c.signed-in-List.result (signed c.args.negative c.in_ok-copy-in-List.field-0) _
    (ap (signed c.args.negative) c.in_ok-copy-in-List.ensures
    ∙ sym (pushed-List c.args.term.now c.args.negative c.in-List.field-0 c.in-List.is))
    c.signed-in-List.ensures

pub returns-in_ok-copy-in-Update : goal.returns-in_ok-copy-in-Update
returns-in_ok-copy-in-Update t c =
    answers c.signed-in-Update.result (signed c.args.negative c.in_ok-copy-in-Update.field-0) _
    (ap (signed c.args.negative) c.in_ok-copy-in-Update.ensures
    ∙ sym (pushed-Update c.args.term.now c.args.negative c.in-Update.field-0 c.in-Update.field-1 c.in-Update.field-2 c.in-Update.is))
    c.signed-in-Update.ensures
