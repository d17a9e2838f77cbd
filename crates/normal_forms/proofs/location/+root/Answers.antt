use Rattle.std.proofs.Common.{ap, ◌∙◌, sym}
use Rattle.normal_forms.specs.Locations.{root}
use Rattle.normal_forms.proofs.Stages.{gives}
use Rattle.normal_forms.proofs.Roots.{root-Add, alone-Binary, alone-Variable, alone-Integer, alone-Truth, alone-Null, alone-List, alone-Unary, alone-Conditional, alone-Update}
use Rattle.normal_forms.proofs.location.+root.Goals as goal

pub returns-in-Add : goal.returns-in-Add
returns-in-Add t c =
    gives c.root.result _ _
    (ap root c.get.ensures
    ∙ sym (root-Add c.args.term.now c.in-Binary.operator c.in-Binary.left c.in-Binary.field-2 c.in-Binary.is c.in-Add.is))
    c.root.ensures

pub returns-in_default : goal.returns-in_default
returns-in_default t c =
    gives c.copy.result _ _
    (sym (alone-Binary c.args.term.now c.in-Binary.operator c.in-Binary.left c.in-Binary.field-2 c.in-Binary.is c.in_default.not-Add).0)
    c.copy.ensures

pub returns-in-Variable : goal.returns-in-Variable
returns-in-Variable t c =
    gives c.copy-in-Variable.result _ _ (sym (alone-Variable c.args.term.now c.in-Variable.field-0 c.in-Variable.is).0) c.copy-in-Variable.ensures

pub returns-in-Integer : goal.returns-in-Integer
returns-in-Integer t c =
    gives c.copy-in-Integer.result _ _ (sym (alone-Integer c.args.term.now c.in-Integer.field-0 c.in-Integer.is).0) c.copy-in-Integer.ensures

pub returns-in-Truth : goal.returns-in-Truth
returns-in-Truth t c =
    gives c.copy-in-Truth.result _ _ (sym (alone-Truth c.args.term.now c.in-Truth.field-0 c.in-Truth.is).0) c.copy-in-Truth.ensures

pub returns-in-Null : goal.returns-in-Null
returns-in-Null t c =
    gives c.copy-in-Null.result _ _ (sym (alone-Null c.args.term.now c.in-Null.is).0) c.copy-in-Null.ensures

pub returns-in-List : goal.returns-in-List
returns-in-List t c =
    gives c.copy-in-List.result _ _ (sym (alone-List c.args.term.now c.in-List.field-0 c.in-List.is).0) c.copy-in-List.ensures

pub returns-in-Unary : goal.returns-in-Unary
returns-in-Unary t c =
    gives c.copy-in-Unary.result _ _ (sym (alone-Unary c.args.term.now c.in-Unary.field-0 c.in-Unary.field-1 c.in-Unary.is).0) c.copy-in-Unary.ensures

pub returns-in-Conditional : goal.returns-in-Conditional
returns-in-Conditional t c =
    gives c.copy-in-Conditional.result _ _ (sym (alone-Conditional c.args.term.now c.in-Conditional.field-0 c.in-Conditional.field-1 c.in-Conditional.field-2 c.in-Conditional.is).0) c.copy-in-Conditional.ensures

pub returns-in-Update : goal.returns-in-Update
returns-in-Update t c =
    gives c.copy-in-Update.result _ _ (sym (alone-Update c.args.term.now c.in-Update.field-0 c.in-Update.field-1 c.in-Update.field-2 c.in-Update.is).0) c.copy-in-Update.ensures
