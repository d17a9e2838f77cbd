use Rattle.std.proofs.Common.{◌++◌, length, drop, refl, sym, ap, ◌∙◌, arith}
use Rattle.std.proofs.lemmas.Bool.{false≢true}
use Rattle.std.proofs.lemmas.Bool.Decides.{Decides-eqb}
use Rattle.std.proofs.lemmas.Slice.Eq.{starts_is}
use Rattle.c_lexer.specs.Scanning.Punctuators.{punctuators_from}
use Rattle.c_lexer.proofs.PunctuatorScans.{no_longer, passed_on, none_left}
use Rattle.c_lexer.proofs.punctuator.Punctuator.at_front.Goals as goal

pub loop-punctuator-init : goal.loop-punctuator-init
loop-punctuator-init c = record { all = c.beginning_with-punctuator-items.ensures ∙ ap punctuators_from c.byte_at.ensures; passed = λ punctuator rest split. omega arith }

pub loop-punctuator-preserved : goal.loop-punctuator-preserved
loop-punctuator-preserved c = record {
  all = c.loop-punctuator.invariant.all;
  passed = λ punctuator rest split.
      let bytes = c.args.bytes.now in
      let text = c.as_bytes.result.now in
      let is = c.as_bytes.ensures.value ∙ c.text.ensures in
      passed_on bytes c.beginning_with-punctuator-items.result.now c.loop-punctuator.invariant.all rest c.loop-punctuator.punctuator-index _ punctuator split
      (λ more front. false≢true (sym c.if-starts_with.false ∙ (starts_is Decides-eqb bytes text c.starts_with.result c.starts_with.ensures.value).1 more (front ∙ ap (λ l. l ++ more) (sym is))))
      (c.loop-punctuator.invariant.passed punctuator rest split);
}

pub returns-then-starts_with : goal.returns-then-starts_with
returns-then-starts_with c =
    let bytes = c.args.bytes.now in
    let text = c.as_bytes.result.now in
    let is = c.as_bytes.ensures.value ∙ c.text.ensures in (
      (drop (length text) bytes, (starts_is Decides-eqb bytes text c.starts_with.result c.starts_with.ensures.value).0 c.if-starts_with.true ∙ ap (λ l. l ++ drop (length text) bytes) is),
      λ other rest split. no_longer bytes c.beginning_with-punctuator-items.result.now c.loop-punctuator.invariant.all rest c.loop-punctuator.punctuator-index _ other split (c.loop-punctuator.invariant.passed other rest split),
    )

pub returns : goal.returns
returns c = λ punctuator rest split.
    none_left c.args.bytes.now c.beginning_with-punctuator-items.result.now c.loop-punctuator.invariant.all rest c.loop-punctuator.punctuator-index punctuator split c.loop-punctuator-test.false (c.loop-punctuator.invariant.passed punctuator rest split)
