use Rattle.std.proofs.Common.{sym, ◌∙◌}
use Rattle.std.proofs.lemmas.Bool.{false≢true}
use Rattle.std.proofs.lemmas.Slice.Eq.{bytes_eq-Decides}
use Rattle.c_lexer.proofs.Keywords.{none_left, keyword_passed}
use Rattle.c_lexer.proofs.keyword.Keyword.from_spelling.Goals as goal

pub loop-keyword-preserved : goal.loop-keyword-preserved
loop-keyword-preserved c = record {
  all = c.loop-keyword.invariant.all;
  passed = λ keyword same.
      let text = c.as_bytes.result.now in
      keyword_passed c.args.word.now text c.beginning_with-keyword-items.result.now c.loop-keyword.keyword-index _ keyword c.loop-keyword.invariant.all (c.as_bytes.ensures.value ∙ c.text.ensures)
      (λ equal. false≢true (sym c.if-eq.false ∙ c.eq.ensures ∙ (bytes_eq-Decides text c.args.word.now).1 equal))
      same (c.loop-keyword.invariant.passed keyword same);
}

pub returns-clause-none : goal.returns-clause-none
returns-clause-none c = λ keyword same.
    none_left c.args.word.now c.beginning_with-keyword-items.result.now c.loop-keyword.keyword-index keyword c.loop-keyword.invariant.all same c.loop-keyword-test.false (c.loop-keyword.invariant.passed keyword same)
