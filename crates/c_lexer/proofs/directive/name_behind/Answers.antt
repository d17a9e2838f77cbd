use Rattle.std.proofs.Common.{sym, ◌∙◌, ap, drop}
use Rattle.std.proofs.lemmas.Bool.{false≢true}
use Rattle.c_lexer.specs.Scanning.Tokens.{is_word_kind}
use Rattle.c_lexer.proofs.DirectiveLaws.{same_token_behind}
use Rattle.c_lexer.proofs.Readings.{word_has_kind}
use Rattle.c_lexer.proofs.directive.name_behind.Goals as goal

pub returns-else-is_word : goal.returns-else-is_word
returns-else-is_word c = λ kind name rest token word.
    let same = same_token_behind c.args.bytes.now kind c.in-Some.word.kind name _ rest (drop c.in-Some.word.end c.args.bytes.now) token c.in-Some.ensures.2 in
    false≢true (sym c.if-is_word.false ∙ c.is_word.ensures ∙ sym (ap is_word_kind same.kind) ∙ word_has_kind kind name token.2.spelled word)
