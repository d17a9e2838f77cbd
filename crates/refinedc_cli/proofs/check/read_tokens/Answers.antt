use Rattle.std.proofs.Common.{◌≡◌, ◌∙◌, ap, sym, arith}
use Rattle.std.specs.Prelude.{Some, slice_get}
use Rattle.std.proofs.lemmas.Option.{slice_get_read}
use Rattle.c_lexer.specs.declared.token.Token.{Token}
use Rattle.refinedc_cli.proofs.FormLemmas.{length_of_form}
use Rattle.refinedc_cli.proofs.check.read_tokens.Goals as goal

pub returns : goal.returns
returns c =
    let is = c.in-Some.ensures in
    let there : slice_get c.args.tokens.now 11 ≡ Some c.index-tokens-11.result =
    slice_get_read c.args.tokens.now 20 11 c.index-tokens-11.result (length_of_form c.args.tokens.now c.in-Some.form.returned is.kinds) (omega arith) c.index-tokens-11.is in (
      is,
      (
        c.as_slice-name.result.now,
        (c.index-tokens-11.result, there, ap (λ (t : Token). t.text) c.index-tokens-11.is ∙ sym c.as_slice-name.ensures),
        c.in_ok-program.ensures.exact,
      ),
    )
