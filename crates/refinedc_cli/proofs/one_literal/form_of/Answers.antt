use Rattle.std.proofs.Common.{◌∙◌, ◌≡◌, ap, sym, arith}
use Rattle.std.proofs.lemmas.Bool.{false≢true}
use Rattle.c_lexer.specs.declared.token.Token.{Token}
use Rattle.std.specs.Prelude.{Some, slice_get}
use Rattle.std.proofs.lemmas.Option.{slice_get_read}
use Rattle.refinedc_cli.proofs.FormLemmas.{constant_of_form, kinds_of_form, length_of_form, declaration_of_form, stands_there}
use Rattle.refinedc_cli.proofs.one_literal.form_of.Goals as goal

pub returns-in_err-returned : goal.returns-in_err-returned
returns-in_err-returned c =
    rw c.from_residual.ensures
    (λ form is. let found = constant_of_form c.args.tokens.now form is in c.in_err-returned.ensures found.0 form.returned found.1 found.2 is.returned_in_range)

pub returns-then-not-have_kinds : goal.returns-then-not-have_kinds
returns-then-not-have_kinds c = λ form is.
    let read = c.in_ok-returned.ensures in
    let kinds = kinds_of_form c.args.tokens.now form read.0 c.in_ok-returned.returned read.1 read.2 is in
    false≢true (sym c.if-not-have_kinds.true ∙ c.have_kinds.ensures.1 (kinds ∙ sym c.form_kinds.ensures))

pub returns-in_err-declared : goal.returns-in_err-declared
returns-in_err-declared c =
    let kinds = c.have_kinds.ensures.0 c.if-not-have_kinds.false ∙ c.form_kinds.ensures in
    let there : slice_get c.args.tokens.now 6 ≡ Some c.index-tokens-6.result =
    slice_get_read c.args.tokens.now 20 6 c.index-tokens-6.result (length_of_form c.args.tokens.now c.in_ok-returned.returned kinds) (omega arith) c.index-tokens-6.is in
    rw c.from_residual-in_err-declared.ensures
    (λ form is. c.in_err-declared.ensures form.declared is.in_range (c.as_slice.ensures ∙ ap (λ (token : Token). token.text) (sym c.index-tokens-6.is) ∙ declaration_of_form c.args.tokens.now form c.index-tokens-6.result there is))

pub returns : goal.returns
returns c =
    let kinds = c.have_kinds.ensures.0 c.if-not-have_kinds.false ∙ c.form_kinds.ensures in
    let long = length_of_form c.args.tokens.now c.in_ok-returned.returned kinds in
    let string : slice_get c.args.tokens.now 6 ≡ Some c.index-tokens-6.result =
    slice_get_read c.args.tokens.now 20 6 c.index-tokens-6.result long (omega arith) c.index-tokens-6.is in
    record {
      kinds = kinds;
      prefix = c.is_spelled_at.ensures.0 c.if-not-is_spelled_at.false;
      attribute = c.is_spelled_at-else-not-is_spelled_at.ensures.0 c.if-not-is_spelled_at-2.false;
      declares = (c.index-tokens-6.result, string, ap (λ (token : Token). token.text) c.index-tokens-6.is ∙ sym c.as_slice.ensures ∙ c.in_ok-declared.ensures.1);
      in_range = c.in_ok-declared.ensures.0;
      returned_in_range = c.in_ok-returned.ensures.3;
      name_place = stands_there c.args.tokens.now 11 c.index-tokens-11.result long (omega arith) c.index-tokens-11.is;
      body_place = stands_there c.args.tokens.now 15 c.index-tokens-15.result long (omega arith) c.index-tokens-15.is;
      return_place = stands_there c.args.tokens.now 16 c.index-tokens-16.result long (omega arith) c.index-tokens-16.is;
      literal_place = stands_there c.args.tokens.now 17 c.index-tokens-17.result long (omega arith) c.index-tokens-17.is;
    }
