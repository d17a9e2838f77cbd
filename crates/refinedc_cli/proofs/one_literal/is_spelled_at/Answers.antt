use Rattle.std.proofs.Common.{length, refl}
use Rattle.std.proofs.lemmas.Option.{slice_get_read}
use Rattle.refinedc_cli.proofs.FormLemmas.{spelled_by_test}
use Rattle.refinedc_cli.proofs.one_literal.is_spelled_at.Goals as goal

pub returns-in-Some : goal.returns-in-Some
returns-in-Some c =
    spelled_by_test c.args.tokens.now c.args.position c.in-Some.token.now c.as_slice.result.now c.args.text.now c.eq.result
    (slice_get_read c.args.tokens.now (length c.args.tokens.now) c.args.position c.in-Some.token.now refl c.in-Some.ensures.lookup.3.0 c.in-Some.ensures.lookup.1)
    c.as_slice.ensures c.eq.ensures
