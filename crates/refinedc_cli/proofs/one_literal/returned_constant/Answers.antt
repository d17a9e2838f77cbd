use Rattle.std.proofs.Common.{◌≡◌, length, refl}
use Rattle.std.specs.Prelude.{Some, slice_get}
use Rattle.std.proofs.lemmas.Option.{slice_get_read}
use Rattle.refinedc_cli.proofs.FormLemmas.{constant_there, other_there}
use Rattle.refinedc_cli.proofs.one_literal.returned_constant.Goals as goal

pub returns-in-Integer : goal.returns-in-Integer
returns-in-Integer c =
    let token = c.in_ok-constant.field-0.now in
    let there : slice_get c.args.tokens.now 17 ≡ Some token =
    slice_get_read c.args.tokens.now (length c.args.tokens.now) 17 token refl c.in_ok-constant.ensures.lookup.3.0 c.in_ok-constant.ensures.lookup.1 in
    constant_there c.args.tokens.now token c.in-Integer.constant c.in_int.result there c.in-Integer.is c.in_int.ensures

pub returns-in_default : goal.returns-in_default
returns-in_default c =
    let token = c.in_ok-constant.field-0.now in
    let there : slice_get c.args.tokens.now 17 ≡ Some token =
    slice_get_read c.args.tokens.now (length c.args.tokens.now) 17 token refl c.in_ok-constant.ensures.lookup.3.0 c.in_ok-constant.ensures.lookup.1 in
    other_there c.args.tokens.now token there c.in_default.not-Integer
