use Rattle.std.proofs.Common.{◌≡◌, true, sym, ◌∙◌, subst}
use Rattle.std.specs.Prelude.{Some, slice_get}
use Rattle.std.specs.Str.{bytes_eq}
use Rattle.caesium_ir.proofs.Distinct.{block_at}
use Rattle.caesium_ir.proofs.function.Function.block.Goals as goal

pub returns-in-Some : goal.returns-in-Some
returns-in-Some c =
    let block = c.in-Some.block.now in
    let at : slice_get c.args.self.now.blocks c.number.result ≡ Some block = sym c.in-Some.ensures.value in
    let same : bytes_eq block.label c.args.label.now ≡ true = cc (c.eq.ensures) in
    sym (block_at c.args.self.now.blocks c.number.result block c.args.label.now c.requires at same)
