use Rattle.std.proofs.Common.{◌≡◌, true, sym, ◌∙◌, subst}
use Rattle.std.specs.Prelude.{Some, slice_get}
use Rattle.std.specs.Str.{bytes_eq}
use Rattle.caesium_ir.proofs.Distinct.{function_at}
use Rattle.caesium_ir.proofs.program.Program.function.Goals as goal

pub returns-in-Some : goal.returns-in-Some
returns-in-Some c =
    let function = c.in-Some.function.now in
    let at : slice_get c.args.self.now.functions c.number.result ≡ Some function = sym c.in-Some.ensures.value in
    let same : bytes_eq function.name c.args.name.now ≡ true = cc (c.eq.ensures) in
    sym (function_at c.args.self.now.functions c.number.result function c.args.name.now c.requires at same)
