use Rattle.std.proofs.Common.{◌+◌, ◌-◌, refl, sym, ap, length, take, drop, subst, arith}
use Rattle.std.proofs.lemmas.List.{take_rest, length-drop}
use Rattle.c_lexer.specs.Scanning.Directives.{IsDefinitionLine}
use Rattle.c_lexer.proofs.DirectiveScans.{definition_shift}
use Rattle.c_lexer.proofs.directive.define_body.Goals as goal

pub returns-in-Some : goal.returns-in-Some
returns-in-Some c =
    let bytes = c.args.bytes.now in
    let end = c.args.end in
    let rest = take_rest bytes end in
    let found = c.in-Some.ensures in
    let d = c.in-Some.definition in (
      omega (arith, found.0, ap length rest, length-drop end bytes, c.requires),
      (
        record { kind = d.kind; start = end + d.start; end = end + d.end },
        refl,
        omega (arith, found.1),
        omega (arith, found.2, ap length rest, length-drop end bytes, c.requires),
        definition_shift bytes (take (length bytes - end) (drop end bytes)) end d.start d.end c.in-Some.length d.kind rest found.3,
      ),
    )

pub returns-in-None : goal.returns-in-None
returns-in-None c = λ name kind rest line. c.in-None.ensures name kind rest (subst (λ l. IsDefinitionLine l name kind rest) (sym (take_rest c.args.bytes.now c.args.end)) line)
