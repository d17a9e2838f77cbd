use Rattle.std.proofs.Common.{ap, subst}
use Rattle.std.proofs.lemmas.List.{take_rest}
use Rattle.c_lexer.specs.Scanning.Elements.{CanOpen}
use Rattle.c_lexer.proofs.Totality.{directive_opens}
use Rattle.c_lexer.proofs.passing.a_fault_opens.Goals as goal

pub returns-in-Directive : goal.returns-in-Directive
returns-in-Directive c =
    let bytes = c.args.bytes.now in
    directive_opens bytes _ c.name_behind.result (subst (λ u. CanOpen u bytes) c.in-Directive.is c.requires) (take_rest bytes 1) c.name_behind.ensures
