use Rattle.std.proofs.Common.{get_or, refl, arith}
use Rattle.c_lexer.specs.declared.token.TokenKind.TheVariants as kinds
use Rattle.c_lexer.specs.Elements.{SingleToken}
use Rattle.c_lexer.proofs.Alone.{alone_begins}
use Rattle.c_lexer.proofs.Elements.{can_open}
use Rattle.c_lexer.proofs.passing.step.Goals as goal

pub a_fault_opens-requires : goal.a_fault_opens-requires
a_fault_opens-requires c = can_open c.args.fresh c.args.rest.now c.in-Err.unread c.in-Err.ensures.0 c.in-Err.ensures.1

pub returns-in-Some : goal.returns-in-Some
returns-in-Some c =
    let rest = c.args.rest.now in
    let punctuator = c.in-Some.field-0 in
    let begins = alone_begins c.args.fresh rest (get_or rest 0 0) punctuator c.requires refl c.in-Some.ensures.spelled c.in-Some.ensures.only in
    (omega arith, omega (arith, c.requires), (SingleToken (kinds.Punctuator punctuator), begins.1, refl, refl))
