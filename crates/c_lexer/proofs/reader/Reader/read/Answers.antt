use Rattle.std.proofs.Common.{◌≡◌, ◌+◌, ◌-◌, ◌∷◌, get_or, take, drop, length, refl, sym, ap, ◌∙◌, subst, arith}
use Rattle.std.proofs.lemmas.List.{get_or-drop, length-drop}
use Rattle.c_lexer.specs.declared.token.TokenKind.TheVariants as kinds
use Rattle.c_lexer.specs.Elements.{SingleToken}
use Rattle.c_lexer.specs.Scanning.Reading.{HasRead}
use Rattle.c_lexer.proofs.Alone.{alone_begins}
use Rattle.c_lexer.proofs.Readings.{further}
use Rattle.c_lexer.proofs.reader.Reader.read.Goals as goal

pub returns-in_ok-add_alone-in-Some-clause-stands : goal.returns-in_ok-add_alone-in-Some-clause-stands
returns-in_ok-add_alone-in-Some-clause-stands c =
    let bytes = c.args.bytes.now in
    let old = c.args.self.now in
    let new = c.add_alone.new.self in
    let at = old.place.byte in
    let stands = c.requires.stands in
    let punctuator = c.in-Some.punctuator in
    let size : length (drop at bytes) ≡ length bytes - at = length-drop at bytes in
    let first : get_or bytes at 0 ≡ get_or (drop at bytes) 0 0 = sym (get_or-drop at bytes 0 0 ∙ ap (λ n. get_or bytes n 0) (omega arith)) in
    let begins = alone_begins old.fresh (drop at bytes) (get_or bytes at 0) punctuator (omega (arith, size, c.requires.some)) first c.in-Some.ensures.spelled c.in-Some.ensures.only in
    let read = subst (λ text. HasRead (record { kind = SingleToken (kinds.Punctuator punctuator); text = text } ∷ stands.elements) new) (sym begins.0) (c.in_ok-add_alone-in-Some.ensures stands.elements stands.read) in
    let next = further bytes (drop at bytes) old new (SingleToken (kinds.Punctuator punctuator)) 1 stands refl (omega arith) (omega (arith, size, c.requires.some)) begins.1 read in
    (next.stands, next.moved)
