use Rattle.std.proofs.Common.{◌-◌, length, take, drop, refl}
use Rattle.std.proofs.lemmas.List.{take_rest}
use Rattle.c_lexer.specs.Elements.{bytes_of}
use Rattle.c_lexer.proofs.Readings.{line_read, token_read}
use Rattle.c_lexer.proofs.reader.Reader.add.Goals as goal

pub returns-in_ok-add_directive-in-DirectiveLine : goal.returns-in_ok-add_directive-in-DirectiveLine
returns-in_ok-add_directive-in-DirectiveLine c = λ elements read.
    let rest = c.args.rest.now in
    let n = c.args.found.length in
    let made = c.in_ok-add_directive-in-DirectiveLine.ensures in
    line_read elements c.args.self.now _ rest (take (length rest - 1) (drop 1 rest)) c.args.found.kind c.in-DirectiveLine.directive n c.in-DirectiveLine.is (take_rest rest 1) read
    (c.after_text-after.ensures (bytes_of elements) read.place) refl made.macros made.declarations made.kept.1 made.includes

pub returns-in_ok-add_token-in-SingleToken : goal.returns-in_ok-add_token-in-SingleToken
returns-in_ok-add_token-in-SingleToken c = λ elements read.
    let rest = c.args.rest.now in
    let n = c.args.found.length in
    let made = c.in_ok-add_token-in-SingleToken.ensures in
    token_read elements c.args.self.now _ rest (take n rest) c.args.found.kind c.in-SingleToken.kind c.in-SingleToken.is read
    (c.after_text-after.ensures (bytes_of elements) read.place) refl made.kept.1 made.added made.includes
