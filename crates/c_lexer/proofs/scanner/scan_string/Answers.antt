use Rattle.std.proofs.Common.{◌≡◌, ◌+◌, drop, ap, ◌∙◌, arith}
use Rattle.std.specs.List.{prefix_len}
use Rattle.std.proofs.lemmas.List.{take_rest, length-drop}
use Rattle.std.proofs.lemmas.List.Sums.{prefix_len-le-length}
use Rattle.c_lexer.specs.Bytes.{is_string_byte}
use Rattle.c_lexer.proofs.ScanQuotes.{string_scanned, no_string_begins}
use Rattle.c_lexer.proofs.scanner.scan_string.Goals as goal
use Rattle.c_lexer.proofs.scanner.scan_string.Goals.{After-inside_length-closing, else-closing-bytes-via-then-closing-bytes+else-bytes-closing-eq34, else-closing-bytes-via-else-closing-bytes}

inside_is : (c : After-inside_length-closing) → c.inside_length-closing.result ≡ prefix_len is_string_byte (drop 1 c.args.bytes.now)
inside_is c = c.inside_length-closing.ensures ∙ ap (prefix_len is_string_byte) (take_rest c.args.bytes.now 1)

pub overflow_add-closing : goal.overflow_add-closing
overflow_add-closing c =
    omega (arith, inside_is c, prefix_len-le-length is_string_byte (drop 1 c.args.bytes.now), length-drop 1 c.args.bytes.now, c.requires.some)

pub returns-then-bytes-closing-eq34 : goal.returns-then-bytes-closing-eq34
returns-then-bytes-closing-eq34 c =
    let closing_is = ap (λ n. n + 1) (inside_is (goal.at.returns-then-bytes-closing-eq34 c).After-inside_length-closing) in
    string_scanned c.args.bytes.now (c.inside_length-closing.result + 1) c.requires.some c.requires.quote closing_is c.if-closing-bytes.true c.if-bytes-closing-eq34.true

pub returns-else-closing-bytes : goal.returns-else-closing-bytes
returns-else-closing-bytes c =
    let closing_is = ap (λ n. n + 1) (inside_is (goal.at.returns-else-closing-bytes c).After-inside_length-closing) in
    no_string_begins c.args.bytes.now (c.inside_length-closing.result + 1) c.requires.some c.requires.quote closing_is
    (λ closed quote.
    elim c.else-closing-bytes.branch [
      | else-closing-bytes-via-then-closing-bytes+else-bytes-closing-eq34 w ↦ w.if-bytes-closing-eq34.false quote
      | else-closing-bytes-via-else-closing-bytes w ↦ omega (arith, w.if-closing-bytes.false)
    ])
