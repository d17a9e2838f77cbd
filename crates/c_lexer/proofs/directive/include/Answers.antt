use Rattle.std.proofs.Common.{◌+◌, ap, length, arith, take, drop, ◌-◌}
use Rattle.std.proofs.lemmas.List.{take_rest, length-drop, length-append}
use Rattle.c_lexer.specs.Headers.{header_text}
use Rattle.c_lexer.proofs.DirectiveLaws.{header_line, header_front}
use Rattle.c_lexer.proofs.DirectiveScans.{no_header_end}
use Rattle.c_lexer.proofs.directive.include.Goals as goal

pub returns-in-Some-line_end : goal.returns-in-Some-line_end
returns-in-Some-line_end c =
    let bytes = c.args.bytes.now in
    let start = c.whole_gap-start.result in
    let n = c.length.result in
    let front = c.in-Some.ensures.found in
    let tail = take_rest bytes (start + n) in
    let rest = take_rest bytes start in (
      omega (arith, c.in-Some-line_end.ensures.0, ap length tail, length-drop (start + n) bytes, ap length rest, length-drop start bytes, ap length front.1, length-append (header_text c.in-Some.header) front.0, c.length.ensures, c.whole_gap-start.ensures.within),
      header_line bytes (take (length bytes - start) (drop start bytes)) start c.whole_gap-start.ensures.behind rest c.in-Some.header front.0 n _ front.1 c.length.ensures tail c.in-Some-line_end.last c.in-Some-line_end.ensures.1,
    )

pub returns-in-None-line_end : goal.returns-in-None-line_end
returns-in-None-line_end c =
    let bytes = c.args.bytes.now in
    let start = c.whole_gap-start.result in
    let front = c.in-Some.ensures.found in
    no_header_end bytes _ c.in-Some.header start (take (length bytes - start) (drop start bytes)) front.0 c.length.result c.whole_gap-start.ensures.behind (take_rest bytes start) front.1 c.length.ensures (take_rest bytes (start + c.length.result)) c.in-None-line_end.ensures

pub returns-in-None : goal.returns-in-None
returns-in-None c = λ header rest line.
    let bytes = c.args.bytes.now in
    let start = c.whole_gap-start.result in
    let found = header_front bytes (take (length bytes - start) (drop start bytes)) start c.whole_gap-start.ensures.behind (take_rest bytes start) header rest line in
    c.in-None.ensures.none header found.0 found.1
