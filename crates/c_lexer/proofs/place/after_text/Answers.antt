use Rattle.std.proofs.Common.{◌++◌, [], ◌∷◌, get_or, take, sym, ap, ◌∙◌, append_assoc, arith}
use Rattle.std.proofs.lemmas.List.{take_more, take_all}
use Rattle.rc_text.specs.Places.{place_after}
use Rattle.c_lexer.proofs.place.after_text.Goals as goal

pub loop-byte-preserved : goal.loop-byte-preserved
loop-byte-preserved c =
    let i = c.loop-byte.byte-index in
    let text = c.args.text.now in
    let more = c.after_byte-after.ensures in
    record {
      byte = omega (arith, more.byte, c.loop-byte.invariant.byte);
      line = omega (arith, more.line, more.byte, c.loop-byte.invariant.line);
      column = omega (arith, more.column, more.byte, c.loop-byte.invariant.column);
      after = λ before here.
          more.after (before ++ take i text) (c.loop-byte.invariant.after before here)
          ∙ ap place_after (append_assoc before (take i text) (get_or text i 0 ∷ []) ∙ ap (λ l. before ++ l) (sym (take_more text i 0 c.loop-byte-test.true)));
    }

pub returns : goal.returns
returns c = λ before here.
    c.loop-byte.invariant.after before here ∙ ap (λ l. place_after (before ++ l)) (take_all c.loop-byte.byte-index c.args.text.now (omega arith))
