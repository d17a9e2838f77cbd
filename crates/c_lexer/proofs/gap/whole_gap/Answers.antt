use Rattle.std.proofs.Common.{◌+◌, ◌-◌, [], ◌∷◌, ◌++◌, length, take, drop, sym, ap, ◌∙◌, subst, arith, ◌≡◌, List, ℕ}
use Rattle.std.proofs.lemmas.List.{take_rest, drop-drop, length-drop}
use Rattle.c_lexer.specs.Comments.{GapBegins}
use Rattle.c_lexer.proofs.Gaps.{gap_more}
use Rattle.c_lexer.proofs.gap.whole_gap.Goals as goal

pub loop-length-preserved : goal.loop-length-preserved
loop-length-preserved c =
    let bytes = c.args.bytes.now in
    let at = c.loop-length.at in
    let n = c.in-Some.length in
    let found = c.in-Some.ensures in
    let rest = take_rest bytes at in
    let back : drop n (take (length bytes - at) (drop at bytes)) ≡ drop (at + n) bytes = ap (drop n) rest ∙ drop-drop n at bytes in
    record {
      within = omega (arith, found.1, ap length rest, length-drop at bytes, c.loop-length.invariant.within);
      passed = (
        c.loop-length.invariant.passed.0 ++ drop (at + n) bytes ∷ [],
        gap_more c.loop-length.invariant.passed.0 bytes (drop at bytes) (drop (at + n) bytes) c.loop-length.invariant.passed.1
            (subst (λ l. GapBegins l (drop (at + n) bytes)) rest (subst (GapBegins (take (length bytes - at) (drop at bytes))) back found.2)),
      );
    }

take_rest_back : (bytes : List ℕ) (at : ℕ) → drop at bytes ≡ take (length bytes - at) (drop at bytes)
take_rest_back bytes at = sym (take_rest bytes at)

pub returns-clause-behind : goal.returns-clause-behind
returns-clause-behind c =
    let bytes = c.args.bytes.now in
    let at = c.loop-length.at in
    (c.loop-length.invariant.passed, λ after piece. c.in_default.ensures after (subst (λ l. GapBegins l after) (take_rest_back bytes at) piece))
