use Rattle.std.proofs.Common.{◌≤◌, ◌+◌, ◌*◌, ◌^◌, get_or, ◌∙◌, subst}
use Rattle.std.specs.Char.{digit_value}
use Rattle.c_lexer.proofs.Integers.{too_large, one_more}
use Rattle.c_lexer.proofs.integer.digits_value.Goals as goal

pub returns-in_err-value : goal.returns-in_err-value
returns-in_err-value c =
    let loop = c.loop-byte in
    let large = subst (λ r. 2 ^ 128 ≤ loop.value * r + digit_value (get_or c.args.digits.now loop.byte-index 0)) c.radix.ensures
    (subst (λ d. 2 ^ 128 ≤ loop.value * c.radix.result + d) c.digit.ensures c.in_err-value.ensures) in
    rw c.from_residual.ensures (too_large c.args.base c.args.digits.now loop.byte-index loop.value c.loop-byte-test.true loop.invariant.value large)

pub loop-byte-preserved : goal.loop-byte-preserved
loop-byte-preserved c =
    let loop = c.loop-byte in
    record {
      value = c.in_ok-value.ensures.0 ∙ (λ i. loop.value * (c.radix.ensures i) + (c.digit.ensures i))
          ∙ one_more c.args.base c.args.digits.now loop.byte-index loop.value c.loop-byte-test.true loop.invariant.value;
      small = c.in_ok-value.ensures.1;
    }
