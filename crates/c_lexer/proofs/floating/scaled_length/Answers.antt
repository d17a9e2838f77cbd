use Rattle.std.proofs.Common.{◌≡◌, ◌+◌, drop, ap, sym, ◌∙◌, subst, cond, ℕ, arith}
use Rattle.std.proofs.lemmas.Bool.{false≢true}
use Rattle.std.proofs.lemmas.List.{take_rest, drop-drop}
use Rattle.c_lexer.specs.Floating.{IsExponent}
use Rattle.c_lexer.specs.Scanning.Numbers.{IsLongest, is_suffixed}
use Rattle.c_lexer.proofs.Scaled.{fits, scaled_made, scaled_size}
use Rattle.c_lexer.proofs.floating.scaled_length.Goals as goal
use Rattle.c_lexer.proofs.floating.scaled_length.Goals.{After-exponent_length-exponent}

longest_is : (c : After-exponent_length-exponent) → IsLongest (IsExponent c.args.base) (drop c.digits_and_point-significand.result.length c.args.bytes.now) c.exponent_length-exponent.result
longest_is c = subst (λ l. IsLongest (IsExponent c.args.base) l c.exponent_length-exponent.result) (take_rest c.args.bytes.now c.digits_and_point-significand.result.length) c.exponent_length-exponent.ensures

pub returns-then-not-is_marked : goal.returns-then-not-is_marked
returns-then-not-is_marked c = (
  omega arith,
  λ positive. absurd (omega arith),
  λ front rest split scaled.
      let fit = fits c.args.base c.args.bytes.now front rest c.digits_and_point-significand.result c.exponent_length-exponent.result c.digits_and_point-significand.ensures
      (longest_is (goal.at.returns-then-not-is_marked c).After-exponent_length-exponent) split scaled.0 scaled.1 in
      absurd (false≢true (sym c.if-not-is_marked.true ∙ c.is_marked.ensures ∙ fit.marked)),
)

pub returns : goal.returns
returns c =
    let bytes = c.args.bytes.now in
    let s = c.digits_and_point-significand.result in
    let exponent = c.exponent_length-exponent.result in
    let longest = longest_is (goal.at.returns c).After-exponent_length-exponent in
    let size : c.suffix_length.result ≡ cond (is_suffixed (drop (s.length + exponent) bytes)) 1 0 =
    c.suffix_length.ensures ∙ ap {B = ℕ} (λ l. cond (is_suffixed l) 1 0) (take_rest bytes (s.length + exponent)) in
    let made = scaled_made c.args.base bytes s exponent c.suffix_length.result c.digits_and_point-significand.ensures longest (sym c.is_marked.ensures ∙ c.if-not-is_marked.false)
    (size ∙ ap {B = ℕ} (λ l. cond (is_suffixed l) 1 0) (sym (drop-drop exponent s.length bytes))) in (
      made.0,
      λ _. made.1,
      λ front rest split scaled.
          scaled_size c.args.base bytes front s exponent c.suffix_length.result
          (fits c.args.base bytes front rest s exponent c.digits_and_point-significand.ensures longest split scaled.0 scaled.1) size,
    )
