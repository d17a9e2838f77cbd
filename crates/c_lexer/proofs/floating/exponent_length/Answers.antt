use Rattle.std.proofs.Common.{◌≡◌, ◌≤◌, ◌+◌, length, drop, ap, sym, ◌∙◌, subst, arith}
use Rattle.std.specs.List.{prefix_len}
use Rattle.std.proofs.lemmas.Bool.{false≢true}
use Rattle.std.proofs.lemmas.List.{take_rest}
use Rattle.c_lexer.specs.Bytes.{is_digit}
use Rattle.c_lexer.specs.Floating.{IsExponent}
use Rattle.c_lexer.specs.Scanning.Numbers.{IsLongest}
use Rattle.c_lexer.proofs.Floats.{exponent_start, exponent_found, no_exponent}
use Rattle.c_lexer.proofs.floating.exponent_length.Goals as goal
use Rattle.c_lexer.proofs.floating.exponent_length.Goals.{After-digits_length-digits}

size_is : (c : After-digits_length-digits) → c.digits_length-digits.result ≡ prefix_len is_digit (drop (exponent_start c.args.bytes.now) c.args.bytes.now)
size_is c = c.digits_length-digits.ensures.length ∙ ap (prefix_len is_digit) (take_rest c.args.bytes.now c.exponent_start-start.result) ∙ ap (λ n. prefix_len is_digit (drop n c.args.bytes.now)) c.exponent_start-start.ensures.start

pub returns-then-not-is_exponent_mark : goal.returns-then-not-is_exponent_mark
returns-then-not-is_exponent_mark c = no_exponent c.args.base c.args.bytes.now (λ mark some. false≢true (sym c.if-not-is_exponent_mark.true ∙ c.is_exponent_mark.ensures ∙ mark))

pub returns-then-digits-eq0 : goal.returns-then-digits-eq0
returns-then-digits-eq0 c =
    no_exponent c.args.base c.args.bytes.now (λ mark some. omega (arith, some, size_is (goal.at.returns-then-digits-eq0 c).After-digits_length-digits, c.if-digits-eq0.true))

pub returns-else-digits-eq0 : goal.returns-else-digits-eq0
returns-else-digits-eq0 c =
    let bytes = c.args.bytes.now in
    let start = c.exponent_start-start.ensures.start in
    subst (λ n. IsLongest (IsExponent c.args.base) bytes (n + c.digits_length-digits.result)) (sym start)
    (exponent_found c.args.base bytes c.digits_length-digits.result (sym c.is_exponent_mark.ensures ∙ c.if-not-is_exponent_mark.false) (omega arith)
    (subst (λ n. n ≤ length bytes) start c.exponent_start-start.ensures.within) (size_is (goal.at.returns-else-digits-eq0 c).After-digits_length-digits) (omega (arith, c.if-digits-eq0.false)))
