use Rattle.c_lexer.proofs.Numbers.{plain_is_decimal, no_plain, no_integer}
use Rattle.c_lexer.specs.Integers.{IsInteger}
use Rattle.std.proofs.Common.{subst}
use Rattle.c_lexer.proofs.number.integer_constant.Goals as goal

pub returns-in_err-constant-clause-none : goal.returns-in_err-constant-clause-none
returns-in_err-constant-clause-none c = rw c.from_residual.ensures (λ value small same. no_integer c.args.spelling.now c.in_err-constant.ensures.none value small same)

pub returns-in_err-value-clause-none : goal.returns-in_err-value-clause-none
returns-in_err-value-clause-none c =
    rw c.from_residual-in_err-value.ensures (λ value small same. no_plain c.args.spelling.now c.in_ok-constant.constant c.in_ok-constant.ensures.found c.in_err-value.ensures value small same)

pub returns-clause-found : goal.returns-clause-found
returns-clause-found c =
    let plain = c.in_ok-value.ensures in
    let is = subst (λ constant. IsInteger constant c.args.spelling.now) plain.0 c.in_ok-constant.ensures.found in
    (plain.1, plain_is_decimal c.in_ok-value.value c.args.spelling.now is plain.1)
