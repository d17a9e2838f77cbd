use Rattle.std.proofs.Common.{◌≡◌, ◌-◌, refl, length, take, drop, sym, ap, ◌∙◌, arith, ℕ, List}
use Rattle.std.specs.List.{prefix_len, list_all}
use Rattle.std.specs.Str.Parse.{digits_value}
use Rattle.std.proofs.lemmas.List.{take_rest}
use Rattle.c_lexer.specs.Integers.{radix, is_digit_of, suffix_of}
use Rattle.c_lexer.proofs.Lists.{list_all-take_prefix}
use Rattle.c_lexer.proofs.Lexemes.{none_is_no_suffix}
use Rattle.c_lexer.proofs.Integers.{integer_has, integer_found}
use Rattle.c_lexer.proofs.integer.integer.Goals as goal
use Rattle.c_lexer.proofs.integer.integer.Goals.{After-digits_length-count}

count_is : (c : After-digits_length-count) → c.digits_length-count.result ≡ prefix_len (is_digit_of c.base_of-base.result.0) (drop c.base_of-base.result.1 c.args.word.now)
count_is c = c.digits_length-count.ensures.length ∙ ap (prefix_len (is_digit_of c.base_of-base.result.0)) (take_rest c.args.word.now c.base_of-base.result.1)

pub returns-then-count-eq0-clause-none : goal.returns-then-count-eq0-clause-none
returns-then-count-eq0-clause-none c = λ constant is.
    let has = integer_has c.args.word.now c.base_of-base.result.0 c.base_of-base.result.1 c.digits_length-count.result c.base_of-base.ensures.base (count_is (goal.at.returns-then-count-eq0-clause-none c).After-digits_length-count) constant is in
    omega (arith, has.some, c.if-count-eq0.true)

-- what stands behind the digits
rest_of_rest : (word : List ℕ) (start count : ℕ) → let rest = take (length word - start) (drop start word) in take (length rest - count) (drop count rest) ≡ drop count (drop start word)
rest_of_rest word start count = take_rest (take (length word - start) (drop start word)) count ∙ ap (drop count) (take_rest word start)

pub returns-in_err-suffix-clause-none : goal.returns-in_err-suffix-clause-none
returns-in_err-suffix-clause-none c =
    rw c.from_residual.ensures (λ constant is.
    let has = integer_has c.args.word.now c.base_of-base.result.0 c.base_of-base.result.1 c.digits_length-count.result c.base_of-base.ensures.base (count_is (goal.at.returns-in_err-suffix-clause-none c).After-digits_length-count) constant is in
    none_is_no_suffix (c.in_err-suffix.ensures ∙ ap suffix_of (rest_of_rest c.args.word.now c.base_of-base.result.1 c.digits_length-count.result) ∙ has.suffix))

pub digits_value-requires : goal.digits_value-requires
digits_value-requires c =
    let p = is_digit_of c.base_of-base.result.0 in
    let word = c.args.word.now in
    let start = c.base_of-base.result.1 in
    ap (λ l. list_all p (take c.digits_length-count.result l)) (take_rest word start)
    ∙ ap (λ k. list_all p (take k (drop start word))) (count_is (goal.at.digits_value-requires c).After-digits_length-count) ∙ list_all-take_prefix p (drop start word)

pub returns-in_err-value-clause-none : goal.returns-in_err-value-clause-none
returns-in_err-value-clause-none c =
    rw c.from_residual-in_err-value.ensures (λ constant is.
    let word = c.args.word.now in
    let start = c.base_of-base.result.1 in
    let base = c.base_of-base.result.0 in
    let count = c.digits_length-count.result in
    let has = integer_has word base start count c.base_of-base.ensures.base (count_is (goal.at.returns-in_err-value-clause-none c).After-digits_length-count) constant is in
    let same = ap (λ l. digits_value (radix base) (take count l)) (take_rest word start) in
    omega (arith, has.small, same, c.in_err-value.ensures))

pub returns-clause-found : goal.returns-clause-found
returns-clause-found c =
    let word = c.args.word.now in
    let start = c.base_of-base.result.1 in
    let base = c.base_of-base.result.0 in
    let count = c.digits_length-count.result in
    integer_found word base start count c.base_of-base.ensures.base (count_is (goal.at.returns-clause-found c).After-digits_length-count)
    (record { value = c.in_ok-value.value; base = base; suffix = c.in_ok-suffix.suffix }) refl (omega (arith, c.if-count-eq0.false))
    (sym (ap suffix_of (rest_of_rest word start count)) ∙ sym c.in_ok-suffix.ensures)
    (c.in_ok-value.ensures.0 ∙ ap (λ l. digits_value (radix base) (take count l)) (take_rest word start)) c.in_ok-value.ensures.1
