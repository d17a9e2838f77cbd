use Rattle.std.proofs.Common.{arith, length}
use Rattle.byte_memory.proofs.EncodingLemmas.{number_below, number_fits}
use Rattle.byte_memory.proofs.value.+natural.Goals as goal

pub overflow_mul-result : goal.overflow_mul-result
overflow_mul-result t c =
    let long = c.in-Some.ensures.cases.1 in
    let fits = number_fits c.in_ok-upper.upper (length c.in-Some.rest.now) c.in_ok-upper.ensures.bound (omega arith) in
    record { fits = omega arith }

pub overflow_add-result : goal.overflow_add-result
overflow_add-result t c =
    let long = c.in-Some.ensures.cases.1 in
    let fits = number_fits c.in_ok-upper.upper (length c.in-Some.rest.now) c.in_ok-upper.ensures.bound (omega arith) in
    record { fits = omega (arith, c.in_ok-low.ensures.bound) }

pub returns-clause-bound : goal.returns-clause-bound
returns-clause-bound t c =
    let below = number_below c.in_ok-low.low c.in_ok-upper.upper (length c.in-Some.rest.now) c.in_ok-low.ensures.bound
    c.in_ok-upper.ensures.bound in
    rw (← c.in-Some.ensures.cases.1, c.from.ensures) below
