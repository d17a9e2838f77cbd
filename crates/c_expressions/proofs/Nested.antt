-- What may nest in what is read, by how often.
use Rattle.std.proofs.Common.{◌≡◌, ℕ, zero, suc, ◌-◌, ◌≢◌, refl, arith}
use Rattle.c_grammar.specs.Reading.{nested, no_nested, expression_with, type_named}

pub nested-nothing : (room : ℕ) → room ≡ 0 → nested 200 room ≡ no_nested
unfolding nested
nested-nothing room none = rw none

pub nested-once : (room : ℕ) → room ≢ 0 → nested 200 room ≡ record {
  expression = expression_with 200 (nested 200 (room - 1));
  type_name = type_named (nested 200 (room - 1)).expression;
}
unfolding nested
nested-once zero some = absurd (some refl)
nested-once (suc room) some = let one : suc room - 1 ≡ room = omega arith in rw one
