use Rattle.std.proofs.Common.{◌≡◌, not, ap, rules, FitsSigned, Ok}
use Rattle.std.proofs.Common.{pos, neg_ℤ, ◌+ℤ◌, ◌-ℤ◌}
use Rattle.std.proofs.lemmas.Int.{to_z-of_z}
use Rattle.std.specs.Prelude.{int_lt, int_le}
use Rattle.std.specs.Int.{w128}
use Rattle.std.specs.Ordering.{int_eq}
use Rattle.int_ops.specs.Arithmetic.{wrapped, truth}
use Rattle.int_ops.proofs.Ranges.{IsSmall, small, neg_fits, zero_less, compl_fits, add_fits, sub_fits}
use Rattle.int_ops.proofs.Ranges.{truth_value, truth_in_range}
use Rattle.int_ops.proofs.arithmetic.apply.Goals as goal

pub returns-in-Neg-clause-value : goal.returns-in-Neg-clause-value
returns-in-Neg-clause-value c =
    let a : IsSmall c.args.a = small c.args.t c.args.a c.requires.left in
    rw c.in-Neg.is
    (rw (
      to_z-of_z w128 c.args.a c.ranges.a,
      to_z-of_z w128 (pos 0 -ℤ c.args.a) (neg_fits c.args.a a),
      zero_less c.args.a,
    ) at c.fitted.ensures.value)

pub returns-in-Add-clause-value : goal.returns-in-Add-clause-value
returns-in-Add-clause-value c =
    let a : IsSmall c.args.a = small c.args.t c.args.a c.requires.left in
    let b : IsSmall c.args.b = small c.args.t c.args.b (rw c.in-Add.is at c.requires.right) in
    rw c.in-Add.is
    (rw (
      to_z-of_z w128 c.args.a c.ranges.a,
      to_z-of_z w128 c.args.b c.ranges.b,
      to_z-of_z w128 (c.args.a +ℤ c.args.b) (add_fits c.args.a c.args.b a b),
    ) at c.fitted-in-Add.ensures.value)

pub returns-in-Sub-clause-value : goal.returns-in-Sub-clause-value
returns-in-Sub-clause-value c =
    let a : IsSmall c.args.a = small c.args.t c.args.a c.requires.left in
    let b : IsSmall c.args.b = small c.args.t c.args.b (rw c.in-Sub.is at c.requires.right) in
    rw c.in-Sub.is
    (rw (
      to_z-of_z w128 c.args.a c.ranges.a,
      to_z-of_z w128 c.args.b c.ranges.b,
      to_z-of_z w128 (c.args.a -ℤ c.args.b) (sub_fits c.args.a c.args.b a b),
    ) at c.fitted-in-Sub.ensures.value)

pub returns-in-Compl-clause-value : goal.returns-in-Compl-clause-value
returns-in-Compl-clause-value c =
    let a : IsSmall c.args.a = small c.args.t c.args.a c.requires.left in
    let fits : FitsSigned w128 c.convert.result = search rules in
    let value : c.convert.result ≡ wrapped c.args.t (neg_ℤ c.args.a -ℤ pos 1) =
    rw (
      to_z-of_z w128 c.args.a c.ranges.a,
      to_z-of_z w128 (pos 0 -ℤ c.args.a) (neg_fits c.args.a a),
      zero_less c.args.a,
      to_z-of_z w128 (neg_ℤ c.args.a -ℤ pos 1) (compl_fits c.args.a a),
    )
    at c.convert.ensures.value
    in
    rw (c.in-Compl.is, to_z-of_z w128 c.convert.result fits) (ap Ok value)

pub returns-in-Eq-clause-value : goal.returns-in-Eq-clause-value
returns-in-Eq-clause-value c =
    let value : c.truth.result ≡ truth (int_eq c.args.a c.args.b) =
    search rules
    in
    rw c.in-Eq.is (ap Ok (truth_value _ _ value))

pub returns-in-Ne-clause-value : goal.returns-in-Ne-clause-value
returns-in-Ne-clause-value c =
    let value : c.truth-in-Ne.result ≡ truth (not (int_eq c.args.a c.args.b)) =
    search rules
    in
    rw c.in-Ne.is (ap Ok (truth_value _ _ value))

pub returns-in-Lt-clause-value : goal.returns-in-Lt-clause-value
returns-in-Lt-clause-value c =
    let value : c.truth-in-Lt.result ≡ truth (int_lt c.args.a c.args.b) =
    rw (to_z-of_z w128 c.args.a c.ranges.a, to_z-of_z w128 c.args.b c.ranges.b) at c.truth-in-Lt.ensures
    in
    rw c.in-Lt.is (ap Ok (truth_value _ _ value))

pub returns-in-Lt-clause-in_range : goal.returns-in-Lt-clause-in_range
returns-in-Lt-clause-in_range c = rw c.in-Lt.is (truth_in_range _ _ c.truth-in-Lt.ensures)

pub returns-in-Le-clause-value : goal.returns-in-Le-clause-value
returns-in-Le-clause-value c =
    let value : c.truth-in-Le.result ≡ truth (int_le c.args.a c.args.b) =
    rw (to_z-of_z w128 c.args.a c.ranges.a, to_z-of_z w128 c.args.b c.ranges.b) at c.truth-in-Le.ensures
    in
    rw c.in-Le.is (ap Ok (truth_value _ _ value))

pub returns-in-Le-clause-in_range : goal.returns-in-Le-clause-in_range
returns-in-Le-clause-in_range c = rw c.in-Le.is (truth_in_range _ _ c.truth-in-Le.ensures)

pub returns-in-Gt-clause-value : goal.returns-in-Gt-clause-value
returns-in-Gt-clause-value c =
    let value : c.truth-in-Gt.result ≡ truth (int_lt c.args.b c.args.a) =
    rw (to_z-of_z w128 c.args.a c.ranges.a, to_z-of_z w128 c.args.b c.ranges.b) at c.truth-in-Gt.ensures
    in
    rw c.in-Gt.is (ap Ok (truth_value _ _ value))

pub returns-in-Gt-clause-in_range : goal.returns-in-Gt-clause-in_range
returns-in-Gt-clause-in_range c = rw c.in-Gt.is (truth_in_range _ _ c.truth-in-Gt.ensures)

pub returns-in-Ge-clause-value : goal.returns-in-Ge-clause-value
returns-in-Ge-clause-value c =
    let value : c.truth-in-Ge.result ≡ truth (int_le c.args.b c.args.a) =
    rw (to_z-of_z w128 c.args.a c.ranges.a, to_z-of_z w128 c.args.b c.ranges.b) at c.truth-in-Ge.ensures
    in
    rw c.in-Ge.is (ap Ok (truth_value _ _ value))

pub returns-in-Ge-clause-in_range : goal.returns-in-Ge-clause-in_range
returns-in-Ge-clause-in_range c = rw c.in-Ge.is (truth_in_range _ _ c.truth-in-Ge.ensures)
