use Rattle.std.proofs.Common.{◌≡◌, true, sym, subst, ◌∙◌, pos, ◌<ℤ◌}
use Rattle.linear_certs.specs.Certificate.{constants, factors}
use Rattle.linear_certs.proofs.validity.valid.Goals as goal
use Rattle.linear_certs.proofs.validity.valid.Goals.{then-is_impossible, else-is_impossible, then-are_ascending}
use Rattle.linear_certs.proofs.validity.valid.Goals.{else-are_ascending}

pub returns-clause-judged : goal.returns-clause-judged
returns-clause-judged c =
    let sum = c.in_ok-sum.ensures.sum in
    let entries = c.as_slice-entries.ensures in (
      λ yes. elim c.if-are_ascending.branch [
        | then-are_ascending w ↦ elim c.if-is_impossible.branch [
          | then-is_impossible v ↦
              let impossible = c.is_impossible.ensures.0 v.if-is_impossible.true in
              let ascending : v.are_ascending.result ≡ true = sym v.value-is ∙ w.if-are_ascending.true in
              let multiples : w.are_multiples.result ≡ true = sym w.result-is ∙ yes in
              record {
                ascending = rw (← entries) (v.are_ascending.ensures.0 ascending);
                multiplied = rw (← entries) (w.are_multiples.ensures.0 multiples);
                no_unknown = λ unknown. sym (sum (factors unknown)) ∙ impossible.0 unknown;
                negative = subst (λ n. n <ℤ pos 0) (sum constants) impossible.1;
              }
          | else-is_impossible v ↦ absurd (cc)
        ]
        | else-are_ascending w ↦ absurd (cc)
      ],
      λ valid. elim c.if-are_ascending.branch [
        | then-are_ascending w ↦ w.result-is ∙ w.are_multiples.ensures.1 (rw entries valid.multiplied)
        | else-are_ascending w ↦ elim c.if-is_impossible.branch [
          | then-is_impossible v ↦
              let ascending = v.are_ascending.ensures.1 (rw entries valid.ascending) in absurd (cc)
          | else-is_impossible v ↦
              let impossible = c.is_impossible.ensures.1 (
                λ unknown. sum (factors unknown)
                    ∙ valid.no_unknown unknown,
                subst (λ n. n <ℤ pos 0) (sym (sum constants)) valid.negative,
              ) in
              absurd (cc)
        ]
      ],
    )
