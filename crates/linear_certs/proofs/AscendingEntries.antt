-- What `is_sorted_by` says of the entries' rows.
use Rattle.std.proofs.Common.{◌≡◌, ℕ, ◌+◌, ◌<◌, Bool, true, false, nat_lt, IsTrue, ◌↔◌, List, map, length, get_or}
use Rattle.std.proofs.Common.{pos, refl, sym, ◌∙◌, arith}
use Rattle.std.specs.List.{IsAllAdjacentAnswer}
use Rattle.std.specs.List.Sorted.{IsStrictlyIncreasing}
use Rattle.std.proofs.lemmas.List.{get_or-map, length-map}
use Rattle.std.proofs.lemmas.Bool.{ltb-true, lt-ltb}
use Rattle.rc_terms.specs.declared.cert.CertEntry.{CertEntry}

-- stands for an entry past the end
no_entry : CertEntry
no_entry = record { row = 0; multiplier = pos 0 }

-- the row of an entry
row_at : (es : List CertEntry) (i : ℕ) (d : CertEntry) → i < length es
    → get_or (map (λ entry. entry.row) es) i 0 ≡ (get_or es i d).row
row_at es i d within = get_or-map (λ (entry : CertEntry). entry.row) es i d 0 within

pub ascending_when_sorted : (es : List CertEntry) (r : Bool)
    → IsAllAdjacentAnswer (λ x y b. b ≡ nat_lt x.row y.row) es r
    → IsTrue r ↔ IsStrictlyIncreasing (map (λ entry. entry.row) es)
ascending_when_sorted es true answer = (
  λ _ k within.
      let same : length (map (λ entry. entry.row) es) ≡ length es = length-map es (λ (entry : CertEntry). entry.row) in
      let less : (get_or es k no_entry).row < (get_or es (k + 1) no_entry).row =
      ltb-true _ _ (sym (answer k no_entry (omega arith))) in
      rw (row_at es k no_entry (omega arith), row_at es (k + 1) no_entry (omega arith)) less,
  λ _. refl,
)
ascending_when_sorted es false answer = (
  λ e. absurd (cc),
  λ ascending.
      let same : length (map (λ entry. entry.row) es) ≡ length es = length-map es (λ (entry : CertEntry). entry.row) in
      let k = answer.0 in
      let rises = rw (row_at es k no_entry (omega arith), row_at es (k + 1) no_entry (omega arith)) at
      (ascending k (omega (arith, answer.1))) in
      answer.2 no_entry ∙ lt-ltb _ _ rises,
)
