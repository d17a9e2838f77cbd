-- A running sum over the first few entries, one more at a time.
use Rattle.std.proofs.Common.{◌≡◌, ℕ, zero, suc, ◌+◌, ◌<◌, ◌≤◌, ◌^◌, List, [], ◌∷◌, length, get_or, take}
use Rattle.std.proofs.Common.{unsigned_abs}
use Rattle.std.proofs.Common.{pos, ◌+ℤ◌, sym, ap, ◌∙◌, subst, ⊎_elim, add-one, arith}
use Rattle.std.proofs.lemmas.Bool.{cases_lt}
use lib.IntN.{+ℤ_comm, +ℤ_assoc}
use Rattle.rc_terms.specs.declared.cert.Cert.{Cert}
use Rattle.rc_terms.specs.declared.cert.CertEntry.{CertEntry}
use Rattle.linear_certs.specs.declared.sum.Sum.{Sum}
use Rattle.linear_certs.specs.declared.row.Row.{Row}
use Rattle.linear_certs.specs.Certificate.{Column, multiple_in, sum_in, IsWide, PassesWidth}
use Rattle.linear_certs.specs.Sum.{running_number, IsNarrow}

-- the sum is that of the first few entries, and neither it nor that of fewer has a wide number
pub record IsPartialSum (sum : Sum) (rows : List Row) (es : List CertEntry) (count : ℕ) : Type 0 where
  pub numbers : (column : Column) → running_number column sum ≡ sum_in column rows (take count es)
  pub narrow : IsNarrow sum
  pub narrow_before : (fewer : ℕ) (column : Column) → fewer ≤ count
      → unsigned_abs (sum_in column rows (take fewer es)) ≤ 2 ^ 120

-- one entry more
pub sum_in-more : (column : Column) (rows : List Row) (es : List CertEntry) (i : ℕ) (d : CertEntry) → i < length es
    → sum_in column rows (take (suc i) es) ≡ sum_in column rows (take i es) +ℤ multiple_in column rows (get_or es i d)
sum_in-more column rows [] i d within = absurd (omega arith)
sum_in-more column rows (e ∷ es) zero d within = +ℤ_comm (multiple_in column rows e) (pos 0)
sum_in-more column rows (e ∷ es) (suc i) d within =
    ap (λ s. multiple_in column rows e +ℤ s) (sum_in-more column rows es i d (omega arith))
    ∙ sym (+ℤ_assoc (multiple_in column rows e) (sum_in column rows (take i es))
    (multiple_in column rows (get_or es i d)))

same_count : (n k : ℕ) → k ≤ n → n ≤ k → n ≡ k
same_count n k below above = omega arith

-- the sum after an entry, where what it adds is known column by column
pub more_sum : (old new : Sum) (rows : List Row) (es : List CertEntry) (i : ℕ) (d : CertEntry) → i < length es
    → IsPartialSum old rows es i → IsNarrow new
    → ((column : Column)
    → running_number column new ≡ running_number column old +ℤ multiple_in column rows (get_or es i d))
    → IsPartialSum new rows es (i + 1)
more_sum old new rows es i d within is narrow adds =
    record { numbers = numbers; narrow = narrow; narrow_before = narrow_before }
  where
    numbers : (column : Column) → running_number column new ≡ sum_in column rows (take (i + 1) es)
    numbers column =
        adds column ∙ ap (λ n. n +ℤ multiple_in column rows (get_or es i d)) (is.numbers column)
        ∙ sym (ap (λ k. sum_in column rows (take k es)) (add-one i) ∙ sum_in-more column rows es i d within)

    narrow_before : (fewer : ℕ) (column : Column) → fewer ≤ i + 1
        → unsigned_abs (sum_in column rows (take fewer es)) ≤ 2 ^ 120
    narrow_before fewer column few =
        ⊎_elim
        (λ (less : fewer < i + 1). is.narrow_before fewer column (omega arith))
        (λ (all : i + 1 ≤ fewer). subst (λ k. unsigned_abs (sum_in column rows (take k es)) ≤ 2 ^ 120)
        (same_count (i + 1) fewer few all) (subst (λ n. unsigned_abs n ≤ 2 ^ 120) (numbers column) (narrow column)))
        (cases_lt fewer (i + 1))

-- it is passed where a row's multiple would make the sum too wide
pub past_width : (sum : Sum) (rows : List Row) (cert : Cert) (i : ℕ) (d : CertEntry) → i < length cert.entries
    → IsPartialSum sum rows cert.entries i
    → (column : Column) × IsWide (running_number column sum +ℤ multiple_in column rows (get_or cert.entries i d))
    → PassesWidth rows cert
past_width sum rows cert i d within is wide =
    let entry = get_or cert.entries i d in (
      suc i,
      wide.0,
      subst IsWide
          (ap (λ n. n +ℤ multiple_in wide.0 rows entry) (is.numbers wide.0)
          ∙ sym (sum_in-more wide.0 rows cert.entries i d within))
          wide.1,
    )
