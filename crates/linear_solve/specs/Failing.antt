-- What a row without unknowns that fails gives: a certificate.
use Rattle.std.specs.Prelude.{ℕ, List, map, ℤ, pos, negsuc, ◌*ℤ◌, int_lt, if◌then◌else◌}
use Rattle.std.specs.FinMap.{entries}
use Rattle.rc_terms.specs.declared.cert.Cert.{Cert}
use Rattle.linear_solve.specs.declared.derived.Derived.{Derived}
use Rattle.linear_solve.specs.Numbers.{shared_divisor, quotients}

-- the sign by which a failing row's constant becomes negative: -1 for an equation whose constant is above 0
abbrev pub direction : ℤ → ℤ
direction constant = if int_lt (pos 0) constant then negsuc 0 else pos 1

-- the multipliers without a common divisor
abbrev pub lowest_multipliers : Derived → List (ℕ × ℤ)
lowest_multipliers derived =
    quotients (shared_divisor (pos 0) (entries derived.multipliers)) (entries derived.multipliers)

-- the certificate that a failing row gives
abbrev pub certificate_of : Derived → Cert
certificate_of derived =
    record {
      entries = map
          (λ entry. record { row = entry.0; multiplier = direction derived.row.constant *ℤ entry.1 })
          (lowest_multipliers derived);
    }
