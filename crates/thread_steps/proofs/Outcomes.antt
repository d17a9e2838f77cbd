-- That a result is one of two things.
use Rattle.std.proofs.Common.{◌≡◌, ◌⊎◌, inl, inr, Ok, Err, refl}
use Rattle.std.specs.Prelude.{Result}

pub ok_or_err : {A E : Type 0} (r : Result A E) → ((x : A) × (r ≡ Ok x)) ⊎ ((e : E) × (r ≡ Err e))
ok_or_err (Ok x) = inl (x, refl)
ok_or_err (Err e) = inr (e, refl)
