-- What a read or a write answers. This project's own.
use Rattle.std.specs.Prelude.{ℕ}
use Rattle.rc_text.specs.declared.answer.Got.{Got}
use Rattle.rc_text.specs.declared.answer.Got.TheVariants.{Count, Failed}

-- P holds of the count, if the call didn't fail
abbrev pub IfCount : Got → (ℕ → Type 0) → Type 0
IfCount (Count count) P = P count
IfCount Failed P = Unit {0}
