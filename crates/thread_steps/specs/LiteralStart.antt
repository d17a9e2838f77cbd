-- The starts of a program whose one function returns one literal (this project's own).
use Rattle.std.specs.Prelude.{ℕ, ◌≡◌, List, Some, pos}
use Rattle.layouts.specs.declared.int_type.IntType.TheVariants.{Int}
use Rattle.byte_memory.specs.Encoding.{enc}
use Rattle.thread_steps.specs.Start.{Start}

-- it calls the function, and is to return the literal as an `int`
pub record IsLiteralStart (name : List ℕ) (literal : ℕ) (start : Start) : Type 0 where
  pub calls : start.function ≡ name
  pub answers : start.returns ≡ Some (enc Int (pos literal))
