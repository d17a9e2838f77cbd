-- A function value that reads the expressions nested in others (inner).
use Rattle.std.specs.Prelude.{ℕ, ◌≤◌, Result}
use Rattle.std.specs.declared.alloc.Global.{Global}
use denote.Ref.{MutBor}
use Rattle.c_syntax.specs.declared.expr.Expr.{Expr}
use Rattle.c_syntax.specs.Depth.{expression_depth}
use Rattle.c_grammar.specs.Input.{Input}
use Rattle.c_cursor.specs.declared.deep.Deep.{Deep}
use Rattle.c_cursor.specs.declared.refusal.ParseRefusal.{ParseRefusal}
use Rattle.c_cursor.specs.Deep.{ReadsDeep}
use Rattle.c_expressions.specs.Parts.{reader}

-- it may be called wherever no more may nest than this, and reads what the reading functions read
pub record Nests (room : ℕ) (pre : Global → MutBor Input → ℕ → ℕ → Type 0)
    (post : Global → MutBor Input → ℕ → ℕ → Result (Deep Expr) ParseRefusal → MutBor Input → Type 0) : Type 0 where
  pub callable : (alloc : Global) (old : MutBor Input) (inner level : ℕ) → inner ≤ room → pre alloc old inner level
  pub reads : (alloc : Global) (old new : MutBor Input) (inner level : ℕ) (result : Result (Deep Expr) ParseRefusal)
      → inner ≤ room → post alloc old inner level result new
      → ReadsDeep expression_depth (reader inner level old.now) result new.now
