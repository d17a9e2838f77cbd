-- A function value that reads the statements nested in others (inner).
use Rattle.std.specs.Prelude.{ℕ, ◌≤◌, Result}
use Rattle.std.specs.declared.alloc.Global.{Global}
use denote.Ref.{MutBor}
use Rattle.c_syntax.specs.declared.stmt.StmtKind.{StmtKind}
use Rattle.c_grammar.specs.Depths.{kind_depth}
use Rattle.c_grammar.specs.Input.{Input}
use Rattle.c_grammar.specs.StatementReading.{kind_at}
use Rattle.c_cursor.specs.declared.deep.Deep.{Deep}
use Rattle.c_cursor.specs.declared.refusal.ParseRefusal.{ParseRefusal}
use Rattle.c_cursor.specs.Deep.{ReadsDeep}
use Rattle.c_expressions.specs.Parts.{reader}
use Rattle.c_statements.specs.declared.position.Position.{Position}
use Rattle.c_statements.specs.Parts.{position_seen}

-- it may be called wherever no more may nest than this, and reads what the reading functions read
pub record Nests (room : ℕ) (pre : Global → MutBor Input → ℕ → Position → Type 0)
    (post : Global → MutBor Input → ℕ → Position → Result (Deep StmtKind) ParseRefusal → MutBor Input → Type 0)
    : Type 0 where
  pub callable : (alloc : Global) (old : MutBor Input) (inner : ℕ) (position : Position) → inner ≤ room
      → pre alloc old inner position
  pub reads : (alloc : Global) (old new : MutBor Input) (inner : ℕ) (position : Position)
      (result : Result (Deep StmtKind) ParseRefusal) → inner ≤ room → post alloc old inner position result new
      → ReadsDeep kind_depth (kind_at (reader 200) inner (position_seen position) old.now) result new.now
