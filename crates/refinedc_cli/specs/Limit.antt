-- The limits: how many there may be of what, and what a text calls it (this project's own).
use Rattle.std.specs.Prelude.{ℕ, List, codes}
use Rattle.c_lexer.specs.Files.{token_limit}
use Rattle.refinedc_cli.specs.declared.limit.Limit.{Limit}
use Rattle.refinedc_cli.specs.declared.limit.Limit.TheVariants.{FileBytes, Tokens, Depth}

-- how many there may be
abbrev pub limit_number : Limit → ℕ
limit_number FileBytes = 1048576
limit_number Tokens = token_limit
limit_number Depth = 200

-- of what
abbrev pub limit_name : Limit → List ℕ
limit_name FileBytes = codes "file bytes"
limit_name Tokens = codes "tokens"
limit_name Depth = codes "depth"
