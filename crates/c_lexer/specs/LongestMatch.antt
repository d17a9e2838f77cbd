-- Which token begins some bytes, by longest match (C11 6.4, paragraph 4).
use Rattle.std.specs.Prelude.{◌≡◌, ℕ, ◌≤◌, List, ◌++◌, length}
use Rattle.c_lexer.specs.declared.token.TokenKind.{TokenKind}
use Rattle.c_lexer.specs.Spelling.{Spells, IsLexeme}

-- a token of the kind begins the bytes: its spelling, and the bytes after it
pub record Begins (bytes : List ℕ) (kind : TokenKind) (spelling rest : List ℕ) : Type 0 where
  pub front : bytes ≡ spelling ++ rest
  pub spelled : Spells kind spelling
  pub longest : (other others : List ℕ) → bytes ≡ other ++ others → IsLexeme other → length other ≤ length spelling
