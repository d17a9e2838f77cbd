-- Comments, and what may stand between the parts of a directive (C11 6.4.9, 6.10).
use Rattle.std.specs.Prelude.{◌≡◌, ◌≢◌, ℕ, ◌+◌, ◌<◌, ◌≤◌, Bool, true, ◌==◌, IsTrue, List, [], ◌∷◌, ◌++◌}
use Rattle.std.specs.Prelude.{length, slice_index, ◌⊎◌}
use Rattle.std.specs.List.{list_all}
use Rattle.c_lexer.specs.Bytes.{is_blank, is_line_byte}

-- nothing more stands on the line
abbrev pub is_line_end : List ℕ → Bool
is_line_end [] = true
is_line_end (b ∷ bs) = b == 10

-- `*/` stands at a place
abbrev pub ClosesAt : List ℕ → ℕ → Type 0
ClosesAt bytes place = (slice_index bytes place ≡ 42) × (slice_index bytes (place + 1) ≡ 47)

-- `/*`, and the bytes up to the first `*/` from the third byte on
pub record IsBlockComment (bytes : List ℕ) : Type 0 where
  pub closing : ℕ
  pub begins : (slice_index bytes 0 ≡ 47) × (slice_index bytes 1 ≡ 42)
  pub ends : length bytes ≡ closing + 2
  pub inside : 2 ≤ closing
  pub closed : ClosesAt bytes closing
  pub first : (place : ℕ) → 2 ≤ place → place < closing → ClosesAt bytes place → ⊥

-- `//`, and bytes that are no line feeds
abbrev pub IsLineComment : List ℕ → Type 0
IsLineComment bytes = (inside : List ℕ) × IsTrue (list_all is_line_byte inside) × (bytes ≡ 47 ∷ 47 ∷ inside)

-- a comment begins the bytes; the second kind goes to the line's end
abbrev pub CommentBegins : List ℕ → List ℕ → List ℕ → Type 0
CommentBegins bytes text rest = (bytes ≡ text ++ rest)
    × (IsBlockComment text ⊎ (IsLineComment text × IsTrue (is_line_end rest)))

-- a blank within the line, or a comment, begins the bytes
abbrev pub GapBegins : List ℕ → List ℕ → Type 0
GapBegins bytes rest = ((b : ℕ) × IsTrue (is_blank b) × (b ≢ 10) × (bytes ≡ b ∷ rest))
    ⊎ ((text : List ℕ) × CommentBegins bytes text rest)

-- blanks and comments begin the bytes, one behind the other: the list has what stands behind each
abbrev pub IsGap : List (List ℕ) → List ℕ → List ℕ → Type 0
IsGap [] bytes rest = bytes ≡ rest
IsGap (after ∷ afters) bytes rest = GapBegins bytes after × IsGap afters after rest

-- the rest is what stands behind all blanks and comments
abbrev pub IsBehindGap : List ℕ → List ℕ → Type 0
IsBehindGap bytes rest =
    ((afters : List (List ℕ)) × IsGap afters bytes rest) × ((after : List ℕ) → GapBegins rest after → ⊥)
