-- What is found of comments and blanks at the front of some bytes.
use Rattle.std.specs.Prelude.{ℕ, ◌<◌, ◌≤◌, Bool, true, List, [], ◌∷◌, length, take, drop, Option, Some, None}
use Rattle.c_lexer.specs.Bytes.{is_blank}
use Rattle.c_lexer.specs.Comments.{CommentBegins, GapBegins}

-- the comment that begins the bytes, by its length
abbrev pub IsCommentLength : List ℕ → Option ℕ → Type 0
IsCommentLength bytes (Some n) = (n ≤ length bytes) × CommentBegins bytes (take n bytes) (drop n bytes)
IsCommentLength bytes None = (text rest : List ℕ) → CommentBegins bytes text rest → ⊥

-- the blank or comment that begins the bytes, by its length
abbrev pub IsGapLength : List ℕ → Option ℕ → Type 0
IsGapLength bytes (Some n) = (0 < n) × (n ≤ length bytes) × GapBegins bytes (drop n bytes)
IsGapLength bytes None = (after : List ℕ) → GapBegins bytes after → ⊥

-- the bytes are none, or begin with a blank
abbrev pub begins_blank : List ℕ → Bool
begins_blank [] = true
begins_blank (b ∷ bs) = is_blank b
