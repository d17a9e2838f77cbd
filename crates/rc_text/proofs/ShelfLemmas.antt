-- The first file of a name.
use Rattle.std.proofs.Common.{◌≡◌, ℕ, zero, suc, ◌<◌, true, List, [], ◌∷◌, length, get_or, drop, Some, refl, arith}
use Rattle.std.specs.Str.{bytes_eq}
use Rattle.rc_text.specs.MemoryShelf.{content_of, content_at}

-- a file of the name counts, if no file before it has it
pub content_of-drop : (files : List (List ℕ × List ℕ)) (i : ℕ) (name : List ℕ) (d : List ℕ × List ℕ)
    → i < length files → bytes_eq (get_or files i d).0 name ≡ true
    → content_of (drop i files) name ≡ Some (content_at files i)
content_of-drop [] i name d inside same = absurd (omega arith)
content_of-drop (file ∷ files) zero name d inside same = rw same refl
content_of-drop (file ∷ files) (suc i) name d inside same = content_of-drop files i name d (omega arith) same
