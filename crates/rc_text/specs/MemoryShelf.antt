-- The files of a shelf in memory, and when it fails. This project's own.
use Rattle.std.specs.Prelude.{◌≡◌, ◌⊎◌, ℕ, Contains, List, [], ◌∷◌, drop, slice_get, Option, Some, None, if◌then◌else◌}
use Rattle.rc_text.specs.declared.memory_shelf.MemoryShelf.{MemoryShelf}
use Rattle.std.specs.Str.{bytes_eq}

-- the content of the first file of a name
abbrev pub content_of : List (List ℕ × List ℕ) → List ℕ → Option (List ℕ)
content_of [] name = None
content_of (file ∷ files) name = if bytes_eq file.0 name then Some file.1 else content_of files name

-- the content of a file, which may be missing
abbrev pub content_or_none : Option (List ℕ × List ℕ) → List ℕ
content_or_none None = []
content_or_none (Some file) = file.1

-- the content of the file at a position
abbrev pub content_at : List (List ℕ × List ℕ) → ℕ → List ℕ
content_at files index = content_or_none (slice_get files index)

-- what is left of the opened file behind the first at bytes, nothing where none is open
abbrev pub bytes_left : List (List ℕ × List ℕ) → Option ℕ → ℕ → List ℕ
bytes_left files None at = []
bytes_left files (Some index) at = drop at (content_at files index)

-- what is still to be read of a shelf's opened file
abbrev pub left_of : MemoryShelf → List ℕ
left_of shelf = bytes_left shelf.files.items shelf.current shelf.at

-- opening the name fails: the call's number is among those that fail, or there is no file of the name
abbrev pub IsOpeningFault : MemoryShelf → List ℕ → Type 0
IsOpeningFault shelf name = Contains shelf.failing.items shelf.calls ⊎ (content_of shelf.files.items name ≡ None)
