-- The declarations in scope, and the table by which a name is found among them (inner).
use Rattle.std.specs.Prelude.{◌≡◌, ℕ, List, [], ◌∷◌, Option, map, if◌then◌else◌}
use Rattle.std.specs.BTreeMap.{get_by}
use Rattle.std.specs.Cmp.Lexicographic.{slice_cmp}
use Rattle.std.specs.Ordering.{nat_cmp}
use Rattle.std.specs.Str.{bytes_eq}
use Rattle.c_grammar.specs.Names.{meaning_of}
use Rattle.c_grammar.specs.declared.names.NameEntry.{NameEntry}
use Rattle.c_grammar.specs.declared.names.NameKind.{NameKind}
use Rattle.c_cursor.specs.declared.meanings.Meanings.{Meanings}
use Rattle.c_cursor.specs.declared.names.Declared.{Declared}

-- what a table has for a name
abbrev pub kind_of : Meanings → List ℕ → Option NameKind
kind_of meanings name = get_by (λ key. slice_cmp nat_cmp name key.items) meanings.by_name

-- the new table has this for the name, and for each other name what the old one has
abbrev pub Sets : Meanings → List ℕ → Option NameKind → Meanings → Type 0
Sets old name kind new =
    (other : List ℕ) → kind_of new other ≡ (if bytes_eq name other then kind else kind_of old other)

-- the declared names of declarations
abbrev pub entries : List Declared → List NameEntry
entries declared = map (λ declaration. declaration.entry) declared

-- each declaration keeps what its name meant by the older ones; the newest is the first
abbrev pub KeepsHidden : List Declared → Type 0
KeepsHidden [] = Unit {0}
KeepsHidden (newest ∷ older) = (newest.hidden ≡ meaning_of (entries older) newest.entry.name) × KeepsHidden older

-- a table has for each name what its newest declaration makes of it
abbrev pub IsTableOf : List NameEntry → Meanings → Type 0
IsTableOf declared meanings = (name : List ℕ) → kind_of meanings name ≡ meaning_of declared name
