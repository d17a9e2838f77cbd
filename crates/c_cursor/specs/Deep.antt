-- Trees with their depths, and the words for what reads them (inner).
use Rattle.std.specs.Prelude.{◌≡◌, ℕ, ◌+◌, ◌≤◌, min, Some, None, Result, Ok, Err}
use Rattle.c_grammar.specs.Input.{Input}
use Rattle.c_grammar.specs.Reading.{Reading}
use Rattle.c_cursor.specs.declared.deep.Deep.{Deep}
use Rattle.c_cursor.specs.declared.refusal.ParseRefusal.{ParseRefusal}
use Rattle.c_cursor.specs.Reads.{OnlyWhere}

-- the depth as it is counted, no further than one past the limit
abbrev pub counted : ℕ → ℕ
counted depth = min depth 201

-- the depth that comes with a tree is its own
abbrev pub IsDeep : {A : Type 0} → (A → ℕ) → Deep A → Type 0
IsDeep depth_of deep = deep.depth ≡ counted (depth_of deep.tree)

-- what the reading function gives is answered with its depth, and the input behind it
abbrev pub ReadsDeep : {A : Type 0} → (A → ℕ) → Reading A → Result (Deep A) ParseRefusal → Input → Type 0
ReadsDeep depth_of reading (Ok deep) new = (reading ≡ Some (deep.tree, new)) × IsDeep depth_of deep
ReadsDeep depth_of reading (Err refusal) new = OnlyWhere (reading ≡ None) refusal

-- this is answered with its depth, or memory ran out
abbrev pub KeepsDeep : {A : Type 0} → (A → ℕ) → A → Result (Deep A) ParseRefusal → Type 0
KeepsDeep depth_of x (Ok deep) = (deep.tree ≡ x) × IsDeep depth_of deep
KeepsDeep depth_of x (Err refusal) = OnlyWhere ⊥ refusal

-- one more than the depth of the deepest part, where that is within the limit
abbrev pub Deeper : ℕ → Result ℕ ParseRefusal → Type 0
Deeper inner (Ok depth) = (depth ≡ inner + 1) × (depth ≤ 200)
Deeper inner (Err refusal) = OnlyWhere (200 ≤ inner) refusal
