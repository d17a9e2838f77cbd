-- What a shelf's calls do to what it tells. This project's own.
use Rattle.std.specs.Prelude.{◌≡◌, ℕ, ◌≤◌, ◌<◌, ◌↔◌, List, [], ◌∷◌, ◌++◌, length, take, drop, Option, IfSome}
use Rattle.std.specs.Option.{option_map}

-- the names asked for before, and then this one, where the shelf tells them
abbrev pub asked_for : Option (List (List ℕ)) → List ℕ → Option (List (List ℕ))
asked_for asked name = option_map (λ names. names ++ name ∷ []) asked

-- The first count bytes that were left now stand at the front of the slice, and the others are left. A count of 0
-- into a slice that has room comes exactly where nothing was left.
pub record TakesFront (old new : Option (List ℕ)) (room : ℕ) (slice : List ℕ) (count : ℕ) : Type 0 where
  pub rest : new ≡ option_map (drop count) old
  pub front : IfSome old (λ left. (count ≤ length left) × (take count slice ≡ take count left))
  pub end : 0 < room → IfSome old (λ left. (count ≡ 0) ↔ (left ≡ []))
