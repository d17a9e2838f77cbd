-- Names with what they stand for.
use Rattle.std.specs.Prelude.{◌≡◌, ◌<◌, ℕ, List, [], ◌∷◌, Option, Some, None, cond, length, slice_get, IfSome}
use Rattle.std.specs.Prelude.{option_and_then, option_map, String}
use Rattle.std.specs.BTreeMap.{BTreeMap, get_by_text}
use Rattle.rc_terms.specs.Names.{same_name}

module _ {T : Type 0} where
  -- the first of two, where it is there
  abbrev pub first_of_two : Option T → Option T → Option T
  first_of_two None other = other
  first_of_two (Some meaning) other = Some meaning

  -- what a name stands for: the last entry of the name counts
  abbrev pub binding_of : List ℕ → List (List ℕ × T) → Option T
  binding_of name [] = None
  binding_of name (entry ∷ more) =
      first_of_two (binding_of name more) (cond (same_name entry.0 name) (Some entry.1) None)

-- a map from names to the places of their last entries: what a name stands for is what stands at its place
pub record IsIndexOf {T A : Type 0} (newest : BTreeMap (String A) ℕ) (entries : List (List ℕ × T)) : Type 0 where
  pub meanings : (name : List ℕ) →
      option_and_then (λ place. option_map (λ entry. entry.1) (slice_get entries place)) (get_by_text newest name)
      ≡ binding_of name entries
  pub places : (name : List ℕ) → IfSome (get_by_text newest name) (λ place. place < length entries)
