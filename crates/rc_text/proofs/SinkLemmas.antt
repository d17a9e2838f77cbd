-- Pieces written one after another.
use Rattle.std.proofs.Common.{◌≡◌, ℕ, ◌+◌, List, drop, Option, Some, None, refl, append_assoc}
use Rattle.std.proofs.Math.Seq.{take-add}
use Rattle.rc_text.specs.Sink.{front_appended}

-- the first n bytes, and then the next m of the text, are its first n + m
pub front_appended_more : (written : Option (List ℕ)) (n m : ℕ) (text : List ℕ)
    → front_appended (front_appended written n text) m (drop n text) ≡ front_appended written (n + m) text
front_appended_more None n m text = refl
front_appended_more (Some before) n m text = rw (take-add n m text, append_assoc) refl
