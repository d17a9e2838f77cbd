-- Where a byte stands in a file. This project's own.
use Rattle.std.specs.Prelude.{ℕ, ◌+◌, List, length, ◌==◌, count_by}
use Rattle.std.specs.List.{after_last}
use Rattle.rc_text.specs.declared.place.Place.{Place}

-- the place of the byte that follows these: lines end with a line feed, and lines and columns count from 1
abbrev pub place_after : List ℕ → Place
place_after before = record {
  byte = length before;
  line = count_by (λ b. b == 10) before + 1;
  column = length (after_last (λ b. b == 10) before) + 1;
}
