use Rattle.std.proofs.Common.{◌≡◌, ◌+◌, ◌≤◌, ◌++◌, List, ℕ, take}
use Rattle.rc_text.specs.Places.{place_after}
use Rattle.c_lexer.proofs.place.after_text.Given as goal

abbrev pub invariant-loop-byte : goal.invariant-loop-byte
invariant-loop-byte l = record {
  byte : l.after.byte ≡ l.fn.place.byte + l.byte-index;
  line : l.after.line ≤ l.after.byte + 1;
  column : l.after.column ≤ l.after.byte + 1;
  after : (before : List ℕ) → l.fn.place ≡ place_after before → l.after ≡ place_after (before ++ take l.byte-index l.text);
}
