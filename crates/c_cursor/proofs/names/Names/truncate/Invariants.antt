use Rattle.std.proofs.Common.{◌≡◌, ◌-◌, ◌≤◌, drop, length}
use Rattle.c_cursor.proofs.names.Names.truncate.Given as goal

abbrev pub invariant-loop : goal.invariant-loop
invariant-loop l =
    (l.self ≡ drop (l.counter - l.len) l.initial.self) × (l.len ≤ l.counter) × (l.counter - l.len ≤ length l.initial.self - l.len)
