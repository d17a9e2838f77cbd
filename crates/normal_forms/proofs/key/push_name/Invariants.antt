use Rattle.std.proofs.Common.{◌≡◌, ◌++◌, take}
use Rattle.normal_forms.proofs.key.push_name.Given as goal

abbrev pub invariant-loop-byte : goal.invariant-loop-byte
invariant-loop-byte l = l.key ≡ l.initial.key ++ take l.byte-index l.bytes
