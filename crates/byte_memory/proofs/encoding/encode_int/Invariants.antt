use Rattle.std.proofs.Common.{◌≡◌, ◌-◌, ◌++◌, take, length}
use Rattle.byte_memory.specs.Encoding.{bytes_from_low}
use Rattle.byte_memory.proofs.encoding.encode_int.Given as goal

abbrev pub invariant-loop-byte : goal.invariant-loop-byte
invariant-loop-byte l =
    bytes_from_low (length l.fn.into) l.fn.n ≡ take l.byte-index l.into ++ bytes_from_low
    (length l.fn.into - l.byte-index) l.rest
