use Rattle.std.proofs.Common.{◌≡◌, ◌-◌, ◌++◌, map}
use Rattle.rc_terms.specs.declared.byte.MByte.TheVariants.{Byte}
use Rattle.byte_memory.specs.Encoding.{bytes_from_low}
use Rattle.byte_memory.proofs.value.Value.of_int.Given as goal

abbrev pub invariant-loop : goal.invariant-loop
invariant-loop l =
    map Byte (bytes_from_low l.end l.fn.n) ≡ l.bytes.items ++ map Byte (bytes_from_low (l.end - l.counter) l.rest)
