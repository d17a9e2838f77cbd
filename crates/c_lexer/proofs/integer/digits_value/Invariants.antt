use Rattle.std.proofs.Common.{◌≡◌, ◌<◌, ◌^◌, take}
use Rattle.std.specs.Str.Parse.{digits_value}
use Rattle.c_lexer.specs.Integers.{radix}
use Rattle.c_lexer.proofs.integer.digits_value.Given as goal

abbrev pub invariant-loop-byte : goal.invariant-loop-byte
invariant-loop-byte l = record {
  value : l.value ≡ digits_value (radix l.base) (take l.byte-index l.digits);
  small : l.value < 2 ^ 128;
}
