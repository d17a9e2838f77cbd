use Rattle.std.proofs.Common.{◌-◌, length}
use Rattle.c_lexer.specs.Scanning.Reading.{Stands}
use Rattle.c_lexer.proofs.lexer.read_all.Given as goal

abbrev pub invariant-loop-reader : goal.invariant-loop-reader
invariant-loop-reader l = Stands l.bytes l.reader

abbrev pub decreases-loop-reader : goal.decreases-loop-reader
decreases-loop-reader l = length l.bytes - l.reader.place.byte
