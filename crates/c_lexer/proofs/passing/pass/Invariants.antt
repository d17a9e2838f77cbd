use Rattle.std.proofs.Common.{◌-◌, length}
use Rattle.c_lexer.specs.Scanning.Reading.{HasPassed}
use Rattle.c_lexer.proofs.passing.pass.Given as goal

abbrev pub invariant-loop-passed : goal.invariant-loop-passed
invariant-loop-passed l = HasPassed l.bytes l.passed.at l.passed.fresh l.passed.tokens

abbrev pub decreases-loop-passed : goal.decreases-loop-passed
decreases-loop-passed l = length l.bytes - l.passed.at
