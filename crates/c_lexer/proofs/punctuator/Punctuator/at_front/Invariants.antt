use Rattle.std.proofs.Common.{◌≡◌, ◌≤◌, ◌++◌, List, ℕ, get_or}
use Rattle.c_lexer.specs.declared.punctuator.Punctuator.{Punctuator}
use Rattle.c_lexer.specs.Scanning.Punctuators.{punctuators_from}
use Rattle.c_lexer.specs.Punctuator.{punctuator_text}
use Rattle.c_lexer.proofs.Punctuators.{place_of}
use Rattle.c_lexer.proofs.punctuator.Punctuator.at_front.Given as goal

abbrev pub invariant-loop-punctuator : goal.invariant-loop-punctuator
invariant-loop-punctuator l = record {
  all : l.punctuator-items ≡ punctuators_from (get_or l.bytes 0 0);
  passed : (punctuator : Punctuator) (rest : List ℕ) → l.bytes ≡ punctuator_text punctuator ++ rest → l.punctuator-index ≤ place_of punctuator;
}
