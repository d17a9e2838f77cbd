-- The class of a spelling: a word, a number, a string, a character constant, or a punctuator.
use Rattle.std.proofs.Common.{ℕ, cond, eqb, List, get_or}
use Rattle.c_lexer.specs.Bytes.{is_letter}
use Rattle.c_lexer.specs.Scanning.Tokens.{begins_number}

abbrev pub class_of_text : List ℕ → ℕ
class_of_text text =
    cond (is_letter (get_or text 0 0)) 0 (cond (begins_number text) 1 (cond (eqb (get_or text 0 0) 34) 2 (cond (eqb (get_or text 0 0) 39) 3 4)))
