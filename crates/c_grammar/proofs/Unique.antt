-- A file has one tree at most.
use Rattle.std.proofs.Common.{◌≡◌, ◌+◌, sym, ◌∙◌, arith}
use Rattle.std.proofs.lemmas.Option.{same_Some}
use Rattle.c_lexer.specs.TokenLists.{TokenLists}
use Rattle.c_syntax.specs.declared.unit.Unit as unit
use Rattle.c_syntax.specs.Depth.{unit_depth}
use Rattle.c_grammar.specs.Grammar.{Derives}
use Rattle.c_grammar.proofs.FilesRead.{unit-read}

pub one_tree : (file : TokenLists) (one other : unit.Unit) → Derives file one → Derives file other → one ≡ other
one_tree file one other d e =
    let limit = unit_depth one + unit_depth other in
    same_Some one other (sym (unit-read limit file one d (omega arith)) ∙ unit-read limit file other e (omega arith))
