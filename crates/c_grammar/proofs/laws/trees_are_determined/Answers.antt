use Rattle.c_grammar.proofs.Unique.{one_tree}
use Rattle.c_grammar.proofs.laws.trees_are_determined.Goals as goal

pub returns : goal.returns
returns c = one_tree
