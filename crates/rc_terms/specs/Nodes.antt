-- How large a term is (this project's own).
use Rattle.std.specs.Prelude.{ℕ, ◌+◌, sum}
use Rattle.rc_terms.specs.declared.term.Term.{Term}
use Rattle.rc_terms.specs.declared.term.Term.TheOpen.{Term-F}
use Rattle.rc_terms.specs.declared.term.Term.TheFolds.{fold-Term}

-- a node is one more than the nodes of its parts
abbrev pub nodes_step : Term-F ℕ → ℕ
nodes_step (Term-F.Variable name) = 1
nodes_step (Term-F.Integer number) = 1
nodes_step (Term-F.Truth truth) = 1
nodes_step Term-F.Null = 1
nodes_step (Term-F.List elements) = 1 + sum elements
nodes_step (Term-F.Unary operator operand) = 1 + operand
nodes_step (Term-F.Binary operator left right) = 1 + left + right
nodes_step (Term-F.Conditional test then otherwise) = 1 + test + then + otherwise
nodes_step (Term-F.Update list index number) = 1 + list + index + number

-- how many nodes the tree has
abbrev pub nodes : Term → ℕ
nodes = fold-Term ℕ nodes_step

-- how many nodes a term may have
abbrev pub most_nodes : ℕ
most_nodes = 4096
