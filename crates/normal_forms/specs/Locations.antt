-- Locations as a root and one sum: what is added to a location, one number after another, is added up (the laws of
-- commutative rings; how it is spelled is this project's own).
use Rattle.std.specs.Prelude.{List, [], ◌∷◌, ◌++◌, map}
use Rattle.rc_terms.specs.declared.term.Term.{Term}
use Rattle.rc_terms.specs.declared.term.Term.TheOpen.{Term-F}
use Rattle.rc_terms.specs.declared.term.Term.TheFolds.{para-Term}
use Rattle.rc_terms.specs.declared.term.Term.TheVariants as terms
use Rattle.rc_terms.specs.declared.operator.BinaryOperator.{BinaryOperator}
use Rattle.rc_terms.specs.declared.operator.BinaryOperator.TheVariants.{Add}
use Rattle.normal_forms.specs.declared.summand.Summand.{Summand}
use Rattle.normal_forms.specs.Polynomials.{Expansion, expanded}
use Rattle.normal_forms.specs.Sums.{Polynomial, gathered, present, summed}

-- a part, with its root
abbrev pub Rooted : Type 0
Rooted = Term × Term

-- the root of a sum is that of its left part; another node is its own
abbrev pub binary_root : BinaryOperator → Rooted → Rooted → Term
binary_root Add a b = a.1
binary_root operator a b = terms.Binary operator a.0 b.0

abbrev pub root_step : Term-F Rooted → Term
root_step (Term-F.Variable name) = terms.Variable name
root_step (Term-F.Integer number) = terms.Integer number
root_step (Term-F.Truth truth) = terms.Truth truth
root_step Term-F.Null = terms.Null
root_step (Term-F.List elements) = terms.List (map (λ part. part.0) elements)
root_step (Term-F.Unary operator a) = terms.Unary operator a.0
root_step (Term-F.Binary operator a b) = binary_root operator a b
root_step (Term-F.Conditional test a b) = terms.Conditional test.0 a.0 b.0
root_step (Term-F.Update list index number) = terms.Update list.0 index.0 number.0

-- the location to which numbers are added
abbrev pub root : Term → Term
root = para-Term Term root_step

-- what a sum adds to its root
abbrev pub binary_offset : BinaryOperator → Expansion → Expansion → List Summand
binary_offset Add a b = a.1 ++ expanded b.0
binary_offset operator a b = []

abbrev pub offset_step : Term-F Expansion → List Summand
offset_step (Term-F.Binary operator a b) = binary_offset operator a b
offset_step node = []

-- the summands of what is added to a location's root, in the order of the text
abbrev pub offset : Term → List Summand
offset = para-Term (List Summand) offset_step

-- a root plus one sum: where nothing is left to add, the root
abbrev pub moved : Term → Polynomial → Term
moved root [] = root
moved root (entry ∷ more) = terms.Binary Add root (summed (entry ∷ more))

-- a location in normal form
abbrev pub normal_location : Term → Term
normal_location term = moved (root term) (present (gathered [] (offset term)))
