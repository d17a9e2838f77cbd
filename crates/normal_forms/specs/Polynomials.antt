-- Terms as polynomials: sums of products, multiplied out (the laws of commutative rings; what is opaque to them is this
-- project's own).
use Rattle.std.specs.Prelude.{Bool, true, false, List, [], ◌∷◌, ◌++◌, map, ℤ, pos, negsuc, ◌+ℤ◌, ◌*ℤ◌}
use Rattle.rc_terms.specs.declared.term.Term.{Term}
use Rattle.rc_terms.specs.declared.term.Term.TheOpen.{Term-F}
use Rattle.rc_terms.specs.declared.term.Term.TheFolds.{para-Term}
use Rattle.rc_terms.specs.declared.term.Term.TheVariants as terms
use Rattle.rc_terms.specs.declared.operator.UnaryOperator.{UnaryOperator}
use Rattle.rc_terms.specs.declared.operator.UnaryOperator.TheVariants.{Negative}
use Rattle.rc_terms.specs.declared.operator.BinaryOperator.{BinaryOperator}
use Rattle.rc_terms.specs.declared.operator.BinaryOperator.TheVariants.{Add, Subtract, Multiply}
use Rattle.rc_terms.specs.Operators.{number_of}
use Rattle.rc_terms.specs.Evaluation.{Environment, value_of}
use Rattle.normal_forms.specs.declared.summand.Summand.{Summand}

-- a product of no terms, with its factor
abbrev pub constant : ℤ → Summand
constant number = record { factor = number; product = [] }

-- a term that the laws of rings don't look into
abbrev pub opaque : Term → Summand
opaque term = record { factor = pos 1; product = term ∷ [] }

-- a summand times a number
abbrev pub times : ℤ → Summand → Summand
times number summand = record { factor = number *ℤ summand.factor; product = summand.product }

-- the product of two summands
abbrev pub multiplied : Summand → Summand → Summand
multiplied a b = record { factor = a.factor *ℤ b.factor; product = a.product ++ b.product }

-- each summand of one sum times each of another
abbrev pub products : List Summand → List Summand → List Summand
products [] others = []
products (summand ∷ more) others = map (multiplied summand) others ++ products more others

-- whether the operands of an operator are whole parts, and no summands or factors of the sum that it stands in
abbrev pub parts_unary : UnaryOperator → Bool
parts_unary Negative = false
parts_unary operator = true

abbrev pub parts_binary : BinaryOperator → Bool
parts_binary Add = false
parts_binary Subtract = false
parts_binary Multiply = false
parts_binary operator = true

-- a part, with its summands
abbrev pub Expansion : Type 0
Expansion = Term × List Summand

-- the summands of a node with one part
abbrev pub unary_expanded : UnaryOperator → Expansion → List Summand
unary_expanded Negative a = map (times (negsuc 0)) a.1
unary_expanded operator a = opaque (terms.Unary operator a.0) ∷ []

-- the summands of a node with two parts
abbrev pub binary_expanded : BinaryOperator → Expansion → Expansion → List Summand
binary_expanded Add a b = a.1 ++ b.1
binary_expanded Subtract a b = a.1 ++ map (times (negsuc 0)) b.1
binary_expanded Multiply a b = products a.1 b.1
binary_expanded operator a b = opaque (terms.Binary operator a.0 b.0) ∷ []

-- the summands of a node
abbrev pub expanded_step : Term-F Expansion → List Summand
expanded_step (Term-F.Variable name) = opaque (terms.Variable name) ∷ []
expanded_step (Term-F.Integer number) = constant number ∷ []
expanded_step (Term-F.Truth truth) = opaque (terms.Truth truth) ∷ []
expanded_step Term-F.Null = opaque terms.Null ∷ []
expanded_step (Term-F.List elements) = opaque (terms.List (map (λ part. part.0) elements)) ∷ []
expanded_step (Term-F.Unary operator a) = unary_expanded operator a
expanded_step (Term-F.Binary operator a b) = binary_expanded operator a b
expanded_step (Term-F.Conditional test a b) = opaque (terms.Conditional test.0 a.0 b.0) ∷ []
expanded_step (Term-F.Update list index number) = opaque (terms.Update list.0 index.0 number.0) ∷ []

-- a term of the sort of numbers as a sum of products, in the order of the text and not yet added up
abbrev pub expanded : Term → List Summand
expanded = para-Term (List Summand) expanded_step

-- the product of the numbers that the terms are
abbrev pub product_value : Environment → List Term → ℤ
product_value env [] = pos 1
product_value env (term ∷ more) = number_of (value_of env term) *ℤ product_value env more

-- what the summands add up to
abbrev pub sum_value : Environment → List Summand → ℤ
sum_value env [] = pos 0
sum_value env (summand ∷ more) = summand.factor *ℤ product_value env summand.product +ℤ sum_value env more
