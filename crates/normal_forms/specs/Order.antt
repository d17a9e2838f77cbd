-- The one order of all terms: by the shape of the node, then by its parts (this project's own). A term has a key, a
-- list of numbers that no other term has, and terms are in the order of their keys, as words are in a dictionary.
use Rattle.std.specs.Prelude.{ℕ, Bool, cond, List, [], ◌∷◌, ◌++◌, length, ℤ, pos, negsuc}
use Rattle.std.specs.List.{concat}
use Rattle.std.specs.Ordering.{nat_cmp}
use Rattle.std.specs.Cmp.Lexicographic.{slice_cmp}
use Rattle.std.specs.declared.cmp.Ordering.{Ordering}
use Rattle.rc_terms.specs.declared.term.Term.{Term}
use Rattle.rc_terms.specs.declared.term.Term.TheOpen.{Term-F}
use Rattle.rc_terms.specs.declared.term.Term.TheFolds.{fold-Term}
use Rattle.rc_terms.specs.declared.operator.UnaryOperator.{UnaryOperator}
use Rattle.rc_terms.specs.declared.operator.UnaryOperator.TheVariants as unary
use Rattle.rc_terms.specs.declared.operator.BinaryOperator.{BinaryOperator}
use Rattle.rc_terms.specs.declared.operator.BinaryOperator.TheVariants as binary

-- the place of an operator among those with one operand
abbrev pub unary_place : UnaryOperator → ℕ
unary_place unary.Negative = 0
unary_place unary.Not = 1
unary_place unary.Length = 2
unary_place unary.Reverse = 3

-- the place of an operator among those with two operands
abbrev pub binary_place : BinaryOperator → ℕ
binary_place binary.Add = 0
binary_place binary.Subtract = 1
binary_place binary.Multiply = 2
binary_place binary.Quotient = 3
binary_place binary.Remainder = 4
binary_place binary.ShiftLeft = 5
binary_place binary.ShiftRight = 6
binary_place binary.BitAnd = 7
binary_place binary.BitOr = 8
binary_place binary.BitXor = 9
binary_place binary.Equal = 10
binary_place binary.Unequal = 11
binary_place binary.Below = 12
binary_place binary.AtMost = 13
binary_place binary.Above = 14
binary_place binary.AtLeast = 15
binary_place binary.And = 16
binary_place binary.Or = 17
binary_place binary.Implies = 18
binary_place binary.Aligned = 19
binary_place binary.Cons = 20
binary_place binary.Append = 21
binary_place binary.Element = 22
binary_place binary.Take = 23
binary_place binary.Drop = 24

-- a number's sign and how far it is from 0 or from -1
abbrev pub number_key : ℤ → List ℕ
number_key (pos n) = 0 ∷ n ∷ []
number_key (negsuc n) = 1 ∷ n ∷ []

-- a truth value as a number
abbrev pub truth_place : Bool → ℕ
truth_place truth = cond truth 1 0

-- a node's key: the number of its shape, what it holds, and the keys of its parts in their order
abbrev pub key_step : Term-F (List ℕ) → List ℕ
key_step (Term-F.Variable name) = 0 ∷ length name ∷ name
key_step (Term-F.Integer number) = 1 ∷ number_key number
key_step (Term-F.Truth truth) = 2 ∷ truth_place truth ∷ []
key_step Term-F.Null = 3 ∷ []
key_step (Term-F.List elements) = 4 ∷ length elements ∷ concat elements
key_step (Term-F.Unary operator operand) = 5 ∷ unary_place operator ∷ operand
key_step (Term-F.Binary operator left right) = 6 ∷ binary_place operator ∷ (left ++ right)
key_step (Term-F.Conditional test then otherwise) = 7 ∷ (test ++ (then ++ otherwise))
key_step (Term-F.Update list index number) = 8 ∷ (list ++ (index ++ number))

-- a term's key
abbrev pub key_of : Term → List ℕ
key_of = fold-Term (List ℕ) key_step

-- which of two terms comes first
abbrev pub term_order : Term → Term → Ordering
term_order term other = slice_cmp nat_cmp (key_of term) (key_of other)
