-- Negations pushed inwards, as far as comparisons (De Morgan's laws; where they stop is this project's own).
use Rattle.std.specs.Prelude.{Bool, false, not, cond, map}
use Rattle.rc_terms.specs.declared.term.Term.{Term}
use Rattle.rc_terms.specs.declared.term.Term.TheOpen.{Term-F}
use Rattle.rc_terms.specs.declared.term.Term.TheFolds.{para-Term}
use Rattle.rc_terms.specs.declared.term.Term.TheVariants as terms
use Rattle.normal_forms.specs.declared.negation.Role.{Role}
use Rattle.normal_forms.specs.declared.negation.Role.TheVariants as roles
use Rattle.rc_terms.specs.declared.operator.UnaryOperator.{UnaryOperator}
use Rattle.rc_terms.specs.declared.operator.UnaryOperator.TheVariants.{Not}
use Rattle.rc_terms.specs.declared.operator.BinaryOperator.{BinaryOperator}
use Rattle.rc_terms.specs.declared.operator.BinaryOperator.TheVariants.{Equal, Unequal, Below, AtMost, Above, AtLeast}
use Rattle.rc_terms.specs.declared.operator.BinaryOperator.TheVariants.{And, Or, Implies}

-- the term, or its negation
abbrev pub signed : Bool → Term → Term
signed negative term = cond negative (terms.Unary Not term) term

-- a comparison of the opposite sign; the connective of De Morgan's laws; `!(a -> b)` is `a && !b`
abbrev pub opposite : BinaryOperator → BinaryOperator
opposite Equal = Unequal
opposite Unequal = Equal
opposite Below = AtLeast
opposite AtMost = Above
opposite Above = AtMost
opposite AtLeast = Below
opposite And = Or
opposite Or = And
opposite Implies = And
opposite operator = operator

-- the operator of the node, or of its negation
abbrev pub turned : Bool → BinaryOperator → BinaryOperator
turned negative operator = cond negative (opposite operator) operator

-- a part, with what pushing makes of it, as it stands (false) or negated (true)
abbrev pub Side : Type 0
Side = Term × (Bool → Term)

-- what an operator's node is to a negation
abbrev pub role_of : BinaryOperator → Role
role_of Equal = roles.Comparison
role_of Unequal = roles.Comparison
role_of Below = roles.Comparison
role_of AtMost = roles.Comparison
role_of Above = roles.Comparison
role_of AtLeast = roles.Comparison
role_of And = roles.Connective
role_of Or = roles.Connective
role_of Implies = roles.Implication
role_of operator = roles.Opaque

-- a comparison turns its sign and keeps its operands, a connective hands the negation on, an implication to its
-- conclusion alone, another node keeps it before it
abbrev pub pushed_as : Role → BinaryOperator → Side → Side → Bool → Term
pushed_as roles.Comparison operator a b negative = terms.Binary (turned negative operator) a.0 b.0
pushed_as roles.Connective operator a b negative = terms.Binary (turned negative operator) (a.1 negative) (b.1 negative)
pushed_as roles.Implication operator a b negative = terms.Binary (turned negative operator) (a.1 false) (b.1 negative)
pushed_as roles.Opaque operator a b negative = signed negative (terms.Binary operator a.0 b.0)

-- a negation of a negation is none; a minus, a length and a reversal are no propositions
abbrev pub unary_pushed : UnaryOperator → Side → Bool → Term
unary_pushed Not a negative = a.1 (not negative)
unary_pushed operator a negative = signed negative (terms.Unary operator a.0)

-- what pushing makes of a node
abbrev pub pushed_step : Term-F Side → Bool → Term
pushed_step (Term-F.Variable name) negative = signed negative (terms.Variable name)
pushed_step (Term-F.Integer number) negative = signed negative (terms.Integer number)
pushed_step (Term-F.Truth truth) negative = terms.Truth (cond negative (not truth) truth)
pushed_step Term-F.Null negative = signed negative terms.Null
pushed_step (Term-F.List elements) negative = signed negative (terms.List (map (λ part. part.0) elements))
pushed_step (Term-F.Unary operator a) negative = unary_pushed operator a negative
pushed_step (Term-F.Binary operator a b) negative = pushed_as (role_of operator) operator a b negative
pushed_step (Term-F.Conditional test a b) negative = terms.Conditional (test.1 false) (a.1 negative) (b.1 negative)
pushed_step (Term-F.Update list index number) negative = signed negative (terms.Update list.0 index.0 number.0)

-- the term with its negations pushed inwards, or its negation's
abbrev pub pushed : Term → Bool → Term
pushed = para-Term (Bool → Term) pushed_step
