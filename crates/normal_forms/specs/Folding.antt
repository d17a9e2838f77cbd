-- Nodes of literals as literals: what the operators of terms give on them. Sums, differences, products and minuses are
-- left to the laws of rings (which nodes are folded is this project's own).
use Rattle.std.specs.Prelude.{Bool, true, false, ◌&&◌, cond, [], map, Option, Some, None}
use Rattle.std.specs.Ordering.{is_eq}
use Rattle.rc_terms.specs.declared.term.Term.{Term}
use Rattle.rc_terms.specs.declared.term.Term.TheOpen.{Term-F}
use Rattle.rc_terms.specs.declared.term.Term.TheFolds.{fold-Term, para-Term}
use Rattle.rc_terms.specs.declared.term.Term.TheVariants as terms
use Rattle.rc_terms.specs.declared.value.TermValue.{TermValue}
use Rattle.rc_terms.specs.declared.value.TermValue.TheVariants as values
use Rattle.rc_terms.specs.Evaluation.{value_of, passes_width}
use Rattle.normal_forms.specs.Order.{term_order}
use Rattle.normal_forms.specs.Polynomials.{parts_unary, parts_binary}

-- a literal is a number, a truth value or null
abbrev pub literal_step : Term-F Bool → Bool
literal_step (Term-F.Integer number) = true
literal_step (Term-F.Truth truth) = true
literal_step Term-F.Null = true
literal_step node = false

-- whether the term is a literal
abbrev pub is_literal : Term → Bool
is_literal = fold-Term Bool literal_step

abbrev pub computable_step : Term-F (Term × Bool) → Bool
computable_step (Term-F.Unary operator a) = parts_unary operator && is_literal a.0
computable_step (Term-F.Binary operator a b) = parts_binary operator && (is_literal a.0 && is_literal b.0)
computable_step node = false

-- whether a node's operands are literals, and it is none of a sum
abbrev pub is_computable : Term → Bool
is_computable = para-Term Bool computable_step

-- the literal of a number or a truth value; the term itself for another value
abbrev pub literal_of : TermValue → Term → Term
literal_of (values.Integer number) term = terms.Integer number
literal_of (values.Truth truth) term = terms.Truth truth
literal_of value term = term

abbrev pub truth_step : Term-F (Option Bool) → Option Bool
truth_step (Term-F.Truth truth) = Some truth
truth_step node = None

-- the truth value that a literal is
abbrev pub truth_literal : Term → Option Bool
truth_literal = fold-Term (Option Bool) truth_step

-- the branch that a literal test takes, the term that both branches are, or else the conditional term itself
abbrev pub branch : Option Bool → Term → Term → Term → Term
branch (Some true) then otherwise term = then
branch (Some false) then otherwise term = otherwise
branch None then otherwise term = cond (is_eq (term_order then otherwise)) then term

abbrev pub chosen_step : Term-F (Term × Term) → Term
chosen_step (Term-F.Variable name) = terms.Variable name
chosen_step (Term-F.Integer number) = terms.Integer number
chosen_step (Term-F.Truth truth) = terms.Truth truth
chosen_step Term-F.Null = terms.Null
chosen_step (Term-F.List elements) = terms.List (map (λ part. part.0) elements)
chosen_step (Term-F.Unary operator a) = terms.Unary operator a.0
chosen_step (Term-F.Binary operator a b) = terms.Binary operator a.0 b.0
chosen_step (Term-F.Conditional test a b) =
    branch (truth_literal test.0) a.0 b.0 (terms.Conditional test.0 a.0 b.0)
chosen_step (Term-F.Update list index number) = terms.Update list.0 index.0 number.0

-- a conditional term as its branch, where that is settled, and any other term as it is
abbrev pub chosen : Term → Term
chosen = para-Term Term chosen_step

-- a term whose operands are literals as its value's literal, and a conditional term as its branch where that is settled
abbrev pub folded : Term → Term
folded term = cond (is_computable term) (literal_of (value_of [] term) term) (chosen term)

-- whether folding a term forms a number that 128 bits don't hold
abbrev pub folding_passes : Term → Bool
folding_passes term = is_computable term && passes_width [] term
