-- What the functions answer inside; nothing here is needed to read what the crate promises.
use Rattle.std.specs.Prelude.{Option, Some, None, Bool, true, false, cond, List, [], ◌∷◌, map, ℤ, pos, negsuc}
use Rattle.normal_forms.specs.declared.summand.Summand.{Summand}
use Rattle.normal_forms.specs.Polynomials.{times}
use Rattle.std.specs.Ordering.{int_eq}
use Rattle.normal_forms.specs.declared.product.Product.{Product}
use Rattle.rc_terms.specs.declared.term.Term.{Term}
use Rattle.rc_terms.specs.declared.term.Term.TheVariants as terms
use Rattle.rc_terms.specs.declared.operator.BinaryOperator.TheVariants.{Add}
use Rattle.normal_forms.specs.Sums.{Polynomial, present, plus_all, summed, multiple}

-- a sum so far, if there is one, and a further term
abbrev pub plus_maybe : Option Term → Term → Term
plus_maybe None term = term
plus_maybe (Some sum) term = terms.Binary Add sum term

-- a sum so far, if there is one, and what is still to be added
abbrev pub plus_rest : Option Term → Polynomial → Term
plus_rest None polynomial = summed (present polynomial)
plus_rest (Some sum) polynomial = plus_all sum (present polynomial)

-- a sum so far, if there is one, and an entry, which isn't written where its factor is 0
abbrev pub after_entry : Option Term → Product → ℤ → Option Term
after_entry sum product factor =
    cond (int_eq factor (pos 0)) sum (Some (plus_maybe sum (multiple factor product.factors)))

-- summands, each with the opposite sign where that is asked for
abbrev pub signed_sum : Bool → List Summand → List Summand
signed_sum negative summands = cond negative (map (times (negsuc 0)) summands) summands

-- whether a polynomial has no products
abbrev pub is_empty : Polynomial → Bool
is_empty [] = true
is_empty (entry ∷ more) = false
