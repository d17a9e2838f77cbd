-- Polynomials with like products added up, and the terms that write them (the laws of commutative rings; the order and
-- the spelling are this project's own).
use Rattle.std.specs.Prelude.{not, cond, List, [], ◌∷◌, map, filter, ℤ, pos, ◌+ℤ◌}
use Rattle.std.specs.List.{concat}
use Rattle.std.specs.Ordering.{nat_cmp, int_eq, is_eq, is_gt, match_ordering}
use Rattle.std.specs.Cmp.Lexicographic.{slice_cmp}
use Rattle.std.specs.declared.cmp.Ordering.{Ordering}
use Rattle.rc_terms.specs.declared.term.Term.{Term}
use Rattle.rc_terms.specs.declared.term.Term.TheVariants as terms
use Rattle.rc_terms.specs.declared.operator.BinaryOperator.TheVariants.{Add, Multiply}
use Rattle.normal_forms.specs.declared.product.Factor.{Factor}
use Rattle.normal_forms.specs.declared.product.Product.{Product}
use Rattle.normal_forms.specs.declared.summand.Summand.{Summand}
use Rattle.normal_forms.specs.Order.{key_of}
use Rattle.normal_forms.specs.Polynomials.{expanded}

-- a term with its key beside it
abbrev pub keyed : Term → Factor
keyed term = record { key = key_of term; term = term }

-- factors in the order of terms, with one more at its place
abbrev pub placed : Factor → List Factor → List Factor
placed factor [] = factor ∷ []
placed factor (other ∷ more) =
    cond (is_gt (slice_cmp nat_cmp other.key factor.key)) (factor ∷ other ∷ more) (other ∷ placed factor more)

-- factors in the order of terms, with more terms at their places
abbrev pub arranged : List Factor → List Term → List Factor
arranged factors [] = factors
arranged factors (term ∷ more) = arranged (placed (keyed term) factors) more

-- a product whose factors are in order, with its key, which is theirs one behind the other
abbrev pub product_with : List Factor → Product
product_with factors =
    record { key = concat (map (λ factor. factor.key) factors); factors = map (λ factor. factor.term) factors }

-- the product of some terms, in whatever order they come
abbrev pub product_of : List Term → Product
product_of terms = product_with (arranged [] terms)

-- which of two products comes first
abbrev pub product_order : Product → Product → Ordering
product_order product other = slice_cmp nat_cmp product.key other.key

-- a polynomial: products in order, each with its factor
abbrev pub Polynomial : Type 0
Polynomial = List (Product × ℤ)

-- a polynomial with a multiple of a product added
abbrev pub added : Polynomial → Product → ℤ → Polynomial
added [] product number = (product, number) ∷ []
added (entry ∷ more) product number =
    match_ordering (product_order product entry.0) ((product, number) ∷ entry ∷ more)
    ((entry.0, entry.1 +ℤ number) ∷ more) (entry ∷ added more product number)

-- a polynomial with summands added
abbrev pub gathered : Polynomial → List Summand → Polynomial
gathered polynomial [] = polynomial
gathered polynomial (summand ∷ more) = gathered (added polynomial (product_of summand.product) summand.factor) more

-- a polynomial without the products whose factor is 0
abbrev pub present : Polynomial → Polynomial
present = filter (λ entry. not (int_eq entry.1 (pos 0)))

-- a term times further ones
abbrev pub multiplied_by : Term → List Term → Term
multiplied_by term [] = term
multiplied_by term (factor ∷ more) = multiplied_by (terms.Binary Multiply term factor) more

-- a number times a product: a factor of 1 isn't written
abbrev pub multiple : ℤ → List Term → Term
multiple number [] = terms.Integer number
multiple number (factor ∷ more) =
    multiplied_by (cond (int_eq number (pos 1)) factor (terms.Binary Multiply (terms.Integer number) factor)) more

-- a term plus further multiples
abbrev pub plus_all : Term → Polynomial → Term
plus_all term [] = term
plus_all term (entry ∷ more) = plus_all (terms.Binary Add term (multiple entry.1 entry.0.factors)) more

-- the sum of some multiples: of none, 0
abbrev pub summed : Polynomial → Term
summed [] = terms.Integer (pos 0)
summed (entry ∷ more) = plus_all (multiple entry.1 entry.0.factors) more

-- a number in normal form
abbrev pub normal_sum : Term → Term
normal_sum term = summed (present (gathered [] (expanded term)))

-- the factor that summands give a product in all
abbrev pub coefficient : Product → List Summand → ℤ
coefficient product [] = pos 0
coefficient product (summand ∷ more) =
    cond (is_eq (product_order product (product_of summand.product))) summand.factor (pos 0) +ℤ coefficient product more
