-- The sort of a term under sorts for its names (this project's own).
use Rattle.std.specs.Prelude.{ℕ, Bool, true, false, ◌&&◌, List, map, Option, Some, None, cond}
use Rattle.std.specs.Prelude.{option_and_then}
use Rattle.std.specs.List.{list_all}
use Rattle.rc_terms.specs.declared.term.Term.{Term}
use Rattle.rc_terms.specs.declared.term.Term.TheOpen.{Term-F}
use Rattle.rc_terms.specs.declared.term.Term.TheFolds.{fold-Term}
use Rattle.rc_terms.specs.declared.sort.Sort.{Sort}
use Rattle.rc_terms.specs.declared.sort.Sort.TheVariants as sorts
use Rattle.rc_terms.specs.declared.value.TermValue.{TermValue}
use Rattle.rc_terms.specs.declared.value.TermValue.TheVariants as values
use Rattle.rc_terms.specs.declared.operator.UnaryOperator.{UnaryOperator}
use Rattle.rc_terms.specs.declared.operator.UnaryOperator.TheVariants as unary
use Rattle.rc_terms.specs.declared.operator.BinaryOperator.{BinaryOperator}
use Rattle.rc_terms.specs.declared.operator.BinaryOperator.TheVariants.{Add, Equal, Unequal, And, Or, Implies, Aligned}
use Rattle.rc_terms.specs.declared.operator.BinaryOperator.TheVariants.{Below, AtMost, Above, AtLeast}
use Rattle.rc_terms.specs.declared.operator.BinaryOperator.TheVariants.{Cons, Append, Element, Take, Drop}
use Rattle.rc_terms.specs.Bindings.{binding_of}

-- whether two sorts are one
abbrev pub same_sort : Sort → Sort → Bool
same_sort sorts.Int sorts.Int = true
same_sort sorts.Bool sorts.Bool = true
same_sort sorts.Loc sorts.Loc = true
same_sort sorts.List sorts.List = true
same_sort sorts.Val sorts.Val = true
same_sort sort other = false

-- a sort, where the test holds
abbrev pub given : Bool → Sort → Option Sort
given fits sort = cond fits (Some sort) None

-- whether two operands have these sorts
abbrev pub are : Sort → Sort → Sort → Sort → Bool
are left right first second = same_sort left first && same_sort right second

-- the sort of a sum: of a number, or of a location, to which a number is added
abbrev pub sum_sort : Sort → Sort → Option Sort
sum_sort sorts.Int right = given (same_sort right sorts.Int) sorts.Int
sum_sort sorts.Loc right = given (same_sort right sorts.Int) sorts.Loc
sum_sort left right = None

-- what an operator makes of an operand of this sort: none where it takes none such
abbrev pub unary_sort : UnaryOperator → Sort → Option Sort
unary_sort unary.Negative operand = given (same_sort operand sorts.Int) sorts.Int
unary_sort unary.Not operand = given (same_sort operand sorts.Bool) sorts.Bool
unary_sort unary.Length operand = given (same_sort operand sorts.List) sorts.Int
unary_sort unary.Reverse operand = given (same_sort operand sorts.List) sorts.List

-- what an operator makes of operands of these sorts; what isn't listed makes a number of two numbers
abbrev pub binary_sort : BinaryOperator → Sort → Sort → Option Sort
binary_sort Add a b = sum_sort a b
binary_sort Equal a b = given (same_sort a b) sorts.Bool
binary_sort Unequal a b = given (same_sort a b) sorts.Bool
binary_sort Below a b = given (are a b sorts.Int sorts.Int) sorts.Bool
binary_sort AtMost a b = given (are a b sorts.Int sorts.Int) sorts.Bool
binary_sort Above a b = given (are a b sorts.Int sorts.Int) sorts.Bool
binary_sort AtLeast a b = given (are a b sorts.Int sorts.Int) sorts.Bool
binary_sort And a b = given (are a b sorts.Bool sorts.Bool) sorts.Bool
binary_sort Or a b = given (are a b sorts.Bool sorts.Bool) sorts.Bool
binary_sort Implies a b = given (are a b sorts.Bool sorts.Bool) sorts.Bool
binary_sort Aligned p a = given (are p a sorts.Loc sorts.Int) sorts.Bool
binary_sort Cons a l = given (are a l sorts.Int sorts.List) sorts.List
binary_sort Append l m = given (are l m sorts.List sorts.List) sorts.List
binary_sort Element l i = given (are l i sorts.List sorts.Int) sorts.Int
binary_sort Take i l = given (are i l sorts.Int sorts.List) sorts.List
binary_sort Drop i l = given (are i l sorts.Int sorts.List) sorts.List
binary_sort operator a b = given (are a b sorts.Int sorts.Int) sorts.Int

-- whether a part has a sort, and this one
abbrev pub has : Sort → Option Sort → Bool
has sort None = false
has sort (Some other) = same_sort other sort

-- the sort of a conditional term, by that of its test and of its branches, which is one
abbrev pub conditional_sort : Option Sort → Option Sort → Option Sort → Option Sort
conditional_sort test then otherwise =
    option_and_then (λ sort. given (has sorts.Bool test && has sort otherwise) sort) then

-- a node's sort, with the sorts of its parts in their place: none where an operand has another sort than it should
abbrev pub sort_step : List (List ℕ × Sort) → Term-F (Option Sort) → Option Sort
sort_step names (Term-F.Variable name) = binding_of name names
sort_step names (Term-F.Integer number) = Some sorts.Int
sort_step names (Term-F.Truth truth) = Some sorts.Bool
sort_step names Term-F.Null = Some sorts.Loc
sort_step names (Term-F.List elements) = given (list_all (has sorts.Int) elements) sorts.List
sort_step names (Term-F.Unary operator operand) = option_and_then (unary_sort operator) operand
sort_step names (Term-F.Binary operator left right) =
    option_and_then (λ first. option_and_then (binary_sort operator first) right) left
sort_step names (Term-F.Conditional test then otherwise) = conditional_sort test then otherwise
sort_step names (Term-F.Update list index number) =
    given (has sorts.List list && has sorts.Int index && has sorts.Int number) sorts.List

-- the sort of a term, none where it isn't well sorted
abbrev pub sort_under : List (List ℕ × Sort) → Term → Option Sort
sort_under names = fold-Term (Option Sort) (sort_step names)

-- the sort of a value
abbrev pub sort_of_value : TermValue → Sort
sort_of_value (values.Integer number) = sorts.Int
sort_of_value (values.Truth truth) = sorts.Bool
sort_of_value (values.Location location) = sorts.Loc
sort_of_value (values.List numbers) = sorts.List
sort_of_value (values.Bytes bytes) = sorts.Val

-- the sorts of the names of an environment
abbrev pub sorts_of : List (List ℕ × TermValue) → List (List ℕ × Sort)
sorts_of env = map (λ entry. (entry.0, sort_of_value entry.1)) env
