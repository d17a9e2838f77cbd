use Rattle.rc_terms.proofs.SortedTerms.{sort_of_value-value_of}
use Rattle.rc_terms.proofs.laws.well_sorted_terms_have_values_of_their_sort.Goals as goal

pub returns : goal.returns
returns c = sort_of_value-value_of
