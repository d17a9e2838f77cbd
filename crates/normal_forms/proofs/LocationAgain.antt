-- A location in normal form is its own normal form.
use Rattle.std.proofs.Common.{◌≡◌, List, [], ◌∷◌, ◌++◌, refl, ap, ◌∙◌, sym, subst, ℤ}
use Rattle.rc_terms.specs.declared.term.Term.{Term}
use Rattle.rc_terms.specs.declared.term.Term.TheVariants as terms
use Rattle.rc_terms.specs.declared.operator.BinaryOperator.TheVariants as binary
use Rattle.normal_forms.specs.declared.product.Product.{Product}
use Rattle.normal_forms.specs.declared.summand.Summand.{Summand}
use Rattle.normal_forms.specs.Polynomials.{expanded}
use Rattle.normal_forms.specs.Sums.{Polynomial, gathered, present, summed, coefficient}
use Rattle.normal_forms.specs.Locations.{root, offset, moved, normal_location}
use Rattle.normal_forms.proofs.Roots.{IsAlone, root-Add, offset-Add, ind-root}
use Rattle.normal_forms.proofs.LocationLaws.{one_location}
use Rattle.normal_forms.proofs.OneForm.{factor_at, written_factor}
use Rattle.normal_forms.proofs.SumValues.{SummandsAre}
use Rattle.normal_forms.proofs.Again.{IsOpaque, sums_append, opaques, written_again}

pub root_alone : (t : Term) → IsAlone (root t)
root_alone =
    ind-root (λ t. IsAlone (root t)) (λ t h. subst IsAlone (sym h.0) h)
    (λ a b h. subst IsAlone (sym (root-Add (terms.Binary binary.Add a b) binary.Add a b refl refl)) h)

pub offset_opaques : (t : Term) → SummandsAre IsOpaque (offset t)
offset_opaques =
    ind-root (λ t. SummandsAre IsOpaque (offset t)) (λ t h. subst (SummandsAre IsOpaque) (sym h.1) tt)
    (λ a b h. subst (SummandsAre IsOpaque) (sym (offset-Add (terms.Binary binary.Add a b) binary.Add a b refl refl))
    (sums_append IsOpaque (offset a) (expanded b) h (opaques b)))

pub moved_root : (r : Term) (es : Polynomial) → IsAlone r → root (moved r es) ≡ r
moved_root r [] h = h.0
moved_root r (e ∷ es) h = root-Add (terms.Binary binary.Add r (summed (e ∷ es))) binary.Add r (summed (e ∷ es)) refl refl ∙ h.0

pub moved_offset : (r : Term) (e : Product × ℤ) (es : Polynomial) → IsAlone r → offset (moved r (e ∷ es)) ≡ expanded (summed (e ∷ es))
moved_offset r e es h =
    offset-Add (terms.Binary binary.Add r (summed (e ∷ es))) binary.Add r (summed (e ∷ es)) refl refl
    ∙ ap (λ l. l ++ expanded (summed (e ∷ es))) h.1

offset_factor : (p : Product) (r : Term) (es : Polynomial) (ss : List Summand) → present (gathered [] ss) ≡ es → IsAlone r
    → SummandsAre IsOpaque ss → coefficient p (offset (moved r es)) ≡ coefficient p ss
offset_factor p r [] ss is h all =
    ap (coefficient p) h.1 ∙ sym (ap (factor_at p) is) ∙ written_factor p ss
offset_factor p r (e ∷ es) ss is h all =
    ap (coefficient p) (moved_offset r e es h) ∙ ap (λ l. coefficient p (expanded (summed l))) (sym is) ∙ written_again p ss all

pub location_again : (t : Term) → normal_location (normal_location t) ≡ normal_location t
location_again t =
    one_location (normal_location t) t (moved_root (root t) (present (gathered [] (offset t))) (root_alone t))
    (λ p. offset_factor p (root t) (present (gathered [] (offset t))) (offset t) refl (root_alone t) (offset_opaques t))
