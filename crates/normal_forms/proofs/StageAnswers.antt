-- What a call answers for a term, from what it answers for the term's parts.
use Rattle.std.proofs.Common.{◌≡◌, ℕ, suc, ◌+◌, ◌<◌, ◌≤◌, Bool, true, false, ◌||◌, List, [], ◌∷◌, ◌++◌, length, map, drop, get_or, refl, ap, ◌∙◌, sym, subst, Result, Ok, Err, add-one, append_assoc, append-nil, drop-cons}
use Rattle.std.specs.List.{list_any}
use Rattle.std.proofs.lemmas.List.{drop_all}
use Rattle.rc_terms.specs.declared.term.Term.{Term}
use Rattle.rc_terms.specs.declared.term.Term.TheVariants as terms
use Rattle.rc_terms.specs.declared.operator.UnaryOperator.{UnaryOperator}
use Rattle.rc_terms.specs.declared.operator.BinaryOperator.{BinaryOperator}
use Rattle.rc_terms.specs.Sorting.{sort_under}
use Rattle.normal_forms.specs.declared.failure.Failure.{Failure}
use Rattle.normal_forms.specs.Polynomials.{parts_unary, parts_binary}
use Rattle.normal_forms.specs.Normal.{Names, finished, staged}
use Rattle.normal_forms.specs.Widths.{Forms, finishing_passes, staging_passes}
use Rattle.normal_forms.proofs.Stages.{staged-List, staged-Unary, staged-Binary, staged-Conditional, staged-Update}
use Rattle.normal_forms.proofs.Passings.{forms, fails, passing-List, passing-Unary, passing-Binary, passing-Conditional, passing-Update}

module _ (names : Names) where
  -- the answer for a term
  abbrev pub Answers : Result Term Failure → Term → Bool → Type 0
  Answers r term whole = Forms r (staged names term whole) (staging_passes names term whole)

  pub moved : (r : Result Term Failure) (t u : Term) (w v : Bool) → t ≡ u → w ≡ v → Answers r t w → Answers r u v
  moved r t u w v e f h = subst (λ z. Answers r u z) f (subst (λ z. Answers r z w) e h)

  module _ (term : Term) (whole : Bool) where
    -- the answer for a node round parts in normal form
    abbrev Finishes : Result Term Failure → Term → Type 0
    Finishes r inner = Forms r (finished (sort_under names term) inner whole) (finishing_passes (sort_under names term) inner whole)

    pub leaf_answers : (r : Result Term Failure) (inner : Term) → inner ≡ term
        → staged names term whole ≡ finished (sort_under names term) term whole
        → staging_passes names term whole ≡ finishing_passes (sort_under names term) term whole → Finishes r inner → Answers r term whole
    leaf_answers r inner is e f =
        forms r _ _ _ _ (ap (λ x. finished (sort_under names term) x whole) is ∙ sym e)
        (ap (λ x. finishing_passes (sort_under names term) x whole) is ∙ sym f)

    pub unary_fails : (e : Failure) (operator : UnaryOperator) (a : Term) → term ≡ terms.Unary operator a
        → Answers (Err e) a (parts_unary operator) → Answers (Err e) term whole
    unary_fails e operator a is = fails e _ _ _ _ (λ h. passing-Unary names term whole operator a is ∙ rw h refl)

    pub unary_answers : (r : Result Term Failure) (operator : UnaryOperator) (a part inner : Term) → term ≡ terms.Unary operator a
        → Answers (Ok part) a (parts_unary operator) → inner ≡ terms.Unary operator part → Finishes r inner → Answers r term whole
    unary_answers r operator a part inner is h e =
        let inner_is = e ∙ ap (terms.Unary operator) h.0 in
        forms r _ _ _ _ (ap (λ x. finished (sort_under names term) x whole) inner_is ∙ sym (staged-Unary names term whole operator a is))
        (ap (λ x. finishing_passes (sort_under names term) x whole) inner_is
        ∙ ap (λ b. b || finishing_passes (sort_under names term) (terms.Unary operator (staged names a (parts_unary operator))) whole) (sym h.1)
        ∙ sym (passing-Unary names term whole operator a is))

    pub left_fails : (e : Failure) (operator : BinaryOperator) (a b : Term) → term ≡ terms.Binary operator a b
        → Answers (Err e) a (parts_binary operator) → Answers (Err e) term whole
    left_fails e operator a b is = fails e _ _ _ _ (λ h. passing-Binary names term whole operator a b is ∙ rw h refl)

    pub right_fails : (e : Failure) (operator : BinaryOperator) (a b : Term) → term ≡ terms.Binary operator a b
        → staging_passes names a (parts_binary operator) ≡ false → Answers (Err e) b (parts_binary operator) → Answers (Err e) term whole
    right_fails e operator a b is g =
        fails e _ _ _ _ (λ h. passing-Binary names term whole operator a b is ∙ rw g (rw h refl))

    pub binary_answers : (r : Result Term Failure) (operator : BinaryOperator) (a b left right inner : Term) → term ≡ terms.Binary operator a b
        → Answers (Ok left) a (parts_binary operator) → Answers (Ok right) b (parts_binary operator)
        → inner ≡ terms.Binary operator left right → Finishes r inner → Answers r term whole
    binary_answers r operator a b left right inner is h g e =
        let inner_is = e ∙ ap (λ x. terms.Binary operator x right) h.0 ∙ ap (terms.Binary operator (staged names a (parts_binary operator))) g.0 in
        forms r _ _ _ _ (ap (λ x. finished (sort_under names term) x whole) inner_is ∙ sym (staged-Binary names term whole operator a b is))
        (ap (λ x. finishing_passes (sort_under names term) x whole) inner_is
        ∙ sym (passing-Binary names term whole operator a b is ∙ rw h.1 (rw g.1 refl)))

    pub test_fails : (e : Failure) (a b c : Term) → term ≡ terms.Conditional a b c → Answers (Err e) a true → Answers (Err e) term whole
    test_fails e a b c is = fails e _ _ _ _ (λ h. passing-Conditional names term whole a b c is ∙ rw h refl)

    pub then_fails : (e : Failure) (a b c : Term) → term ≡ terms.Conditional a b c → staging_passes names a true ≡ false
        → Answers (Err e) b true → Answers (Err e) term whole
    then_fails e a b c is g = fails e _ _ _ _ (λ h. passing-Conditional names term whole a b c is ∙ rw g (rw h refl))

    pub otherwise_fails : (e : Failure) (a b c : Term) → term ≡ terms.Conditional a b c → staging_passes names a true ≡ false
        → staging_passes names b true ≡ false → Answers (Err e) c true → Answers (Err e) term whole
    otherwise_fails e a b c is f g = fails e _ _ _ _ (λ h. passing-Conditional names term whole a b c is ∙ rw f (rw g (rw h refl)))

    pub conditional_answers : (r : Result Term Failure) (a b c x y z inner : Term) → term ≡ terms.Conditional a b c
        → Answers (Ok x) a true → Answers (Ok y) b true → Answers (Ok z) c true
        → inner ≡ terms.Conditional x y z → Finishes r inner → Answers r term whole
    conditional_answers r a b c x y z inner is h g f e =
        let inner_is = e ∙ ap (λ t. terms.Conditional t y z) h.0 ∙ ap (λ t. terms.Conditional (staged names a true) t z) g.0
        ∙ ap (terms.Conditional (staged names a true) (staged names b true)) f.0 in
        forms r _ _ _ _ (ap (λ t. finished (sort_under names term) t whole) inner_is ∙ sym (staged-Conditional names term whole a b c is))
        (ap (λ t. finishing_passes (sort_under names term) t whole) inner_is
        ∙ sym (passing-Conditional names term whole a b c is ∙ rw h.1 (rw g.1 (rw f.1 refl))))

    pub list_fails : (e : Failure) (a b c : Term) → term ≡ terms.Update a b c → Answers (Err e) a true → Answers (Err e) term whole
    list_fails e a b c is = fails e _ _ _ _ (λ h. passing-Update names term whole a b c is ∙ rw h refl)

    pub index_fails : (e : Failure) (a b c : Term) → term ≡ terms.Update a b c → staging_passes names a true ≡ false
        → Answers (Err e) b true → Answers (Err e) term whole
    index_fails e a b c is g = fails e _ _ _ _ (λ h. passing-Update names term whole a b c is ∙ rw g (rw h refl))

    pub number_fails : (e : Failure) (a b c : Term) → term ≡ terms.Update a b c → staging_passes names a true ≡ false
        → staging_passes names b true ≡ false → Answers (Err e) c true → Answers (Err e) term whole
    number_fails e a b c is f g = fails e _ _ _ _ (λ h. passing-Update names term whole a b c is ∙ rw f (rw g (rw h refl)))

    pub update_answers : (r : Result Term Failure) (a b c x y z inner : Term) → term ≡ terms.Update a b c
        → Answers (Ok x) a true → Answers (Ok y) b true → Answers (Ok z) c true
        → inner ≡ terms.Update x y z → Finishes r inner → Answers r term whole
    update_answers r a b c x y z inner is h g f e =
        let inner_is = e ∙ ap (λ t. terms.Update t y z) h.0 ∙ ap (λ t. terms.Update (staged names a true) t z) g.0
        ∙ ap (terms.Update (staged names a true) (staged names b true)) f.0 in
        forms r _ _ _ _ (ap (λ t. finished (sort_under names term) t whole) inner_is ∙ sym (staged-Update names term whole a b c is))
        (ap (λ t. finishing_passes (sort_under names term) t whole) inner_is
        ∙ sym (passing-Update names term whole a b c is ∙ rw h.1 (rw g.1 (rw f.1 refl))))

    -- the elements of a list one by one
    abbrev pub passing : Term → Bool
    passing element = staging_passes names element true

    in_front : (elements : List Term) (k : ℕ) (element : Term) → k < length elements → element ≡ get_or elements k element
        → drop k elements ≡ element ∷ drop (suc k) elements
    in_front elements k element within is = drop-cons elements k element within ∙ ap (λ t. t ∷ drop (suc k) elements) (sym is)

    pub element_fails : (e : Failure) (elements : List Term) (k : ℕ) (element : Term) → term ≡ terms.List elements
        → k < length elements → element ≡ get_or elements k element → list_any passing (drop k elements) ≡ list_any passing elements
        → Answers (Err e) element true → Answers (Err e) term whole
    element_fails e elements k element is within at same =
        fails e _ _ _ _ (λ h.
        let any : list_any passing elements ≡ true =
        sym same ∙ ap (list_any passing) (in_front elements k element within at) ∙ rw h refl in
        passing-List names term whole elements is
        ∙ ap (λ b. b || finishing_passes (sort_under names term) (terms.List (map (λ t. staged names t true) elements)) whole) any)

    pub next_part : (elements : List Term) (k : ℕ) (element part : Term) (parts all : List Term)
        → k < length elements → element ≡ get_or elements k element → Answers (Ok part) element true
        → parts ++ map (λ t. staged names t true) (drop k elements) ≡ all
        → (parts ++ part ∷ []) ++ map (λ t. staged names t true) (drop (k + 1) elements) ≡ all
    next_part elements k element part parts all within at h same =
        rw (add-one, append_assoc)
        (ap (λ x. parts ++ x ∷ map (λ t. staged names t true) (drop (suc k) elements)) h.0
        ∙ ap (λ l. parts ++ map (λ t. staged names t true) l) (sym (in_front elements k element within at)) ∙ same)

    pub next_passing : (elements : List Term) (k : ℕ) (element part : Term)
        → k < length elements → element ≡ get_or elements k element → Answers (Ok part) element true
        → list_any passing (drop k elements) ≡ list_any passing elements
        → list_any passing (drop (k + 1) elements) ≡ list_any passing elements
    next_passing elements k element part within at h same =
        rw add-one
        (ap (λ b. b || list_any passing (drop (suc k) elements)) (sym h.1)
        ∙ ap (list_any passing) (sym (in_front elements k element within at)) ∙ same)

    pub elements_answer : (r : Result Term Failure) (elements : List Term) (k : ℕ) (parts : List Term) → term ≡ terms.List elements
        → length elements ≤ k → parts ++ map (λ t. staged names t true) (drop k elements) ≡ map (λ t. staged names t true) elements
        → list_any passing (drop k elements) ≡ list_any passing elements → Finishes r (terms.List parts) → Answers r term whole
    elements_answer r elements k parts is past same wide =
        let none : drop k elements ≡ [] = drop_all k elements past in
        let all : parts ≡ map (λ t. staged names t true) elements =
        sym (append-nil parts) ∙ ap (λ l. parts ++ map (λ t. staged names t true) l) (sym none) ∙ same in
        forms r _ _ _ _ (ap (λ l. finished (sort_under names term) (terms.List l) whole) all ∙ sym (staged-List names term whole elements is))
        (ap (λ l. finishing_passes (sort_under names term) (terms.List l) whole) all
        ∙ ap (λ b. b || finishing_passes (sort_under names term) (terms.List (map (λ t. staged names t true) elements)) whole)
        (sym (sym wide ∙ ap (list_any passing) none))
        ∙ sym (passing-List names term whole elements is))
