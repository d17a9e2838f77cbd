-- What a call answers for a term, from what it answers for the term's parts.
use Rattle.std.proofs.Common.{◌≡◌, ℕ, suc, ◌+◌, ◌<◌, length, drop, get_or, pos, unwrap_or, add-one, append_assoc, drop-cons, Bool, true, false, not, ◌||◌, cond, List, [], ◌∷◌, ◌++◌, map, refl, ap, ◌∙◌, sym, subst, ℤ, Result, Ok, Err}
use Rattle.std.specs.List.{list_any}
use Rattle.rc_terms.specs.declared.term.Term.{Term}
use Rattle.rc_terms.specs.declared.term.Term.TheOpen.{Term-F}
use Rattle.rc_terms.specs.declared.term.Term.TheFolds.{fold-roll-Term}
use Rattle.rc_terms.specs.declared.term.Term.TheVariants as terms
use Rattle.rc_terms.specs.declared.operator.UnaryOperator.{UnaryOperator}
use Rattle.rc_terms.specs.declared.operator.BinaryOperator.{BinaryOperator}
use Rattle.rc_terms.specs.declared.refusal.TermRefusal.{TermRefusal}
use Rattle.rc_terms.specs.declared.refusal.TermRefusal.TheVariants.{TermLimit, Width, NoMemory}
use Rattle.rc_terms.specs.declared.value.TermValue.{TermValue}
use Rattle.rc_terms.specs.declared.value.TermValue.TheVariants as values
use Rattle.rc_terms.specs.Operators.{number_of, truth_of, list_of, updated, unary, binary, is_within, Gives}
use Rattle.rc_terms.specs.Evaluation.{Environment, value_of, value_step, passes_width, Computes}
use Rattle.rc_terms.specs.declared.location.Loc.TheVariants as locations
use Rattle.rc_terms.specs.Bindings.{binding_of}
use Rattle.rc_terms.proofs.Widths.{width-Variable, width-Integer, width-Truth, width-Null, width-List, width-Unary, width-Binary, width-Conditional, width-Update}

-- a refusal stands for a term where it stands for a part whose wide numbers are the term's
pub fails : {T U : Type 0} (e : TermRefusal) (part : T) (whole : U) (wide wider : Bool) → (wide ≡ true → wider ≡ true)
    → Computes (Err e) part wide → Computes (Err e) whole wider
fails Width part whole wide wider h f = h f
fails NoMemory part whole wide wider h f = tt
fails TermLimit part whole wide wider h f = f

gives : (r : Result TermValue TermRefusal) (value : TermValue) → Gives r value → Computes r value (not (is_within value))
gives (Ok found) value g = (g.0, ap not g.1)
gives (Err Width) value g = ap not g
gives (Err NoMemory) value g = tt
gives (Err TermLimit) value g = g

module _ (env : Environment) where
  pub value-Unary : (operator : UnaryOperator) (operand : Term)
      → value_of env (terms.Unary operator operand) ≡ unary operator (value_of env operand)
  value-Unary operator operand =
      ap (value_of env) (sym (terms.rolls-Unary operator operand))
      ∙ fold-roll-Term TermValue (value_step env) (Term-F.Unary operator operand)

  pub value-Binary : (operator : BinaryOperator) (left right : Term)
      → value_of env (terms.Binary operator left right) ≡ binary operator (value_of env left) (value_of env right)
  value-Binary operator left right =
      ap (value_of env) (sym (terms.rolls-Binary operator left right))
      ∙ fold-roll-Term TermValue (value_step env) (Term-F.Binary operator left right)

  pub value-Conditional : (test then otherwise : Term)
      → value_of env (terms.Conditional test then otherwise)
      ≡ cond (truth_of (value_of env test)) (value_of env then) (value_of env otherwise)
  value-Conditional test then otherwise =
      ap (value_of env) (sym (terms.rolls-Conditional test then otherwise))
      ∙ fold-roll-Term TermValue (value_step env) (Term-F.Conditional test then otherwise)

  pub value-Update : (list index number : Term)
      → value_of env (terms.Update list index number)
      ≡ values.List (updated (list_of (value_of env list)) (number_of (value_of env index)) (number_of (value_of env number)))
  value-Update list index number =
      ap (value_of env) (sym (terms.rolls-Update list index number))
      ∙ fold-roll-Term TermValue (value_step env) (Term-F.Update list index number)

  pub value-List : (elements : List Term)
      → value_of env (terms.List elements) ≡ values.List (map number_of (map (value_of env) elements))
  value-List elements =
      ap (value_of env) (sym (terms.rolls-List elements))
      ∙ fold-roll-Term TermValue (value_step env) (Term-F.List elements)

  -- the answer for a term
  abbrev pub Answers : Result TermValue TermRefusal → Term → Type 0
  Answers r term = Computes r (value_of env term) (passes_width env term)

  pub operand_fails : (e : TermRefusal) (operator : UnaryOperator) (operand : Term)
      → Answers (Err e) operand → Answers (Err e) (terms.Unary operator operand)
  operand_fails e operator operand =
      fails e _ _ _ _ (λ h. rw (width-Unary env operator operand) (rw h refl))

  pub unary_answers : (operator : UnaryOperator) (operand : Term) (value : TermValue) (r : Result TermValue TermRefusal)
      → Answers (Ok value) operand → Gives r (unary operator value)
      → Answers r (terms.Unary operator operand)
  unary_answers operator operand value r h g =
      rw (value-Unary operator operand, width-Unary env operator operand, h.1)
      (gives r _ (subst (λ v. Gives r (unary operator v)) h.0 g))

  pub left_fails : (e : TermRefusal) (operator : BinaryOperator) (left right : Term)
      → Answers (Err e) left → Answers (Err e) (terms.Binary operator left right)
  left_fails e operator left right =
      fails e _ _ _ _ (λ h. rw (width-Binary env operator left right) (rw h refl))

  pub right_fails : (e : TermRefusal) (operator : BinaryOperator) (left right : Term)
      → passes_width env left ≡ false → Answers (Err e) right → Answers (Err e) (terms.Binary operator left right)
  right_fails e operator left right within =
      fails e _ _ _ _ (λ h. rw (width-Binary env operator left right) (rw within (rw h refl)))

  pub binary_answers : (operator : BinaryOperator) (left right : Term) (a b : TermValue) (r : Result TermValue TermRefusal)
      → Answers (Ok a) left → Answers (Ok b) right
      → Gives r (binary operator a b) → Answers r (terms.Binary operator left right)
  binary_answers operator left right a b r h k g =
      rw (value-Binary operator left right, width-Binary env operator left right, h.1, k.1)
      (gives r _ (subst (λ v. Gives r (binary operator v (value_of env right))) h.0
      (subst (λ v. Gives r (binary operator a v)) k.0 g)))

  pub test_fails : (e : TermRefusal) (test then otherwise : Term)
      → Answers (Err e) test → Answers (Err e) (terms.Conditional test then otherwise)
  test_fails e test then otherwise =
      fails e _ _ _ _ (λ h. rw (width-Conditional env test then otherwise) (rw h refl))

  pub then_answers : (test then otherwise : Term) (value : TermValue) (r : Result TermValue TermRefusal)
      → Answers (Ok value) test → truth_of value ≡ true
      → Answers r then → Answers r (terms.Conditional test then otherwise)
  then_answers test then otherwise value r h holds g =
      let taken : truth_of (value_of env test) ≡ true = ap truth_of (sym h.0) ∙ holds in
      rw (value-Conditional test then otherwise, width-Conditional env test then otherwise, h.1, taken) g

  pub otherwise_answers : (test then otherwise : Term) (value : TermValue) (r : Result TermValue TermRefusal)
      → Answers (Ok value) test → truth_of value ≡ false
      → Answers r otherwise → Answers r (terms.Conditional test then otherwise)
  otherwise_answers test then otherwise value r h fails' g =
      let taken : truth_of (value_of env test) ≡ false = ap truth_of (sym h.0) ∙ fails' in
      rw (value-Conditional test then otherwise, width-Conditional env test then otherwise, h.1, taken) g

  pub list_fails : (e : TermRefusal) (list index number : Term)
      → Answers (Err e) list → Answers (Err e) (terms.Update list index number)
  list_fails e list index number =
      fails e _ _ _ _ (λ h. rw (width-Update env list index number) (rw h refl))

  pub index_fails : (e : TermRefusal) (list index number : Term) → passes_width env list ≡ false
      → Answers (Err e) index → Answers (Err e) (terms.Update list index number)
  index_fails e list index number within =
      fails e _ _ _ _ (λ h. rw (width-Update env list index number) (rw within (rw h refl)))

  pub number_fails : (e : TermRefusal) (list index number : Term) → passes_width env list ≡ false
      → passes_width env index ≡ false → Answers (Err e) number → Answers (Err e) (terms.Update list index number)
  number_fails e list index number within within' =
      fails e _ _ _ _ (λ h. rw (width-Update env list index number) (rw within (rw within' (rw h refl))))

  pub update_answers : (list index number : Term) (l i n : TermValue) (numbers : List ℤ)
      → Answers (Ok l) list → Answers (Ok i) index → Answers (Ok n) number
      → numbers ≡ updated (list_of l) (number_of i) (number_of n)
      → Answers (Ok (values.List numbers)) (terms.Update list index number)
  update_answers list index number l i n numbers hl hi hn is =
      rw (value-Update list index number, width-Update env list index number, hl.1, hi.1, hn.1)
      (rw (is, hl.0, hi.0, hn.0) (refl, refl))

  pub moved : (r : Result TermValue TermRefusal) {term other : Term} → term ≡ other → Answers r term → Answers r other
  moved r e = subst (Answers r) e

  pub moved_back : (r : Result TermValue TermRefusal) {term other : Term} → other ≡ term → Answers r term → Answers r other
  moved_back r e = subst (Answers r) (sym e)

  -- the elements of a list one by one
  pub next_number : (elements : List Term) (k : ℕ) (element : Term) (value : TermValue) (numbers whole : List ℤ)
      → k < length elements → element ≡ get_or elements k element → Answers (Ok value) element
      → numbers ++ map number_of (map (value_of env) (drop k elements)) ≡ whole
      → (numbers ++ number_of value ∷ []) ++ map number_of (map (value_of env) (drop (k + 1) elements)) ≡ whole
  next_number elements k element value numbers whole within is h same =
      let front : drop k elements ≡ element ∷ drop (suc k) elements = drop-cons elements k element within ∙ ap (λ t. t ∷ drop (suc k) elements) (sym is) in
      let rest = map number_of (map (value_of env) (drop (suc k) elements)) in
      rw (add-one, append_assoc)
      (ap (λ n. numbers ++ n ∷ rest) (ap number_of h.0)
      ∙ ap (λ l. numbers ++ map number_of (map (value_of env) l)) (sym front) ∙ same)

  pub next_width : (elements : List Term) (k : ℕ) (element : Term) (value : TermValue)
      → k < length elements → element ≡ get_or elements k element → Answers (Ok value) element
      → list_any (passes_width env) (drop k elements) ≡ list_any (passes_width env) elements
      → list_any (passes_width env) (drop (k + 1) elements) ≡ list_any (passes_width env) elements
  next_width elements k element value within is h same =
      let front : drop k elements ≡ element ∷ drop (suc k) elements = drop-cons elements k element within ∙ ap (λ t. t ∷ drop (suc k) elements) (sym is) in
      rw add-one
      (ap (λ b. b || list_any (passes_width env) (drop (suc k) elements)) (sym h.1)
      ∙ ap (list_any (passes_width env)) (sym front) ∙ same)

  pub elements_fail : (e : TermRefusal) (elements : List Term)
      → Computes (Err e) (map number_of (map (value_of env) elements)) (list_any (passes_width env) elements)
      → Answers (Err e) (terms.List elements)
  elements_fail e elements = fails e _ _ _ _ (λ wide. width-List env elements ∙ wide)

  pub list_answers : (elements : List Term) (numbers : List ℤ)
      → Computes (Ok numbers) (map number_of (map (value_of env) elements)) (list_any (passes_width env) elements)
      → Answers (Ok (values.List numbers)) (terms.List elements)
  list_answers elements numbers h = (ap values.List h.0 ∙ sym (value-List elements), width-List env elements ∙ h.1)

-- a name's value, and what is its own value
module _ (env : Environment) where
  pub name_answers : (name : List ℕ) (value : TermValue)
      → value ≡ unwrap_or (binding_of name env) (values.Integer (pos 0)) → Answers env (Ok value) (terms.Variable name)
  name_answers name value is = (
    is ∙ sym (ap (value_of env) (sym (terms.rolls-Variable name)) ∙ fold-roll-Term TermValue (value_step env) (Term-F.Variable name)),
    width-Variable env name,
  )

  pub integer_answers : (number : ℤ) → Answers env (Ok (values.Integer number)) (terms.Integer number)
  integer_answers number = (
    sym (ap (value_of env) (sym (terms.rolls-Integer number)) ∙ fold-roll-Term TermValue (value_step env) (Term-F.Integer number)),
    width-Integer env number,
  )

  pub truth_answers : (truth : Bool) → Answers env (Ok (values.Truth truth)) (terms.Truth truth)
  truth_answers truth = (
    sym (ap (value_of env) (sym (terms.rolls-Truth truth)) ∙ fold-roll-Term TermValue (value_step env) (Term-F.Truth truth)),
    width-Truth env truth,
  )

  pub null_answers : Answers env (Ok (values.Location locations.Null)) terms.Null
  null_answers =
      (sym (ap (value_of env) (sym terms.rolls-Null) ∙ fold-roll-Term TermValue (value_step env) Term-F.Null), width-Null env)
