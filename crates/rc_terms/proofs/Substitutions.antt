-- A term with a name replaced means what the term means where the name stands for the other term's value.
use Rattle.std.proofs.Common.{◌≡◌, ℕ, Bool, true, false, cond, List, [], ◌∷◌, ◌++◌, map, refl, ap, ◌∙◌, sym, subst, Option, Some, None, unwrap_or, pos}
use Rattle.rc_terms.specs.declared.term.Term.{Term, roll-Term}
use Rattle.rc_terms.specs.declared.term.Term.TheOpen.{Term-F}
use Rattle.rc_terms.specs.declared.term.Term.TheFolds.{map-Term, fold-roll-Term, ind-Term}
use Rattle.rc_terms.specs.declared.value.TermValue.{TermValue}
use Rattle.rc_terms.specs.declared.value.TermValue.TheVariants as values
use Rattle.rc_terms.specs.Names.{same_name}
use Rattle.rc_terms.specs.Bindings.{binding_of, first_of_two}
use Rattle.rc_terms.specs.Operators.{number_of, truth_of, list_of, unary, binary, updated}
use Rattle.rc_terms.specs.Evaluation.{Environment, value_of, value_step}
use Rattle.rc_terms.specs.Substitution.{substituted, substitution_step}

module _ {T : Type 0} where
  chosen_first : (b : Bool) (v : T) (o c : Option T)
      → first_of_two (cond b (Some v) o) c ≡ cond b (Some v) (first_of_two o c)
  chosen_first true v o c = refl
  chosen_first false v o c = refl

  -- an entry at the end counts before all others
  pub binding_of-snoc : (bindings : List (List ℕ × T)) (name other : List ℕ) (v : T)
      → binding_of other (bindings ++ (name, v) ∷ []) ≡ cond (same_name name other) (Some v) (binding_of other bindings)
  binding_of-snoc [] name other v = refl
  binding_of-snoc (entry ∷ bindings) name other v =
      ap (λ o. first_of_two o (cond (same_name entry.0 other) (Some entry.1) None)) (binding_of-snoc bindings name other v)
      ∙ chosen_first (same_name name other) v (binding_of other bindings) (cond (same_name entry.0 other) (Some entry.1) None)

module _ (env : Environment) (name : List ℕ) (by : Term) where
  abbrev changed : Environment
  changed = env ++ (name, value_of env by) ∷ []

  abbrev Agrees : Term → Type 0
  Agrees term = value_of env (substituted name by term) ≡ value_of changed term

  abbrev Part : Type 0
  Part = (term : Term) × Agrees term

  before : (x : Term-F Term) → substituted name by (roll-Term x) ≡ substitution_step name by (map-Term Term Term (substituted name by) x)
  before x = fold-roll-Term Term (substitution_step name by) x

  after : (e : Environment) (x : Term-F Term) → value_of e (roll-Term x) ≡ value_step e (map-Term Term TermValue (value_of e) x)
  after e x = fold-roll-Term TermValue (value_step e) x

  at_variable : (b : Bool) (other : List ℕ)
      → value_of env (cond b by (roll-Term (Term-F.Variable other)))
      ≡ unwrap_or (cond b (Some (value_of env by)) (binding_of other env)) (values.Integer (pos 0))
  at_variable true other = refl
  at_variable false other = after env (Term-F.Variable other)

  numbers_agree : (parts : List Part)
      → map number_of (map (value_of env) (map (substituted name by) (map (λ part. part.0) parts)))
      ≡ map number_of (map (value_of changed) (map (λ part. part.0) parts))
  numbers_agree [] = refl
  numbers_agree (part ∷ parts) =
      ap (λ v. number_of v ∷ map number_of (map (value_of env) (map (substituted name by) (map (λ part. part.0) parts)))) part.1
      ∙ ap (λ l. number_of (value_of changed part.0) ∷ l) (numbers_agree parts)

  node_agrees : (y : Term-F Part) → Agrees (roll-Term (map-Term Part Term (λ part. part.0) y))
  node_agrees (Term-F.Variable other) =
      ap (value_of env) (before (Term-F.Variable other)) ∙ at_variable (same_name name other) other
      ∙ ap (λ o. unwrap_or o (values.Integer (pos 0))) (sym (binding_of-snoc env name other (value_of env by)))
      ∙ sym (after changed (Term-F.Variable other))
  node_agrees (Term-F.Integer number) =
      ap (value_of env) (before (Term-F.Integer number)) ∙ after env (Term-F.Integer number) ∙ sym (after changed (Term-F.Integer number))
  node_agrees (Term-F.Truth truth) =
      ap (value_of env) (before (Term-F.Truth truth)) ∙ after env (Term-F.Truth truth) ∙ sym (after changed (Term-F.Truth truth))
  node_agrees Term-F.Null =
      ap (value_of env) (before Term-F.Null) ∙ after env Term-F.Null ∙ sym (after changed Term-F.Null)
  node_agrees (Term-F.List parts) =
      ap (value_of env) (before (Term-F.List (map (λ part. part.0) parts)))
      ∙ after env (Term-F.List (map (substituted name by) (map (λ part. part.0) parts)))
      ∙ ap values.List (numbers_agree parts) ∙ sym (after changed (Term-F.List (map (λ part. part.0) parts)))
  node_agrees (Term-F.Unary operator a) =
      ap (value_of env) (before (Term-F.Unary operator a.0)) ∙ after env (Term-F.Unary operator (substituted name by a.0))
      ∙ ap (unary operator) a.1 ∙ sym (after changed (Term-F.Unary operator a.0))
  node_agrees (Term-F.Binary operator a b) =
      ap (value_of env) (before (Term-F.Binary operator a.0 b.0))
      ∙ after env (Term-F.Binary operator (substituted name by a.0) (substituted name by b.0))
      ∙ ap (λ v. binary operator v (value_of env (substituted name by b.0))) a.1
      ∙ ap (binary operator (value_of changed a.0)) b.1 ∙ sym (after changed (Term-F.Binary operator a.0 b.0))
  node_agrees (Term-F.Conditional a b c) =
      ap (value_of env) (before (Term-F.Conditional a.0 b.0 c.0))
      ∙ after env (Term-F.Conditional (substituted name by a.0) (substituted name by b.0) (substituted name by c.0))
      ∙ ap (λ v. cond (truth_of v) (value_of env (substituted name by b.0)) (value_of env (substituted name by c.0))) a.1
      ∙ ap (λ v. cond (truth_of (value_of changed a.0)) v (value_of env (substituted name by c.0))) b.1
      ∙ ap (λ v. cond (truth_of (value_of changed a.0)) (value_of changed b.0) v) c.1
      ∙ sym (after changed (Term-F.Conditional a.0 b.0 c.0))
  node_agrees (Term-F.Update a b c) =
      ap (value_of env) (before (Term-F.Update a.0 b.0 c.0))
      ∙ after env (Term-F.Update (substituted name by a.0) (substituted name by b.0) (substituted name by c.0))
      ∙ ap (λ v. values.List (updated (list_of v) (number_of (value_of env (substituted name by b.0))) (number_of (value_of env (substituted name by c.0))))) a.1
      ∙ ap (λ v. values.List (updated (list_of (value_of changed a.0)) (number_of v) (number_of (value_of env (substituted name by c.0))))) b.1
      ∙ ap (λ v. values.List (updated (list_of (value_of changed a.0)) (number_of (value_of changed b.0)) (number_of v))) c.1
      ∙ sym (after changed (Term-F.Update a.0 b.0 c.0))

  pub value_of-substituted : (term : Term) → value_of env (substituted name by term) ≡ value_of changed term
  value_of-substituted =
      ind-Term Agrees (λ x y is. subst (λ z. Agrees (roll-Term z)) is (node_agrees y))
