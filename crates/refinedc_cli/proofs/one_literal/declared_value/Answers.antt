use Rattle.std.proofs.Common.{◌∙◌, ◌≡◌, ◌∷◌, ◌++◌, ap, List, ℕ}
use Rattle.std.specs.Prelude.{codes, Some}
use Rattle.std.proofs.lemmas.Bool.Decides.{Decides-eqb}
use Rattle.std.proofs.lemmas.Slice.Eq.{strip_prefix_is, strip_suffix_is}
use Rattle.refinedc_cli.proofs.one_literal.declared_value.Goals as goal

pub returns : goal.returns
returns c =
    let quoted : c.args.text.now ≡ 34 ∷ c.in_ok-unquoted.unquoted.now =
    strip_prefix_is Decides-eqb c.args.text.now (codes "\"") (Some c.in_ok-unquoted.unquoted) c.in_ok-unquoted.ensures.cases in
    let typed : c.in_ok-unquoted.unquoted.now ≡ c.in_ok-digits.digits.now ++ codes " @ int<i32>\"" =
    strip_suffix_is Decides-eqb c.in_ok-unquoted.unquoted.now (codes " @ int<i32>\"") (Some c.in_ok-digits.digits) c.in_ok-digits.ensures.cases in
    let found = c.in_ok-constant.ensures.found in
    (found.0, quoted ∙ ap (λ (rest : List ℕ). 34 ∷ rest) (typed ∙ ap (λ (digits : List ℕ). digits ++ codes " @ int<i32>\"") found.1))
