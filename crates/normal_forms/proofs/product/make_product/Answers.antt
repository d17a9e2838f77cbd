use Rattle.std.proofs.Common.{◌≡◌, ◌++◌, [], ◌∷◌, map, take, ap, ◌∙◌, sym, add-one}
use Rattle.std.specs.List.{concat}
use Rattle.normal_forms.proofs.Arrangements.{one_key_more, one_term_more}
use Rattle.normal_forms.proofs.product.make_product.Goals as goal

pub loop-factor-preserved : goal.loop-factor-preserved
loop-factor-preserved c =
    let items = c.as_slice-factor-items.result.now in
    let i = c.loop-factor.factor-index in
    let item = c.factor-item.result in
    let key : c.push_numbers.new.key ≡ c.loop-factor.key ++ item.key = cc (c.in_ok-push_numbers.ensures, c.as_slice.ensures) in
    let term : c.push.new.self ≡ c.loop-factor.factors ++ item.term ∷ [] = cc (c.in_ok-push.ensures.ok, c.in_ok-share.ensures) in
    record {
      keys = key ∙ ap (λ l. l ++ item.key) c.loop-factor.invariant.keys
          ∙ sym (one_key_more items i item c.loop-factor-test.true c.factor-item.is)
          ∙ ap (λ n. concat (map (λ factor. factor.key) (take n items))) (sym (add-one i));
      terms = term ∙ ap (λ l. l ++ item.term ∷ []) c.loop-factor.invariant.terms
          ∙ sym (one_term_more items i item c.loop-factor-test.true c.factor-item.is)
          ∙ ap (λ n. map (λ factor. factor.term) (take n items)) (sym (add-one i));
    }
