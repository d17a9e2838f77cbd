use Rattle.std.proofs.Common.{◌≡◌, map, take}
use Rattle.std.specs.List.{concat}
use Rattle.normal_forms.proofs.product.make_product.Given as goal

-- the keys and the terms of the factors so far
abbrev pub invariant-loop-factor : goal.invariant-loop-factor
invariant-loop-factor l =
    record {
      keys : l.key ≡ concat (map (λ factor. factor.key) (take l.factor-index l.factor-items));
      terms : l.factors ≡ map (λ factor. factor.term) (take l.factor-index l.factor-items);
    }
