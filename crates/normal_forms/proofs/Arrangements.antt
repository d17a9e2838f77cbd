-- Factors one by one.
use Rattle.std.proofs.Common.{◌≡◌, ℕ, zero, suc, ◌<◌, List, [], ◌∷◌, ◌++◌, length, map, take, get_or, ap, ◌∙◌, sym, append_assoc, append-nil, arith}
use Rattle.std.specs.List.{concat}
use Rattle.normal_forms.specs.declared.product.Factor.{Factor}

pub one_key_more : (items : List Factor) (i : ℕ) (item : Factor) → i < length items → item ≡ get_or items i item
    → concat (map (λ factor. factor.key) (take (suc i) items)) ≡ concat (map (λ factor. factor.key) (take i items)) ++ item.key
one_key_more [] i item lt is = absurd (omega arith)
one_key_more (x ∷ xs) zero item lt is = append-nil x.key ∙ ap (λ f. f.key) (sym is)
one_key_more (x ∷ xs) (suc i) item lt is =
    ap (λ l. x.key ++ l) (one_key_more xs i item (omega arith) is)
    ∙ sym (append_assoc x.key (concat (map (λ factor. factor.key) (take i xs))) item.key)

pub one_term_more : (items : List Factor) (i : ℕ) (item : Factor) → i < length items → item ≡ get_or items i item
    → map (λ factor. factor.term) (take (suc i) items) ≡ map (λ factor. factor.term) (take i items) ++ item.term ∷ []
one_term_more [] i item lt is = absurd (omega arith)
one_term_more (x ∷ xs) zero item lt is = ap (λ f. f.term ∷ []) (sym is)
one_term_more (x ∷ xs) (suc i) item lt is = ap (λ l. x.term ∷ l) (one_term_more xs i item (omega arith) is)
