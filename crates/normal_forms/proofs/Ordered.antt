-- Factors that stand in order stay as they are when they are put in order again.
use Rattle.std.proofs.Common.{◌≡◌, ℕ, Bool, true, false, cond, List, [], ◌∷◌, ◌++◌, map, refl, ap, ◌∙◌, sym, subst, append_assoc, append-nil}
use Rattle.std.specs.Ordering.{nat_cmp, is_gt, ordering_reverse}
use Rattle.std.specs.Cmp.{IsTotalOrder, on_total}
use Rattle.std.specs.Cmp.Lexicographic.{slice_cmp, nat_list_cmp_total}
use Rattle.std.specs.declared.cmp.Ordering.{Ordering}
use Rattle.std.specs.declared.cmp.Ordering.TheVariants.{Less, Equal, Greater}
use Rattle.rc_terms.specs.declared.term.Term.{Term}
use Rattle.normal_forms.specs.declared.product.Factor.{Factor}
use Rattle.normal_forms.specs.declared.product.Product.{Product}
use Rattle.normal_forms.specs.Sums.{keyed, placed, arranged, product_with, product_of}

abbrev order : Factor → Factor → Ordering
order f g = slice_cmp nat_cmp f.key g.key

total : IsTotalOrder order
total = on_total (λ (f : Factor). f.key) nat_list_cmp_total

-- a factor stands behind none of these
abbrev Before : Factor → List Factor → Type 0
Before f [] = Unit {0}
Before f (g ∷ gs) = (is_gt (order f g) ≡ false) × Before f gs

abbrev Ordered : List Factor → Type 0
Ordered [] = Unit {0}
Ordered (f ∷ fs) = Before f fs × Ordered fs

-- each factor has its term's key
abbrev AllKeyed : List Factor → Type 0
AllKeyed [] = Unit {0}
AllKeyed (f ∷ fs) = (keyed f.term ≡ f) × AllKeyed fs

greater : (o : Ordering) → is_gt o ≡ true → o ≡ Greater
greater Less e = cc
greater Equal e = cc
greater Greater e = refl

above_it : (f g : Factor) → is_gt (order f g) ≡ true → order g f ≡ Less
above_it f g e = total.antisymm g f ∙ ap ordering_reverse (greater (order f g) e)

alike : (r p q : Factor) → order p q ≡ Equal → order r p ≡ order r q
alike r p q e = total.antisymm r p ∙ ap ordering_reverse (total.congr p q r e) ∙ sym (total.antisymm r q)

not_above : (o : Ordering) → o ≡ Less → is_gt o ≡ false
not_above o e = ap is_gt e

before_at : (o : Ordering) (f g h : Factor) → order f g ≡ Less → order g h ≡ o → is_gt o ≡ false → is_gt (order f h) ≡ false
before_at Less f g h e is n = not_above (order f h) (total.trans f g h e is)
before_at Equal f g h e is n = not_above (order f h) (sym (alike f g h is) ∙ e)
before_at Greater f g h e is n = cc

before_all : (f g : Factor) (hs : List Factor) → order f g ≡ Less → Before g hs → Before f hs
before_all f g [] e all = tt
before_all f g (h ∷ hs) e all = (before_at (order g h) f g h e refl all.0, before_all f g hs e all.1)

before_placed_at : (behind : Bool) (g f h : Factor) (hs more : List Factor) → is_gt (order g f) ≡ false → Before g (h ∷ hs) → Before g more
    → Before g (cond behind (f ∷ h ∷ hs) (h ∷ more))
before_placed_at true g f h hs more n all rest = (n, all)
before_placed_at false g f h hs more n all rest = (all.0, rest)

before_placed : (g f : Factor) (hs : List Factor) → is_gt (order g f) ≡ false → Before g hs → Before g (placed f hs)
before_placed g f [] n all = (n, tt)
before_placed g f (h ∷ hs) n all =
    before_placed_at (is_gt (order h f)) g f h hs (placed f hs) n all (before_placed g f hs n all.1)

ordered_at : (behind : Bool) (f g : Factor) (gs more : List Factor) → is_gt (order g f) ≡ behind → Ordered (g ∷ gs)
    → (is_gt (order g f) ≡ false → Before g more) → Ordered more → Ordered (cond behind (f ∷ g ∷ gs) (g ∷ more))
ordered_at true f g gs more is all rest next =
    let less = above_it g f is in ((not_above (order f g) less, before_all f g gs less all.0), all)
ordered_at false f g gs more is all rest next = (rest is, next)

placed_ordered : (f : Factor) (gs : List Factor) → Ordered gs → Ordered (placed f gs)
placed_ordered f [] all = (tt, tt)
placed_ordered f (g ∷ gs) all =
    ordered_at (is_gt (order g f)) f g gs (placed f gs) refl all (λ n. before_placed g f gs n all.0) (placed_ordered f gs all.1)

arranged_ordered : (fs : List Factor) (ts : List Term) → Ordered fs → Ordered (arranged fs ts)
arranged_ordered fs [] all = all
arranged_ordered fs (t ∷ ts) all = arranged_ordered (placed (keyed t) fs) ts (placed_ordered (keyed t) fs all)

keyed_at : (behind : Bool) (t : Term) (g : Factor) (gs more : List Factor) → AllKeyed (g ∷ gs) → AllKeyed more
    → AllKeyed (cond behind (keyed t ∷ g ∷ gs) (g ∷ more))
keyed_at true t g gs more all rest = (refl, all)
keyed_at false t g gs more all rest = (all.0, rest)

placed_keyed : (t : Term) (gs : List Factor) → AllKeyed gs → AllKeyed (placed (keyed t) gs)
placed_keyed t [] all = (refl, tt)
placed_keyed t (g ∷ gs) all = keyed_at (is_gt (order g (keyed t))) t g gs (placed (keyed t) gs) all (placed_keyed t gs all.1)

arranged_keyed : (fs : List Factor) (ts : List Term) → AllKeyed fs → AllKeyed (arranged fs ts)
arranged_keyed fs [] all = all
arranged_keyed fs (t ∷ ts) all = arranged_keyed (placed (keyed t) fs) ts (placed_keyed t fs all)

-- none of these stands behind a factor
abbrev Ahead : List Factor → Factor → Type 0
Ahead [] f = Unit {0}
Ahead (g ∷ gs) f = (is_gt (order g f) ≡ false) × Ahead gs f

placed_last : (f : Factor) (gs : List Factor) → Ahead gs f → placed f gs ≡ gs ++ f ∷ []
placed_last f [] all = refl
placed_last f (g ∷ gs) all =
    ap (λ b. cond b (f ∷ g ∷ gs) (g ∷ placed f gs)) all.0 ∙ ap (λ l. g ∷ l) (placed_last f gs all.1)

before_here : (g f : Factor) (front back : List Factor) → Before g (front ++ f ∷ back) → is_gt (order g f) ≡ false
before_here g f [] back all = all.0
before_here g f (h ∷ front) back all = before_here g f front back all.1

ahead : (front : List Factor) (f : Factor) (back : List Factor) → Ordered (front ++ f ∷ back) → Ahead front f
ahead [] f back all = tt
ahead (g ∷ front) f back all = (before_here g f front back all.0, ahead front f back all.1)

arranged_back : (front back : List Factor) → Ordered (front ++ back) → AllKeyed back
    → arranged front (map (λ factor. factor.term) back) ≡ front ++ back
arranged_back front [] all keys = sym (append-nil front)
arranged_back front (f ∷ back) all keys =
    let terms = map (λ (factor : Factor). factor.term) back in
    let next : (front ++ f ∷ []) ++ back ≡ front ++ f ∷ back = append_assoc front (f ∷ []) back in
    ap (λ g. arranged (placed g front) terms) keys.0
    ∙ ap (λ l. arranged l terms) (placed_last f front (ahead front f back all))
    ∙ arranged_back (front ++ f ∷ []) back (subst Ordered (sym next) all) keys.1 ∙ next

pub product_again : (ts : List Term) → product_of (product_of ts).factors ≡ product_of ts
product_again ts =
    ap product_with (arranged_back [] (arranged [] ts) (arranged_ordered [] ts tt) (arranged_keyed [] ts tt))
