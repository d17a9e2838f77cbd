-- Equations of sums and products, with signs.
use Rattle.std.proofs.Common.{◌≡◌, Bool, true, false, T, if◌then◌else◌, refl, sym, ap, ◌∙◌, subst, arith}
use Rattle.std.proofs.Common.{ℤ, pos, negsuc, neg_ℤ, ◌+ℤ◌, ◌*ℤ◌, ◌<ℤ◌, ◌≤ℤ◌, int_lt}
use Rattle.std.proofs.lemmas.Int.{ints, by_lt_z}
use lib.IntN.{*ℤ_comm, *ℤ-zero, zero-*ℤ, +ℤ_invl, +ℤ_invr, neg_ℤ-neg_ℤ}
use Rattle.linear_certs.specs.declared.row.RowKind.{RowKind}
use Rattle.linear_certs.specs.declared.row.RowKind.TheVariants.{Inequality, Equation}
use Rattle.linear_certs.specs.Certificate.{Says}
use Rattle.linear_certs.proofs.Integers.{mul_add, add_mul, mul_assoc, mul_swap}
use Rattle.linear_solve.specs.Derived.{own_multiple, other_multiple}
use Rattle.linear_solve.proofs.Soundness.{pos_product, less_times}
use Rattle.linear_solve.proofs.Signs.{not_negative, zero_factor, product_least}

pub swap_last : (x y z : ℤ) → (x *ℤ y) *ℤ z ≡ (x *ℤ z) *ℤ y
swap_last x y z = mul_assoc x y z ∙ ap (λ w. x *ℤ w) (*ℤ_comm y z) ∙ sym (mul_assoc x z y)

pub times_one : (z : ℤ) → z *ℤ pos 1 ≡ z
times_one z = omega (arith, ints)

alike : (a b n : ℤ) → a +ℤ b ≡ pos 0 → n +ℤ b ≡ pos 0 → a ≡ n
alike a b n left right = omega (arith, ints)

pub neg_times : (x y : ℤ) → neg_ℤ x *ℤ y ≡ neg_ℤ (x *ℤ y)
neg_times x y =
    alike (neg_ℤ x *ℤ y) (x *ℤ y) (neg_ℤ (x *ℤ y))
    (sym (add_mul (neg_ℤ x) x y) ∙ ap (λ z. z *ℤ y) (+ℤ_invl x) ∙ zero-*ℤ y) (+ℤ_invl (x *ℤ y))

pub times_neg : (x y : ℤ) → x *ℤ neg_ℤ y ≡ neg_ℤ (x *ℤ y)
times_neg x y = *ℤ_comm x (neg_ℤ y) ∙ neg_times y x ∙ ap neg_ℤ (*ℤ_comm y x)

-- a number, or the one with the opposite sign
abbrev turned : Bool → ℤ → ℤ
turned b x = if b then x else neg_ℤ x

turned_times : (b : Bool) (x y : ℤ) → turned b x *ℤ y ≡ turned b (x *ℤ y)
turned_times true x y = refl
turned_times false x y = neg_times x y

times_turned : (b : Bool) (x y : ℤ) → x *ℤ turned b y ≡ turned b (x *ℤ y)
times_turned true x y = refl
times_turned false x y = times_neg x y

pub other_times : (f x y : ℤ) → other_multiple f x *ℤ y ≡ other_multiple f (x *ℤ y)
other_times f x y = turned_times (int_lt f (pos 0)) x y

pub other_swap : (f x y : ℤ) → x *ℤ other_multiple f y ≡ other_multiple f x *ℤ y
other_swap f x y = times_turned (int_lt f (pos 0)) x y ∙ sym (turned_times (int_lt f (pos 0)) x y)

is_true : (b : Bool) → T b → b ≡ true
is_true true h = refl
is_true false h = absurd h

is_false : (a b : ℤ) → a ≤ℤ b → int_lt b a ≡ false
is_false a b h = grind (arith, ints)

pub above_other : (f x : ℤ) → pos 0 <ℤ f → other_multiple f x ≡ neg_ℤ x
above_other f x above = ap (λ b. turned b x) (is_false (pos 0) f (omega (arith, ints)))

pub below_other : (f x : ℤ) → f <ℤ pos 0 → other_multiple f x ≡ x
below_other f x below = ap (λ b. turned b x) (is_true (int_lt f (pos 0)) below.lt)

pub above_own : (f : ℤ) → pos 0 <ℤ f → own_multiple f ≡ f
above_own (pos n) above = refl
above_own (negsuc n) above = absurd (omega (arith, ints))

pub below_own : (f : ℤ) → f <ℤ pos 0 → own_multiple f ≡ neg_ℤ f
below_own (pos n) below = absurd (omega (arith, ints))
below_own (negsuc n) below = refl

own_other_above : (f : ℤ) → pos 0 ≤ℤ f → own_multiple f +ℤ other_multiple f f ≡ pos 0
own_other_above (pos n) least =
    ap (λ b. pos n +ℤ turned b (pos n)) (is_false (pos 0) (pos n) least) ∙ +ℤ_invr (pos n)
own_other_above (negsuc n) least = absurd (omega (arith, ints))

own_other_below : (f : ℤ) → f <ℤ pos 0 → own_multiple f +ℤ other_multiple f f ≡ pos 0
own_other_below f below =
    (λ i. below_own f below i +ℤ below_other f f below i) ∙ +ℤ_invl f

-- a row is cleared of its own unknown by itself
pub own_other : (f : ℤ) → own_multiple f +ℤ other_multiple f f ≡ pos 0
own_other f = by_lt_z f (pos 0) (own_other_below f) (own_other_above f)

pub self_cleared : (f n : ℤ) → own_multiple f *ℤ n +ℤ other_multiple f f *ℤ n ≡ pos 0
self_cleared f n =
    sym (add_mul (own_multiple f) (other_multiple f f) n) ∙ ap (λ z. z *ℤ n) (own_other f) ∙ zero-*ℤ n

-- a row's sum at an unknown's value p over q, where the other row's sum is 0 there
pub chosen : (f_e f n_e n p q d : ℤ) → p *ℤ (own_multiple f_e *ℤ d) ≡ other_multiple f_e n_e *ℤ q
    → own_multiple f_e *ℤ (n *ℤ q +ℤ f *ℤ (p *ℤ d))
    ≡ q *ℤ (own_multiple f_e *ℤ n +ℤ other_multiple f_e f *ℤ n_e)
chosen f_e f n_e n p q d is =
    let o = own_multiple f_e in
    let first : o *ℤ (n *ℤ q) ≡ q *ℤ (o *ℤ n) = ap (λ z. o *ℤ z) (*ℤ_comm n q) ∙ mul_swap o q n in
    let second : o *ℤ (f *ℤ (p *ℤ d)) ≡ q *ℤ (other_multiple f_e f *ℤ n_e) =
    mul_swap o f (p *ℤ d) ∙ ap (λ z. f *ℤ z) (mul_swap o p d ∙ is ∙ *ℤ_comm (other_multiple f_e n_e) q)
    ∙ mul_swap f q (other_multiple f_e n_e) ∙ ap (λ z. q *ℤ z) (other_swap f_e f n_e) in
    mul_add o (n *ℤ q) (f *ℤ (p *ℤ d)) ∙ (λ i. first i +ℤ second i)
    ∙ sym (mul_add q (o *ℤ n) (other_multiple f_e f *ℤ n_e))

-- what a row says of its sum, it says of a positive multiple too
pub says_scaled : (kind : RowKind) (a b x y : ℤ) → pos 0 <ℤ a → pos 0 <ℤ b → a *ℤ x ≡ b *ℤ y → Says kind y
    → Says kind x
says_scaled Inequality a b x y a_positive b_positive is says =
    not_negative x a (b *ℤ y) a_positive (*ℤ_comm x a ∙ is) (product_least b y b_positive says)
says_scaled Equation a b x y a_positive b_positive is says =
    zero_factor x a a_positive (*ℤ_comm x a ∙ is ∙ ap (λ z. b *ℤ z) says ∙ *ℤ-zero b)

two_scaled : (f n p q q' d : ℤ) → q' *ℤ (n *ℤ q +ℤ f *ℤ (p *ℤ d)) ≡ q' *ℤ (n *ℤ q) +ℤ (f *ℤ d) *ℤ (p *ℤ q')
two_scaled f n p q q' d =
    mul_add q' (n *ℤ q) (f *ℤ (p *ℤ d))
    ∙ ap (λ z. q' *ℤ (n *ℤ q) +ℤ z)
    (mul_swap q' f (p *ℤ d) ∙ ap (λ z. f *ℤ z) (*ℤ_comm q' (p *ℤ d) ∙ swap_last p d q' ∙ *ℤ_comm (p *ℤ q') d)
    ∙ sym (mul_assoc f d (p *ℤ q')))

times_ordered : (c x y : ℤ) → pos 0 <ℤ c → x ≤ℤ y → (c *ℤ x) ≤ℤ (c *ℤ y)
times_ordered c x y positive order =
    by_lt_z x y
    (λ less. let product = less_times x y c positive less in
    ordered_in (x *ℤ c) (y *ℤ c) (c *ℤ x) (c *ℤ y) (*ℤ_comm x c) (*ℤ_comm y c) product)
    (λ least. let same : x ≡ y = omega (arith, ints) in subst (λ z. (c *ℤ x) ≤ℤ (c *ℤ z)) same (at_most (c *ℤ x)))
  where
    ordered_in : (a b a' b' : ℤ) → a ≡ a' → b ≡ b' → a <ℤ b → a' ≤ℤ b'
    ordered_in a b a' b' left right less = omega (arith, ints)

    at_most : (a : ℤ) → a ≤ℤ a
    at_most a = omega (arith, ints)

sum_least : (x y a b k l : ℤ) → x ≡ a +ℤ k → y ≡ b +ℤ l → b ≡ a → k ≤ℤ l → pos 0 ≤ℤ x → pos 0 ≤ℤ y
sum_least x y a b k l left right same more least = omega (arith, ints)

opposite : (f n p q d : ℤ) → n *ℤ q +ℤ neg_ℤ f *ℤ (neg_ℤ p *ℤ d) ≡ n *ℤ q +ℤ f *ℤ (p *ℤ d)
opposite f n p q d =
    ap (λ z. n *ℤ q +ℤ z)
    (ap (λ z. neg_ℤ f *ℤ z) (neg_times p d) ∙ times_neg (neg_ℤ f) (p *ℤ d) ∙ ap neg_ℤ (neg_times f (p *ℤ d))
    ∙ neg_ℤ-neg_ℤ (f *ℤ (p *ℤ d)))

pub above_neg : (f : ℤ) → f <ℤ pos 0 → pos 0 <ℤ neg_ℤ f
above_neg (pos n) below = absurd (omega (arith, ints))
above_neg (negsuc n) below = omega (arith, ints)

turned_order : (x y nx ny : ℤ) → nx ≡ neg_ℤ x → ny ≡ neg_ℤ y → x ≤ℤ y → ny ≤ℤ nx
turned_order x y nx ny is_nx is_ny order =
    let no_x : nx +ℤ x ≡ pos 0 = ap (λ z. z +ℤ x) is_nx ∙ +ℤ_invl x in
    let no_y : ny +ℤ y ≡ pos 0 = ap (λ z. z +ℤ y) is_ny ∙ +ℤ_invl y in
    ordered_turned x y nx ny no_x no_y order
  where
    ordered_turned : (x y nx ny : ℤ) → nx +ℤ x ≡ pos 0 → ny +ℤ y ≡ pos 0 → x ≤ℤ y → ny ≤ℤ nx
    ordered_turned x y nx ny no_x no_y order = omega (arith, ints)

-- at a greater value, a row with a positive factor holds more
pub greater_holds : (f n p q p' q' d : ℤ) → pos 0 <ℤ f → pos 0 <ℤ d → pos 0 <ℤ q → pos 0 <ℤ q'
    → (p *ℤ q') ≤ℤ (p' *ℤ q) → pos 0 ≤ℤ (n *ℤ q +ℤ f *ℤ (p *ℤ d)) → pos 0 ≤ℤ (n *ℤ q' +ℤ f *ℤ (p' *ℤ d))
greater_holds f n p q p' q' d above d_positive positive positive' order holds =
    let scaled = product_least q' (n *ℤ q +ℤ f *ℤ (p *ℤ d)) positive' holds in
    let left = two_scaled f n p q q' d in
    let right = two_scaled f n p' q' q d in
    let swapped : q *ℤ (n *ℤ q') ≡ q' *ℤ (n *ℤ q) =
    mul_swap q n q' ∙ ap (λ z. n *ℤ z) (*ℤ_comm q q') ∙ mul_swap n q' q in
    let more = times_ordered (f *ℤ d) (p *ℤ q') (p' *ℤ q) (pos_product f d above d_positive) order in
    not_negative (n *ℤ q' +ℤ f *ℤ (p' *ℤ d)) q _ positive (*ℤ_comm _ q)
    (sum_least _ _ _ _ _ _ left right swapped more scaled)

-- at a less value, one with a negative factor does
pub less_holds : (f n p q p' q' d : ℤ) → f <ℤ pos 0 → pos 0 <ℤ d → pos 0 <ℤ q → pos 0 <ℤ q'
    → (p' *ℤ q) ≤ℤ (p *ℤ q') → pos 0 ≤ℤ (n *ℤ q +ℤ f *ℤ (p *ℤ d)) → pos 0 ≤ℤ (n *ℤ q' +ℤ f *ℤ (p' *ℤ d))
less_holds f n p q p' q' d below d_positive positive positive' order holds =
    subst (λ z. pos 0 ≤ℤ z) (opposite f n p' q' d)
    (greater_holds (neg_ℤ f) n (neg_ℤ p) q (neg_ℤ p') q' d (above_neg f below) d_positive positive positive'
    (turned_order (p' *ℤ q) (p *ℤ q') (neg_ℤ p' *ℤ q) (neg_ℤ p *ℤ q') (neg_times p' q) (neg_times p q') order)
    (subst (λ z. pos 0 ≤ℤ z) (sym (opposite f n p q d)) holds))
