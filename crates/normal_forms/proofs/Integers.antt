-- The laws of sums and products of integers that std doesn't have.
use Rattle.std.proofs.Common.{◌≡◌, ◌*◌, ℤ, pos, negsuc, ◌+ℤ◌, ◌-ℤ◌, ◌*ℤ◌, neg_ℤ, ap, sym, ◌∙◌, arith}
use Rattle.std.proofs.lemmas.Int.{ints}
use Rattle.std.proofs.Math.IntN.{*ℤ_comm}
use borrow.Author.Differences.{up, down, same_in, sum_is_lem, product_is}

pub mul_add : (a b c : ℤ) → a *ℤ (b +ℤ c) ≡ a *ℤ b +ℤ a *ℤ c
mul_add a b c =
    let sum = sum_is_lem b c in
    let by_up = ap (λ n. up a * n) sum in
    let by_down = ap (λ n. down a * n) sum in
    same_in _ _ (omega (
      arith,
      by_up,
      by_down,
      product_is a (b +ℤ c),
      product_is a b,
      product_is a c,
      sum_is_lem
          (a *ℤ b) (a *ℤ c),
    ))

pub add_mul : (a b c : ℤ) → (a +ℤ b) *ℤ c ≡ a *ℤ c +ℤ b *ℤ c
add_mul a b c =
    let sum = sum_is_lem a b in
    let by_up = ap (λ n. n * up c) sum in
    let by_down = ap (λ n. n * down c) sum in
    same_in _ _ (omega (
      arith,
      by_up,
      by_down,
      product_is (a +ℤ b) c,
      product_is a c,
      product_is b c,
      sum_is_lem
          (a *ℤ c) (b *ℤ c),
    ))

pub mul_assoc : (a b c : ℤ) → (a *ℤ b) *ℤ c ≡ a *ℤ (b *ℤ c)
mul_assoc a b c =
    let left = product_is a b in
    let right = product_is b c in
    let up_up = ap (λ n. n * up c) left.0 in
    let up_down = ap (λ n. n * down c) left.0 in
    let down_up = ap (λ n. n * up c) left.1 in
    let down_down = ap (λ n. n * down c) left.1 in
    let by_up_up = ap (λ n. up a * n) right.0 in
    let by_down_up = ap (λ n. down a * n) right.0 in
    let by_up_down = ap (λ n. up a * n) right.1 in
    let by_down_down = ap (λ n. down a * n) right.1 in
    same_in _ _ (omega (arith, product_is (a *ℤ b) c, product_is a (b *ℤ c)))

pub mul_one : (a : ℤ) → a *ℤ pos 1 ≡ a
mul_one a = omega (arith, ints)

pub one_mul : (a : ℤ) → pos 1 *ℤ a ≡ a
one_mul a = *ℤ_comm (pos 1) a ∙ mul_one a

pub minus_one : (a : ℤ) → negsuc 0 *ℤ a ≡ neg_ℤ a
minus_one a = omega (arith, ints)

pub minus_is : (a b : ℤ) → a -ℤ b ≡ a +ℤ negsuc 0 *ℤ b
minus_is a b = omega (arith, ints)

-- two factors and two products change places
pub products_meet : (a b c d : ℤ) → (a *ℤ b) *ℤ (c *ℤ d) ≡ (a *ℤ c) *ℤ (b *ℤ d)
products_meet a b c d =
    mul_assoc a b (c *ℤ d) ∙ ap (λ x. a *ℤ x) (sym (mul_assoc b c d) ∙ ap (λ x. x *ℤ d) (*ℤ_comm b c) ∙ mul_assoc c b d)
    ∙ sym (mul_assoc a c (b *ℤ d))

pub add_swap : (a b c : ℤ) → a +ℤ (b +ℤ c) ≡ b +ℤ (a +ℤ c)
add_swap a b c = omega (arith, ints)

pub mul_swap_front : (a b c : ℤ) → a *ℤ (b *ℤ c) ≡ b *ℤ (a *ℤ c)
mul_swap_front a b c = sym (mul_assoc a b c) ∙ ap (λ x. x *ℤ c) (*ℤ_comm a b) ∙ mul_assoc b a c
