-- The laws of sums and products of integers that std doesn't have.
use Rattle.std.proofs.Common.{◌≡◌, ◌*◌, ℤ, ◌+ℤ◌, ◌*ℤ◌, ap, arith}
use Rattle.std.proofs.lemmas.Int.{ints}
use borrow.Author.Differences.{up, down, same_in, sum_is_lem, product_is}

-- four numbers, added up in another order
pub add_across : (a b c d : ℤ) → (a +ℤ b) +ℤ (c +ℤ d) ≡ (a +ℤ c) +ℤ (b +ℤ d)
add_across a b c d = omega (arith, ints)

pub mul_add : (a b c : ℤ) → a *ℤ (b +ℤ c) ≡ a *ℤ b +ℤ a *ℤ c
mul_add a b c =
    let sum = sum_is_lem b c in
    let by_up = ap (λ n. up a * n) sum in
    let by_down = ap (λ n. down a * n) sum in
    same_in _ _ (omega (
      arith,
      by_up,
      by_down,
      product_is a (b +ℤ c),
      product_is a b,
      product_is a c,
      sum_is_lem
          (a *ℤ b) (a *ℤ c),
    ))

pub add_mul : (a b c : ℤ) → (a +ℤ b) *ℤ c ≡ a *ℤ c +ℤ b *ℤ c
add_mul a b c =
    let sum = sum_is_lem a b in
    let by_up = ap (λ n. n * up c) sum in
    let by_down = ap (λ n. n * down c) sum in
    same_in _ _ (omega (
      arith,
      by_up,
      by_down,
      product_is (a +ℤ b) c,
      product_is a c,
      product_is b c,
      sum_is_lem
          (a *ℤ c) (b *ℤ c),
    ))

pub mul_assoc : (a b c : ℤ) → (a *ℤ b) *ℤ c ≡ a *ℤ (b *ℤ c)
mul_assoc a b c =
    let left = product_is a b in
    let right = product_is b c in
    let up_up = ap (λ n. n * up c) left.0 in
    let up_down = ap (λ n. n * down c) left.0 in
    let down_up = ap (λ n. n * up c) left.1 in
    let down_down = ap (λ n. n * down c) left.1 in
    let by_up_up = ap (λ n. up a * n) right.0 in
    let by_down_up = ap (λ n. down a * n) right.0 in
    let by_up_down = ap (λ n. up a * n) right.1 in
    let by_down_down = ap (λ n. down a * n) right.1 in
    same_in _ _ (omega (arith, product_is (a *ℤ b) c, product_is a (b *ℤ c)))

pub mul_swap : (a b c : ℤ) → a *ℤ (b *ℤ c) ≡ b *ℤ (a *ℤ c)
mul_swap a b c =
    let first = product_is b c in
    let second = product_is a c in
    let a0 = ap (λ n. up a * n) first.0 in
    let a1 = ap (λ n. down a * n) first.1 in
    let a2 = ap (λ n. up a * n) first.1 in
    let a3 = ap (λ n. down a * n) first.0 in
    let b0 = ap (λ n. up b * n) second.0 in
    let b1 = ap (λ n. down b * n) second.1 in
    let b2 = ap (λ n. up b * n) second.1 in
    let b3 = ap (λ n. down b * n) second.0 in
    same_in _ _ (omega (arith, product_is a (b *ℤ c), product_is b (a *ℤ c)))
