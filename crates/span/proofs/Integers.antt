-- algebra and order of the integers, as the proofs here and in the crates above need it
use Rattle.std.proofs.Common.{◌≡◌, ℕ, suc, ◌*◌, ℤ, pos, negsuc, ◌+ℤ◌, ◌*ℤ◌, neg_ℤ, ◌≤ℤ◌, sym, ap, ◌∙◌, mul-le-mul_left, arith}
use borrow.Author.Differences.{up, down, same_out, Apart-out, lt_T, le_T, lt_not, le_not, lt-true, lt-false, le-true, le-false, true-lt, false-lt, true-le, false-le, not_negative_out, lt_out, le_out, same_in, lt_in, le_in, below_in, at_most_in, not_negative_in, true_is_lt, false_is_lt, true_is_le, false_is_le, sum_is_lem, neg_is, product_is, abs_is, ints}
use lib.IntN.{*ℤ_comm}

-- for `omega`: sums, signs, sizes and orders of integers, a product being an atom
pub ruleset lin = (same_out, Apart-out, lt_T, le_T, lt_not, le_not, lt-true, lt-false, le-true, le-false, true-lt, false-lt, true-le, false-le, not_negative_out, lt_out, le_out, same_in, lt_in, le_in, below_in, at_most_in, not_negative_in, true_is_lt, false_is_lt, true_is_le, false_is_le, sum_is_lem, neg_is, abs_is)

pub *ℤ_add_left : (a b c : ℤ) → (a +ℤ b) *ℤ c ≡ a *ℤ c +ℤ b *ℤ c
*ℤ_add_left a b c = omega (arith, ints, ap (λ n. n * up c) (sum_is_lem a b), ap (λ n. n * down c) (sum_is_lem a b))

pub *ℤ_add_right : (a b c : ℤ) → a *ℤ (b +ℤ c) ≡ a *ℤ b +ℤ a *ℤ c
*ℤ_add_right a b c = omega (arith, ints, ap (λ n. up a * n) (sum_is_lem b c), ap (λ n. down a * n) (sum_is_lem b c))

pub *ℤ_neg_left : (a b : ℤ) → neg_ℤ a *ℤ b ≡ neg_ℤ (a *ℤ b)
*ℤ_neg_left a b = omega (arith, ints, ap (λ n. n * up b) (neg_is a).0, ap (λ n. n * down b) (neg_is a).0, ap (λ n. n * up b) (neg_is a).1, ap (λ n. n * down b) (neg_is a).1)

pub *ℤ_neg_right : (a b : ℤ) → a *ℤ neg_ℤ b ≡ neg_ℤ (a *ℤ b)
*ℤ_neg_right a b = *ℤ_comm a (neg_ℤ b) ∙ *ℤ_neg_left b a ∙ ap neg_ℤ (*ℤ_comm b a)

pub neg_add : (a b : ℤ) → neg_ℤ (a +ℤ b) ≡ neg_ℤ a +ℤ neg_ℤ b
neg_add a b = omega (arith, lin)

pub *ℤ_assoc : (a b c : ℤ) → a *ℤ b *ℤ c ≡ a *ℤ (b *ℤ c)
*ℤ_assoc a b c = omega (arith, ints, ap (λ n. n * up c) (product_is a b).0, ap (λ n. n * down c) (product_is a b).0, ap (λ n. n * up c) (product_is a b).1, ap (λ n. n * down c) (product_is a b).1, ap (λ n. up a * n) (product_is b c).0, ap (λ n. down a * n) (product_is b c).0, ap (λ n. up a * n) (product_is b c).1, ap (λ n. down a * n) (product_is b c).1)

pub *ℤ_left_comm : (a b c : ℤ) → a *ℤ (b *ℤ c) ≡ b *ℤ (a *ℤ c)
*ℤ_left_comm a b c = sym (*ℤ_assoc a b c) ∙ ap (λ z. z *ℤ c) (*ℤ_comm a b) ∙ *ℤ_assoc b a c

-- for `simp`: products multiplied out, the order of factors kept
pub ruleset distrib = (*ℤ_add_left, *ℤ_add_right, *ℤ_neg_left, *ℤ_neg_right, neg_add)

-- for `simp`: the same, with each product's factors sorted; an identity is then `simp expand (omega (arith, lin))`
pub ruleset expand = (distrib, *ℤ_assoc, *ℤ_comm, *ℤ_left_comm)

-- an order times a number that is not negative
pub scaled : (k : ℕ) {a b : ℤ} → a ≤ℤ b → (pos k *ℤ a) ≤ℤ (pos k *ℤ b)
scaled k {a} {b} h = omega (arith, ints, mul-le-mul_left k (le_out a b h))

-- an order times a number that is negative
pub turned : (k : ℕ) {a b : ℤ} → a ≤ℤ b → (negsuc k *ℤ b) ≤ℤ (negsuc k *ℤ a)
turned k {a} {b} h = omega (arith, ints, mul-le-mul_left (suc k) (le_out a b h))
