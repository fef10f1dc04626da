-- numbers that a table of sizes makes smaller, measured by positive widths, and never smaller than themselves are 0
use Rattle.std.proofs.Common.{◌≡◌, ℕ, zero, suc, ◌*◌, ◌<◌, ◌≤◌, ◌⊎◌, ap, inl, inr, eq-zero-or-pos, mul-le-mul_left, arith}
use native.Mathlib.Nat.{le_of_mul-le-mul_left, mul-lt-mul_of_pos_left}
use Rattle.method.specs.Sums.{nat_sum}
use Rattle.method.proofs.SumLaws.{nat_sum_least, nat_sum_scale}

-- e over w is greatest at i, by cross products
record Peak (n : ℕ) (e w : ℕ → ℕ) : Type 0 where
  at : ℕ
  below : at < n
  most : (j : ℕ) → j < n → e j * w at ≤ e at * w j

-- a / x at most b / y at most c / z
chained : (a b c x y z : ℕ) → 0 < y → a * y ≤ b * x → b * z ≤ c * y → a * z ≤ c * x
chained a b c x y z p h k = le_of_mul-le-mul_left (omega (arith, mul-le-mul_left z h, mul-le-mul_left x k)) p

either : (a b : ℕ) → (a ≤ b) ⊎ (b ≤ a)
either a b = grind arith

-- the peak below n + 1, and the number after it
further : (n : ℕ) (e w : ℕ → ℕ) → ((j : ℕ) → j < suc (suc n) → 0 < w j) → Peak (suc n) e w → Peak (suc (suc n)) e w
further n e w p k = elim (either (e (suc n) * w k.at) (e k.at * w (suc n))) [ inl l ↦ stays l | inr m ↦ moves m ]
  where
    split : (j : ℕ) → j < suc (suc n) → (j ≡ suc n) ⊎ (j < suc n)
    split j h = grind arith

    stays : e (suc n) * w k.at ≤ e k.at * w (suc n) → Peak (suc (suc n)) e w
    stays l = record {
      at = k.at;
      below = omega (arith, k.below);
      most = λ j h. elim (split j h) [ inl s ↦ rw s l | inr s ↦ k.most j s ];
    }

    moves : e k.at * w (suc n) ≤ e (suc n) * w k.at → Peak (suc (suc n)) e w
    moves m = record {
      at = suc n;
      below = omega arith;
      most = λ j h. elim (split j h) [ inl s ↦ rw s (omega arith) | inr s ↦ chained (e j) (e k.at) (e (suc n)) (w j) (w k.at) (w (suc n)) (p k.at (omega (arith, k.below))) (k.most j s) m ];
    }

peak : (n : ℕ) (e w : ℕ → ℕ) → ((j : ℕ) → j < suc n → 0 < w j) → Peak (suc n) e w
peak zero e w p = record { at = 0; below = omega arith; most = λ j h. let z : j ≡ 0 = omega arith in rw z (omega arith) }
peak (suc n) e w p = further n e w p (peak n e w (λ j h. p j (omega arith)))

module _ (n N : ℕ) (a : ℕ → ℕ → ℕ) (w e : ℕ → ℕ)
    (shrinks : (i : ℕ) → i < n → nat_sum n (λ j. a i j * w j) < N * w i)
    (grows : (i : ℕ) → i < n → N * e i ≤ nat_sum n (λ j. a i j * e j)) where
  -- at the peak
  top_zero : (k : Peak n e w) → e k.at ≡ 0
  top_zero k = elim (eq-zero-or-pos (e k.at)) [ inl z ↦ z | inr p ↦ absurd (clash p) ]
    where
      clash : 0 < e k.at → ⊥
      clash p = omega (
        arith,
        mul-le-mul_left (w k.at) (grows k.at k.below),
        nat_sum_scale n (w k.at) (λ j. a k.at j * e j),
        nat_sum_least n (λ j. w k.at * (a k.at j * e j)) (λ j. e k.at * (a k.at j * w j)) (λ j h. omega (arith, mul-le-mul_left (a k.at j) (k.most j h))),
        nat_sum_scale n (e k.at) (λ j. a k.at j * w j),
        mul-lt-mul_of_pos_left (shrinks k.at k.below) p,
      )

  -- and so everywhere below it
  rest_zero : (k : Peak n e w) → 0 < w k.at → (i : ℕ) → i < n → e i ≡ 0
  rest_zero k p i h =
      let l : w k.at * e i ≤ w k.at * 0 = omega (arith, k.most i h, ap (λ z. z * w i) (top_zero k)) in
      let m : e i ≤ 0 = le_of_mul-le-mul_left l p in
      omega arith

-- what shrinks by the widths w and does not shrink is nothing
pub contraction : (n N : ℕ) (a : ℕ → ℕ → ℕ) (w e : ℕ → ℕ) → ((i : ℕ) → i < n → nat_sum n (λ j. a i j * w j) < N * w i) → ((i : ℕ) → i < n → N * e i ≤ nat_sum n (λ j. a i j * e j)) → (i : ℕ) → i < n → e i ≡ 0
contraction zero N a w e s g i h = elim h [ ]
contraction (suc n) N a w e s g i h = rest_zero (suc n) N a w e s g top (wide top.at top.below) i h
  where
    wide : (j : ℕ) → j < suc n → 0 < w j
    wide j l = elim (eq-zero-or-pos (w j)) [ inl z ↦ absurd (omega (arith, s j l, ap (λ m. N * m) z)) | inr p ↦ p ]

    top : Peak (suc n) e w
    top = peak n e w wide
