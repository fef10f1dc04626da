-- where C's rows are within half a whole, the first box of a run is accepted
use Rattle.std.proofs.Common.{ℕ, ◌+◌, ◌*◌, ◌<◌, ◌≤◌, pos, mul-le-mul_left, arith}
use Rattle.span.specs.Intervals.{Interval, point, ◌*ᵢ◌}
use Rattle.span.proofs.Integers.{lin}
use Rattle.method.specs.Sums.{nat_sum, sumᵢ}
use Rattle.method.specs.Method.{Game, Proposal, size, residual, iteration, step, residual_size, first_box}
use Rattle.method.specs.Sound.{FirstAccepted}
use Rattle.method.proofs.Sizes.{size-+, size_product, size_sum_product, size_brought, greatest_of_above}

-- the step of a box within 2 m + 2, where Z is within m
halved_step : (S : ℕ) → 0 < S → (G : Game) (H : Proposal) (Y : ℕ → Interval) (m i : ℕ) → size (residual S G H i) ≤ m → 2 * nat_sum G.states (λ j. size (iteration S G H i j)) ≤ S → ((j : ℕ) → j < G.states → size (Y j) ≤ 2 * m + 2) → size (step S G H Y i) ≤ 2 * m + 1
unfolding step
halved_step S some G H Y m i r c y =
    size_brought S (2 * m + 1) _ some
    (omega (
      arith,
      size-+ (point (pos S) *ᵢ residual S G H i) (sumᵢ G.states (λ j. iteration S G H i j *ᵢ Y j)),
      size_product {a = S} (point (pos S)) (residual S G H i) (omega arith) r,
      size_sum_product G.states (2 * m + 2) (iteration S G H i) Y y,
      mul-le-mul_left (m + 1) c,
    ))

pub first_accepted : FirstAccepted
first_accepted S some G H half = record {
  above = λ i k. omega (arith, lin, within i k);
  below = λ i k. omega (arith, lin, within i k);
}
  where
    within : (i : ℕ) → i < G.states → size (step S G H (first_box S G H) i) ≤ 2 * residual_size S G H + 1
    within i k = halved_step S some G H (first_box S G H) (residual_size S G H) i (greatest_of_above G.states (λ j. size (residual S G H j)) i k) (half.half i k) (λ j l. omega (arith, lin))
