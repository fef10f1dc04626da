-- how large every figure of the method gets under the limits of the questions, partial sums included; all of it fits signed 64 bits
use Rattle.std.proofs.Common.{ℕ, suc, ◌*◌, ◌^◌, ◌<◌, ◌≤◌, Bool, true, false, cond, eqb, ℤ, pos, ◌-ℤ◌, ◌*ℤ◌, nat_abs, le_refl, mul-le-mul_right, mul-le-mul, arith, w64, SFits}
use borrow.Author.Differences.{ints}
use Rattle.span.specs.Intervals.{Interval, point, ◌+ᵢ◌, ◌-ᵢ◌, ◌*ᵢ◌}
use Rattle.span.specs.Spans.{Fits}
use Rattle.method.specs.Sums.{int_sum, sumᵢ}
use Rattle.method.specs.Method.{Game, Proposal, size, leftover, correction, residual, product, iteration, step}
use Rattle.method.specs.Limits.{Admitted, Offered}
use Rattle.method.proofs.Sizes.{natAbs--, unsigned_abs_product, unsigned_abs_sum, size-+, size--, size_product, size_sum, size_brought}

-- 64 bits
pub fits : (b S : ℕ) → S ≤ 1048576 → b ≤ 7020000 → b * (S * S) < 2 ^ 63
fits b S h k = omega (arith, mul-le-mul k (mul-le-mul h h))

pub integer_fits : (z : ℤ) → nat_abs z < 2 ^ 63 → SFits w64 z
integer_fits z h = omega (arith, ints)

pub interval_fits : (s : Interval) → size s < 2 ^ 63 → Fits s
interval_fits s h = record { low = integer_fits s.low (omega arith); high = integer_fits s.high (omega arith) }

-- the same from a bound of the kind below
pub integer_fits_by : (b S : ℕ) (z : ℤ) → S ≤ 1048576 → b ≤ 7020000 → nat_abs z ≤ b * (S * S) → SFits w64 z
integer_fits_by b S z h k l = integer_fits z (omega (arith, fits b S h k))

pub interval_fits_by : (b S : ℕ) (s : Interval) → S ≤ 1048576 → b ≤ 7020000 → size s ≤ b * (S * S) → Fits s
interval_fits_by b S s h k l = interval_fits s (omega (arith, fits b S h k))

-- and of a figure brought back
pub interval_fits_units : (b S : ℕ) (s : Interval) → S ≤ 1048576 → b ≤ 7020000 → size s ≤ b * S → Fits s
interval_fits_units b S s h k l = interval_fits s (omega (arith, mul-le-mul k h))

-- sums of at most k figures, each within b
unsigned_abs_sum_within : (m k b : ℕ) (f : ℕ → ℤ) → m ≤ k → ((i : ℕ) → i < m → nat_abs (f i) ≤ b) → nat_abs (int_sum m f) ≤ k * b
unsigned_abs_sum_within m k b f h p = omega (arith, unsigned_abs_sum m b f p, mul-le-mul_right b h)

size_sum_within : (m k b : ℕ) (f : ℕ → Interval) → m ≤ k → ((i : ℕ) → i < m → size (f i) ≤ b) → size (sumᵢ m f) ≤ k * b
size_sum_within m k b f h p = omega (arith, size_sum m b f p, mul-le-mul_right b h)

module _ (S : ℕ) (some : 0 < S) (G : Game) (H : Proposal) (g : Admitted S G) (o : Offered S H) where
  -- e
  pub leftover_term : (v i j : ℕ) → nat_abs (G.matrix v i j *ℤ H.guess j) ≤ 100 * (S * S)
  leftover_term v i j = omega (arith, unsigned_abs_product (G.matrix v i j) (H.guess j) (g.matrix v i j) (o.guess j))

  pub leftover_sum : (v i m : ℕ) → m ≤ G.states → nat_abs (int_sum m (λ j. G.matrix v i j *ℤ H.guess j)) ≤ 1200 * (S * S)
  leftover_sum v i m h = omega (arith, unsigned_abs_sum_within m 12 (100 * (S * S)) (λ j. G.matrix v i j *ℤ H.guess j) (omega (arith, g.states)) (λ j k. leftover_term v i j))

  pub leftover_payout : (v i : ℕ) → nat_abs (pos S *ℤ G.payout v i) ≤ 100 * (S * S)
  leftover_payout v i = omega (arith, unsigned_abs_product {a = S} (pos S) (G.payout v i) (le_refl S) (g.payout v i))

  pub leftover_difference : (v i m : ℕ) → m ≤ G.states → nat_abs (pos S *ℤ G.payout v i -ℤ int_sum m (λ j. G.matrix v i j *ℤ H.guess j)) ≤ 1300 * (S * S)
  leftover_difference v i m h = omega (arith, natAbs-- (pos S *ℤ G.payout v i) (int_sum m (λ j. G.matrix v i j *ℤ H.guess j)), leftover_payout v i, leftover_sum v i m h)

  pub leftover_size : (v i : ℕ) → size (leftover S G H v i) ≤ 1300 * S
  unfolding leftover
  leftover_size v i = size_brought S (1300 * S) _ some (omega (arith, leftover_difference v i G.states (le_refl G.states)))

  -- z
  pub correction_term : (v i j : ℕ) → size (point (H.table i j) *ᵢ leftover S G H v j) ≤ 65000 * (S * S)
  correction_term v i j = omega (arith, size_product {a = 50 * S} (point (H.table i j)) (leftover S G H v j) (omega (arith, o.table i j)) (leftover_size v j))

  pub correction_sum : (v i m : ℕ) → m ≤ G.states → size (sumᵢ m (λ j. point (H.table i j) *ᵢ leftover S G H v j)) ≤ 780000 * (S * S)
  correction_sum v i m h = omega (arith, size_sum_within m 12 (65000 * (S * S)) (λ j. point (H.table i j) *ᵢ leftover S G H v j) (omega (arith, g.states)) (λ j k. correction_term v i j))

  pub correction_size : (v i : ℕ) → size (correction S G H v i) ≤ 780000 * S
  unfolding correction
  correction_size v i = size_brought S (780000 * S) _ some (omega (arith, correction_sum v i G.states (le_refl G.states)))

  -- Z
  pub residual_fixed : (i : ℕ) → size (point (pos S) *ᵢ correction S G H 0 i) ≤ 780000 * (S * S)
  residual_fixed i = omega (arith, size_product {a = S} (point (pos S)) (correction S G H 0 i) (omega arith) (correction_size 0 i))

  pub residual_term : (v i : ℕ) → size (G.range (suc v) *ᵢ correction S G H (suc v) i) ≤ 780000 * (S * S)
  residual_term v i = omega (arith, size_product (G.range (suc v)) (correction S G H (suc v) i) (g.range (suc v)) (correction_size (suc v) i))

  pub residual_sum : (i m : ℕ) → m ≤ G.settings → size (sumᵢ m (λ v. G.range (suc v) *ᵢ correction S G H (suc v) i)) ≤ 6240000 * (S * S)
  residual_sum i m h = omega (arith, size_sum_within m 8 (780000 * (S * S)) (λ v. G.range (suc v) *ᵢ correction S G H (suc v) i) (omega (arith, g.settings)) (λ v k. residual_term v i))

  pub residual_whole : (i m : ℕ) → m ≤ G.settings → size (point (pos S) *ᵢ correction S G H 0 i +ᵢ sumᵢ m (λ v. G.range (suc v) *ᵢ correction S G H (suc v) i)) ≤ 7020000 * (S * S)
  residual_whole i m h = omega (arith, size-+ (point (pos S) *ᵢ correction S G H 0 i) (sumᵢ m (λ v. G.range (suc v) *ᵢ correction S G H (suc v) i)), residual_fixed i, residual_sum i m h)

  pub residual_within : (i : ℕ) → size (residual S G H i) ≤ 7020000 * S
  unfolding residual
  residual_within i = size_brought S (7020000 * S) _ some (omega (arith, residual_whole i G.settings (le_refl G.settings)))

  -- M
  pub product_term : (v i j l : ℕ) → nat_abs (H.table i l *ℤ G.matrix v l j) ≤ 50 * (S * S)
  product_term v i j l = omega (arith, unsigned_abs_product (H.table i l) (G.matrix v l j) (o.table i l) (g.matrix v l j))

  pub product_sum : (v i j m : ℕ) → m ≤ G.states → nat_abs (int_sum m (λ l. H.table i l *ℤ G.matrix v l j)) ≤ 600 * (S * S)
  product_sum v i j m h = omega (arith, unsigned_abs_sum_within m 12 (50 * (S * S)) (λ l. H.table i l *ℤ G.matrix v l j) (omega (arith, g.states)) (λ l k. product_term v i j l))

  pub product_size : (v i j : ℕ) → size (product S G H v i j) ≤ 600 * S
  unfolding product
  product_size v i j = size_brought S (600 * S) _ some (omega (arith, product_sum v i j G.states (le_refl G.states)))

  -- C
  unit_size : (b : Bool) → nat_abs (cond b (pos (S * S)) (pos 0)) ≤ S * S
  unit_size true = le_refl (S * S)
  unit_size false = omega arith

  pub iteration_unit : (i j : ℕ) → size (point (cond (eqb i j) (pos (S * S)) (pos 0))) ≤ S * S
  iteration_unit i j = omega (arith, unit_size (eqb i j))

  pub iteration_fixed : (i j : ℕ) → size (point (pos S) *ᵢ product S G H 0 i j) ≤ 600 * (S * S)
  iteration_fixed i j = omega (arith, size_product {a = S} (point (pos S)) (product S G H 0 i j) (omega arith) (product_size 0 i j))

  pub iteration_term : (v i j : ℕ) → size (G.range (suc v) *ᵢ product S G H (suc v) i j) ≤ 600 * (S * S)
  iteration_term v i j = omega (arith, size_product (G.range (suc v)) (product S G H (suc v) i j) (g.range (suc v)) (product_size (suc v) i j))

  pub iteration_sum : (i j m : ℕ) → m ≤ G.settings → size (sumᵢ m (λ v. G.range (suc v) *ᵢ product S G H (suc v) i j)) ≤ 4800 * (S * S)
  iteration_sum i j m h = omega (arith, size_sum_within m 8 (600 * (S * S)) (λ v. G.range (suc v) *ᵢ product S G H (suc v) i j) (omega (arith, g.settings)) (λ v k. iteration_term v i j))

  pub iteration_difference : (i j : ℕ) → size (point (cond (eqb i j) (pos (S * S)) (pos 0)) -ᵢ point (pos S) *ᵢ product S G H 0 i j) ≤ 601 * (S * S)
  iteration_difference i j = omega (arith, size-- (point (cond (eqb i j) (pos (S * S)) (pos 0))) (point (pos S) *ᵢ product S G H 0 i j), iteration_unit i j, iteration_fixed i j)

  pub iteration_whole : (i j m : ℕ) → m ≤ G.settings → size (point (cond (eqb i j) (pos (S * S)) (pos 0)) -ᵢ point (pos S) *ᵢ product S G H 0 i j -ᵢ sumᵢ m (λ v. G.range (suc v) *ᵢ product S G H (suc v) i j)) ≤ 5401 * (S * S)
  iteration_whole i j m h = omega (arith, size-- (point (cond (eqb i j) (pos (S * S)) (pos 0)) -ᵢ point (pos S) *ᵢ product S G H 0 i j) (sumᵢ m (λ v. G.range (suc v) *ᵢ product S G H (suc v) i j)), iteration_difference i j, iteration_sum i j m h)

  pub iteration_size : (i j : ℕ) → size (iteration S G H i j) ≤ 5401 * S
  unfolding iteration
  iteration_size i j = size_brought S (5401 * S) _ some (omega (arith, iteration_whole i j G.settings (le_refl G.settings)))

-- V, where Z, C and the box are within 49, 1 and 100 wholes
module _ (S : ℕ) (some : 0 < S) (G : Game) (H : Proposal) (n : G.states ≤ 12) (z : (i : ℕ) → i < G.states → size (residual S G H i) ≤ 49 * S) (c : (i j : ℕ) → i < G.states → j < G.states → size (iteration S G H i j) ≤ S) (Y : ℕ → Interval) (y : (j : ℕ) → j < G.states → size (Y j) ≤ 100 * S) where
  pub step_fixed : (i : ℕ) → i < G.states → size (point (pos S) *ᵢ residual S G H i) ≤ 49 * (S * S)
  step_fixed i h = omega (arith, size_product {a = S} (point (pos S)) (residual S G H i) (omega arith) (z i h))

  pub step_term : (i j : ℕ) → i < G.states → j < G.states → size (iteration S G H i j *ᵢ Y j) ≤ 100 * (S * S)
  step_term i j h k = omega (arith, size_product (iteration S G H i j) (Y j) (c i j h k) (y j k))

  pub step_sum : (i m : ℕ) → i < G.states → m ≤ G.states → size (sumᵢ m (λ j. iteration S G H i j *ᵢ Y j)) ≤ 1200 * (S * S)
  step_sum i m h k = omega (arith, size_sum_within m 12 (100 * (S * S)) (λ j. iteration S G H i j *ᵢ Y j) (omega arith) (λ j l. step_term i j h (omega arith)))

  pub step_whole : (i m : ℕ) → i < G.states → m ≤ G.states → size (point (pos S) *ᵢ residual S G H i +ᵢ sumᵢ m (λ j. iteration S G H i j *ᵢ Y j)) ≤ 1249 * (S * S)
  step_whole i m h k = omega (arith, size-+ (point (pos S) *ᵢ residual S G H i) (sumᵢ m (λ j. iteration S G H i j *ᵢ Y j)), step_fixed i h, step_sum i m h k)

  pub step_size : (i : ℕ) → i < G.states → size (step S G H Y i) ≤ 1249 * S
  unfolding step
  step_size i h = size_brought S (1249 * S) _ some (omega (arith, step_whole i G.states h (le_refl G.states)))
