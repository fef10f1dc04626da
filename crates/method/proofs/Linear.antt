-- the exact figures of the method at one choice, as fractions, and the intervals that hold them
use Rattle.std.proofs.Common.{◌≡◌, ℕ, suc, ◌*◌, ◌<◌, cond, eqb, ℤ, pos, ◌+ℤ◌, ◌-ℤ◌, ◌*ℤ◌, sym, refl, one-mul, arith}
use Rattle.span.specs.Intervals.{Interval, In, point, ◌+ᵢ◌, ◌-ᵢ◌, ◌*ᵢ◌}
use Rattle.span.proofs.Integers.{lin, *ℤ_add_right, *ℤ_left_comm}
use Rattle.span.proofs.Contains.{in_brought, in_product}
use Rattle.method.specs.Sums.{int_sum, sumᵢ}
use Rattle.method.specs.Method.{Game, Proposal, leftover, correction, residual, product, iteration, step}
use Rattle.method.proofs.SumLaws.{sum_front, sum_scale}
use Rattle.method.proofs.Insides.{in_again, in_point, in_unit, in_add, in_sub, in_sums, in_times, in_cancel}

-- t / q are the weights of the parts, in units, S to a whole: the fixed part's is one whole
pub record Weights (S : ℕ) (G : Game) (q : ℕ) (t : ℕ → ℤ) : Type 0 where
  pub fixed : In q (point (pos S)) (t 0)
  pub setting : (v : ℕ) → v < G.settings → In q (G.range (suc v)) (t (suc v))

module _ (S : ℕ) (G : Game) (H : Proposal) where
  -- over S
  abbrev pub exact_leftover : ℕ → ℕ → ℤ
  exact_leftover v i = pos S *ℤ G.payout v i -ℤ int_sum G.states (λ j. G.matrix v i j *ℤ H.guess j)

  -- over S × S
  abbrev pub exact_correction : ℕ → ℕ → ℤ
  exact_correction v i = int_sum G.states (λ l. H.table i l *ℤ exact_leftover v l)

  -- over S
  abbrev pub exact_product : ℕ → ℕ → ℕ → ℤ
  exact_product v i j = int_sum G.states (λ l. H.table i l *ℤ G.matrix v l j)

module _ (S : ℕ) (G : Game) (H : Proposal) (q : ℕ) (t : ℕ → ℤ) where
  -- over q × S × S × S
  abbrev pub exact_residual : ℕ → ℤ
  exact_residual i = int_sum (suc G.settings) (λ v. t v *ℤ exact_correction S G H v i)

  -- over q × S × S
  abbrev pub exact_iteration : ℕ → ℕ → ℤ
  exact_iteration i j = pos (q * S) *ℤ cond (eqb i j) (pos (S * S)) (pos 0) -ℤ int_sum (suc G.settings) (λ v. t v *ℤ exact_product S G H v i j)

module _ (S : ℕ) (some : 0 < S) (G : Game) (H : Proposal) where
  leftover_in : (v i : ℕ) → In S (leftover S G H v i) (exact_leftover S G H v i)
  unfolding leftover
  leftover_in v i = in_again (one-mul S) refl (in_brought S (point (exact_leftover S G H v i)) some 1 (exact_leftover S G H v i) (in_unit (exact_leftover S G H v i)))

  correction_in : (v i : ℕ) → In (S * S) (correction S G H v i) (exact_correction S G H v i)
  unfolding correction
  correction_in v i =
      in_brought S (sumᵢ G.states (λ j. point (H.table i j) *ᵢ leftover S G H v j)) some S (exact_correction S G H v i)
      (in_sums G.states S (λ j. point (H.table i j) *ᵢ leftover S G H v j) (λ l. H.table i l *ℤ exact_leftover S G H v l)
      (λ l h. in_again (one-mul S) refl (in_product (point (H.table i l)) (leftover S G H v l) 1 S (H.table i l) (exact_leftover S G H v l) (in_unit (H.table i l)) (leftover_in v l))))

  product_in : (v i j : ℕ) → In S (product S G H v i j) (exact_product S G H v i j)
  unfolding product
  product_in v i j = in_again (one-mul S) refl (in_brought S (point (exact_product S G H v i j)) some 1 (exact_product S G H v i j) (in_unit (exact_product S G H v i j)))

  module _ (q : ℕ) (t : ℕ → ℤ) (w : Weights S G q t) where
    -- the parts' figures x / k, in intervals z, times the weights: the fixed part, and the settings
    fixed_in : (z : ℕ → Interval) (k : ℕ) (x : ℕ → ℤ) → ((v : ℕ) → In k (z v) (x v)) → In (q * k) (point (pos S) *ᵢ z 0) (t 0 *ℤ x 0)
    fixed_in z k x h = in_product (point (pos S)) (z 0) q k (t 0) (x 0) w.fixed (h 0)

    settings_in : (z : ℕ → Interval) (k : ℕ) (x : ℕ → ℤ) → ((v : ℕ) → In k (z v) (x v)) → In (q * k) (sumᵢ G.settings (λ v. G.range (suc v) *ᵢ z (suc v))) (int_sum G.settings (λ v. t (suc v) *ℤ x (suc v)))
    settings_in z k x h = in_sums G.settings (q * k) (λ v. G.range (suc v) *ᵢ z (suc v)) (λ v. t (suc v) *ℤ x (suc v)) (λ v l. in_product (G.range (suc v)) (z (suc v)) q k (t (suc v)) (x (suc v)) (w.setting v l) (h (suc v)))

    residual_in : (i : ℕ) → In (q * (S * S) * S) (residual S G H i) (exact_residual S G H q t i)
    unfolding residual
    residual_in i =
        let z : ℕ → Interval = λ v. correction S G H v i in
        let x : ℕ → ℤ = λ v. exact_correction S G H v i in
        in_brought S (point (pos S) *ᵢ z 0 +ᵢ sumᵢ G.settings (λ v. G.range (suc v) *ᵢ z (suc v))) some (q * (S * S)) (exact_residual S G H q t i)
        (in_again refl (sym (sum_front G.settings (λ v. t v *ℤ x v))) (in_add {s = point (pos S) *ᵢ z 0} {t = sumᵢ G.settings (λ v. G.range (suc v) *ᵢ z (suc v))} (fixed_in z (S * S) x (λ v. correction_in v i)) (settings_in z (S * S) x (λ v. correction_in v i))))

    iteration_in : (i j : ℕ) → In (q * S * S) (iteration S G H i j) (exact_iteration S G H q t i j)
    unfolding iteration
    iteration_in i j =
        let d : ℤ = cond (eqb i j) (pos (S * S)) (pos 0) in
        let z : ℕ → Interval = λ v. product S G H v i j in
        let x : ℕ → ℤ = λ v. exact_product S G H v i j in
        let f : Interval = point (pos S) *ᵢ z 0 in
        let s : Interval = sumᵢ G.settings (λ v. G.range (suc v) *ᵢ z (suc v)) in
        in_brought S (point d -ᵢ f -ᵢ s) some (q * S) (exact_iteration S G H q t i j)
        (in_again refl (omega (arith, lin, sum_front G.settings (λ v. t v *ℤ x v)))
        (in_sub {s = point d -ᵢ f} {t = s} (in_sub {s = point d} {t = f} (in_point (q * S) d) (fixed_in z S x (λ v. product_in v i j))) (settings_in z S x (λ v. product_in v i j))))

    -- a point u / D of a box goes into the box's step
    pub step_in : (Y : ℕ → Interval) (D : ℕ) (u : ℕ → ℤ) → ((j : ℕ) → j < G.states → In D (Y j) (u j)) → (i : ℕ) → In (q * (S * S) * S * D) (step S G H Y i) (pos D *ℤ exact_residual S G H q t i +ℤ int_sum G.states (λ j. exact_iteration S G H q t i j *ℤ u j))
    unfolding step
    step_in Y D u h i =
        let N : ℕ = q * (S * S) * S in
        let r : ℤ = exact_residual S G H q t i in
        let c : ℕ → ℤ = λ j. exact_iteration S G H q t i j *ℤ u j in
        let a : Interval = point (pos S) *ᵢ residual S G H i in
        let b : ℕ → Interval = λ j. iteration S G H i j *ᵢ Y j in
        let p : In (N * D) a (pos D *ℤ (pos S *ℤ r)) = in_again (omega arith) refl (in_times D (in_product (point (pos S)) (residual S G H i) 1 N (pos S) r (in_unit (pos S)) (residual_in i))) in
        let m : In (N * D) (sumᵢ G.states b) (int_sum G.states (λ j. pos S *ℤ c j)) = in_sums G.states (N * D) b (λ j. pos S *ℤ c j) (λ j l. in_again (omega arith) refl (in_times S (in_product (iteration S G H i j) (Y j) (q * S * S) D (exact_iteration S G H q t i j) (u j) (iteration_in i j) (h j l)))) in
        let e : pos D *ℤ (pos S *ℤ r) +ℤ int_sum G.states (λ j. pos S *ℤ c j) ≡ pos S *ℤ (pos D *ℤ r +ℤ int_sum G.states c) = omega (arith, lin, *ℤ_left_comm (pos D) (pos S) r, sum_scale G.states (pos S) c, *ℤ_add_right (pos S) (pos D *ℤ r) (int_sum G.states c)) in
        in_cancel S some (in_again (omega arith) e (in_brought S (a +ᵢ sumᵢ G.states b) some (N * D) (pos D *ℤ (pos S *ℤ r) +ℤ int_sum G.states (λ j. pos S *ℤ c j)) (in_add {s = a} {t = sumᵢ G.states b} p m)))
