-- at one choice an accepted box makes the method a `Step`, and a solution's distance from the guesses is fixed under it
use Rattle.std.proofs.Common.{◌≡◌, ℕ, suc, ◌*◌, ◌<◌, cond, eqb, ℤ, pos, ◌+ℤ◌, ◌-ℤ◌, ◌*ℤ◌, neg_ℤ, sym, ap, ◌∙◌, mul-pos, arith}
use Rattle.span.specs.Intervals.{Interval}
use Rattle.span.proofs.Integers.{lin, *ℤ_add_left, *ℤ_add_right, *ℤ_neg_left, *ℤ_neg_right, *ℤ_assoc, *ℤ_left_comm}
use Rattle.method.specs.Sums.{int_sum}
use Rattle.method.specs.Method.{Game, Proposal, step, Accepted}
use Rattle.method.proofs.Narrows.{step_ordered}
use Rattle.method.proofs.SumLaws.{sum_same, sum_sub, sum_scale, sum_pick, sum_mixed, exchanged, exchanged_right}
use Rattle.method.proofs.Linear.{Weights, exact_leftover, exact_product, exact_residual, exact_iteration, step_in}
use Rattle.method.proofs.Steps.{Step, Fixed}

pub accepted_step : (S : ℕ) (some : 0 < S) (G : Game) (H : Proposal) (q : ℕ) (t : ℕ → ℤ) → Weights S G q t → 0 < q → (Y : ℕ → Interval) → Accepted S G H Y → Step G.states (q * (S * S) * S) (exact_iteration S G H q t) (exact_residual S G H q t) Y (step S G H Y)
accepted_step S some G H q t w p Y a = record {
  some = mul-pos (mul-pos p (mul-pos some some)) some;
  above = a.above;
  ordered = λ i h. step_ordered S some G H Y i;
  below = a.below;
  into = λ D u h i l. step_in S some G H q t w Y D u h i;
}

regrouped : (s d b g : ℤ) → s *ℤ (d *ℤ b) -ℤ d *ℤ g ≡ d *ℤ (s *ℤ b -ℤ g)
regrouped s d b g = omega (arith, lin, *ℤ_left_comm s d b, *ℤ_add_right d (s *ℤ b) (neg_ℤ g), *ℤ_neg_right d g)

-- the parts' leftovers, part by part or all together
parts : (k n : ℕ) (z : ℤ) (t b g : ℕ → ℤ) (a : ℕ → ℕ → ℤ) → int_sum k (λ v. t v *ℤ (z *ℤ b v -ℤ int_sum n (λ j. a v j *ℤ g j))) ≡ z *ℤ int_sum k (λ v. t v *ℤ b v) -ℤ int_sum n (λ j. int_sum k (λ v. t v *ℤ a v j) *ℤ g j)
parts k n z t b g a =
    let s : ℕ → ℤ = λ v. int_sum n (λ j. a v j *ℤ g j) in
    let e : int_sum k (λ v. t v *ℤ (z *ℤ b v -ℤ s v)) ≡ int_sum k (λ v. z *ℤ (t v *ℤ b v) -ℤ t v *ℤ s v) = sum_same k (λ v. t v *ℤ (z *ℤ b v -ℤ s v)) (λ v. z *ℤ (t v *ℤ b v) -ℤ t v *ℤ s v) (λ v h. one (t v) (b v) (s v)) in
    omega (arith, lin, e, sum_sub k (λ v. z *ℤ (t v *ℤ b v)) (λ v. t v *ℤ s v), sum_scale k z (λ v. t v *ℤ b v), exchanged_right n k g t a)
  where
    one : (t b s : ℤ) → t *ℤ (z *ℤ b -ℤ s) ≡ z *ℤ (t *ℤ b) -ℤ t *ℤ s
    one t b s = omega (arith, lin, *ℤ_add_right t (z *ℤ b) (neg_ℤ s), *ℤ_neg_right t s, *ℤ_left_comm t z b)

-- a sum of differences from multiples of k, times u
less : (n : ℕ) (k : ℤ) (d p u : ℕ → ℤ) → int_sum n (λ j. (k *ℤ d j -ℤ p j) *ℤ u j) ≡ k *ℤ int_sum n (λ j. d j *ℤ u j) -ℤ int_sum n (λ j. p j *ℤ u j)
less n k d p u =
    let e : int_sum n (λ j. (k *ℤ d j -ℤ p j) *ℤ u j) ≡ int_sum n (λ j. k *ℤ (d j *ℤ u j) -ℤ p j *ℤ u j) = sum_same n (λ j. (k *ℤ d j -ℤ p j) *ℤ u j) (λ j. k *ℤ (d j *ℤ u j) -ℤ p j *ℤ u j) (λ j h. one (d j) (p j) (u j)) in
    omega (arith, lin, e, sum_sub n (λ j. k *ℤ (d j *ℤ u j)) (λ j. p j *ℤ u j), sum_scale n k (λ j. d j *ℤ u j))
  where
    one : (d p u : ℤ) → (k *ℤ d -ℤ p) *ℤ u ≡ k *ℤ (d *ℤ u) -ℤ p *ℤ u
    one d p u = omega (arith, lin, *ℤ_add_left (k *ℤ d) (neg_ℤ p) u, *ℤ_neg_left p u, *ℤ_assoc k d u)

module _ (S : ℕ) (G : Game) (H : Proposal) (q : ℕ) (t : ℕ → ℤ) where
  -- the coefficients and the payouts at the choice
  abbrev pub coefficient : ℕ → ℕ → ℤ
  coefficient i j = int_sum (suc G.settings) (λ v. t v *ℤ G.matrix v i j)

  abbrev pub reward : ℕ → ℤ
  reward i = int_sum (suc G.settings) (λ v. t v *ℤ G.payout v i)

  -- X / D solves the equations
  pub record Solves (D : ℕ) (X : ℕ → ℤ) : Type 0 where
    pub meets : (i : ℕ) → i < G.states → int_sum G.states (λ j. coefficient i j *ℤ X j) ≡ pos D *ℤ reward i

  -- S × X / D less the guesses, over D
  abbrev pub shift : ℕ → (ℕ → ℤ) → ℕ → ℤ
  shift D X j = pos S *ℤ X j -ℤ pos D *ℤ H.guess j

  -- what the guesses leave over, all parts together
  abbrev remainder : ℕ → ℤ
  remainder l = int_sum (suc G.settings) (λ v. t v *ℤ exact_leftover S G H v l)

  remainder_is : (l : ℕ) → remainder l ≡ pos S *ℤ reward l -ℤ int_sum G.states (λ j. coefficient l j *ℤ H.guess j)
  remainder_is l = parts (suc G.settings) G.states (pos S) t (λ v. G.payout v l) H.guess (λ v j. G.matrix v l j)

  -- the exact residual and iteration by the table's rows
  residual_is : (i : ℕ) → exact_residual S G H q t i ≡ int_sum G.states (λ l. H.table i l *ℤ remainder l)
  residual_is i = exchanged (suc G.settings) G.states t (H.table i) (λ v l. exact_leftover S G H v l)

  products_are : (i j : ℕ) → int_sum (suc G.settings) (λ v. t v *ℤ exact_product S G H v i j) ≡ int_sum G.states (λ l. H.table i l *ℤ coefficient l j)
  products_are i j = exchanged (suc G.settings) G.states t (H.table i) (λ v l. G.matrix v l j)

  -- the coefficients times the shift are the remainder
  shift_meets : (D : ℕ) (X : ℕ → ℤ) → Solves D X → (l : ℕ) → l < G.states → int_sum G.states (λ j. coefficient l j *ℤ shift D X j) ≡ pos D *ℤ remainder l
  shift_meets D X s l h =
      sum_mixed G.states (pos S) (pos D) (coefficient l) X H.guess
      ∙ ap (λ z. pos S *ℤ z -ℤ pos D *ℤ int_sum G.states (λ j. coefficient l j *ℤ H.guess j)) (s.meets l h)
      ∙ regrouped (pos S) (pos D) (reward l) (int_sum G.states (λ j. coefficient l j *ℤ H.guess j))
      ∙ ap (λ z. pos D *ℤ z) (sym (remainder_is l))

  -- the products of the table and the coefficients, times the shift
  products_meet : (D : ℕ) (X : ℕ → ℤ) → Solves D X → (i : ℕ) → int_sum G.states (λ j. int_sum (suc G.settings) (λ v. t v *ℤ exact_product S G H v i j) *ℤ shift D X j) ≡ pos D *ℤ exact_residual S G H q t i
  products_meet D X s i =
      sum_same G.states (λ j. int_sum (suc G.settings) (λ v. t v *ℤ exact_product S G H v i j) *ℤ shift D X j) (λ j. int_sum G.states (λ l. H.table i l *ℤ coefficient l j) *ℤ shift D X j) (λ j h. ap (λ z. z *ℤ shift D X j) (products_are i j))
      ∙ exchanged_right G.states G.states (shift D X) (H.table i) coefficient
      ∙ sum_same G.states (λ l. H.table i l *ℤ int_sum G.states (λ j. coefficient l j *ℤ shift D X j)) (λ l. pos D *ℤ (H.table i l *ℤ remainder l)) (λ l h. ap (λ z. H.table i l *ℤ z) (shift_meets D X s l h) ∙ *ℤ_left_comm (H.table i l) (pos D) (remainder l))
      ∙ sum_scale G.states (pos D) (λ l. H.table i l *ℤ remainder l)
      ∙ ap (λ z. pos D *ℤ z) (sym (residual_is i))

  -- and so the shift is fixed
  pub shift_fixed : (D : ℕ) (X : ℕ → ℤ) → Solves D X → Fixed G.states (q * (S * S) * S) (exact_iteration S G H q t) (exact_residual S G H q t) D (shift D X)
  shift_fixed D X s = record {
    stays = λ i h. fixed (pos (q * (S * S) * S) *ℤ shift D X i) (pos D *ℤ exact_residual S G H q t i) _ _ _
        (less G.states (pos (q * S)) (λ j. cond (eqb i j) (pos (S * S)) (pos 0)) (λ j. int_sum (suc G.settings) (λ v. t v *ℤ exact_product S G H v i j)) (shift D X))
        (products_meet D X s i)
        (ap (λ z. pos (q * S) *ℤ z) (sum_pick G.states i (pos (S * S)) (shift D X) h) ∙ whole (shift D X i));
  }
    where
      fixed : (u r c k p : ℤ) → c ≡ k -ℤ p → p ≡ r → k ≡ u → u ≡ r +ℤ c
      fixed u r c k p e f g = omega (arith, lin)

      same : (q S : ℕ) → q * S * (S * S) ≡ q * (S * S) * S
      same q S = omega arith

      whole : (u : ℤ) → pos (q * S) *ℤ (pos (S * S) *ℤ u) ≡ pos (q * (S * S) * S) *ℤ u
      whole u = sym (*ℤ_assoc (pos (q * S)) (pos (S * S)) u) ∙ ap (λ m. pos m *ℤ u) (same q S)
