-- games and boxes that agree at their own places step and narrow alike
use Rattle.std.proofs.Common.{◌≡◌, ℕ, zero, suc, ◌*◌, ◌/◌, ◌%◌, ◌<◌, ◌<ℤ◌, refl, ap, ◌∙◌, subst, mod-lt, div-lt_iff_lt-mul, arith}
use Rattle.span.specs.Intervals.{Interval, ◌*ᵢ◌}
use Rattle.span.specs.Questions.{ask, each, ends_within}
use Rattle.method.specs.Method.{Accepted, Game, Proposal, held, iteration, narrowed, residual, step}
use Rattle.method.specs.Sums.{sumᵢ}
use Rattle.prepare.specs.declared.fault.Fault.TheVariants.{IterationTooLarge, ResidualTooLarge}
use Rattle.prepare.specs.Proposals.{iteration_questions, residual_questions}
use Rattle.enclosure.proofs.Asked.{each_same}
use Rattle.law.proofs.Alike.{Alike, iteration_alike, residual_alike}

sums_alike : (n : ℕ) (f g : ℕ → Interval) → ((j : ℕ) → j < n → f j ≡ g j) → sumᵢ n f ≡ sumᵢ n g
sums_alike zero f g e = refl
sums_alike (suc n) f g e = let a = sums_alike n f g (λ j h. e j (omega arith)) in let b = e n (omega arith) in cc

module _ (S : ℕ) (G K : Game) (H J : Proposal) (q : Alike G K H J) where
  pub step_alike : (Y Z : ℕ → Interval) → ((i : ℕ) → i < G.states → Y i ≡ Z i) → (i : ℕ) → i < G.states → step S G H Y i ≡ step S K J Z i
  unfolding step
  step_alike Y Z e i l =
      let a = residual_alike S G K H J q i l in
      let one : (j : ℕ) → j < G.states → iteration S G H i j *ᵢ Y j ≡ iteration S K J i j *ᵢ Z j = λ j k. (let x = iteration_alike S G K H J q i j l k in let y = e j k in cc) in
      let s = sums_alike G.states (λ j. iteration S G H i j *ᵢ Y j) (λ j. iteration S K J i j *ᵢ Z j) one ∙ ap (λ n. sumᵢ n (λ j. iteration S K J i j *ᵢ Z j)) q.states in
      cc

  pub narrowed_alike : (Y Z : ℕ → Interval) → ((i : ℕ) → i < G.states → Y i ≡ Z i) → (m i : ℕ) → i < G.states → narrowed S G H Y m i ≡ narrowed S K J Z m i
  unfolding narrowed
  narrowed_alike Y Z e zero i l = step_alike Y Z e i l
  narrowed_alike Y Z e (suc m) i l = step_alike (narrowed S G H Y m) (narrowed S K J Z m) (narrowed_alike Y Z e m) i l

  pub held_alike : (Y Z : ℕ → Interval) → ((i : ℕ) → i < G.states → Y i ≡ Z i) → (m i : ℕ) → i < G.states → held S G H (narrowed S G H Y m) i ≡ held S K J (narrowed S K J Z m) i
  held_alike Y Z e m i l = let a = q.guess i l in let b = narrowed_alike Y Z e m i l in cc

  pub accepted_alike : (Y Z : ℕ → Interval) → ((i : ℕ) → i < G.states → Y i ≡ Z i) → Accepted S G H Y → Accepted S K J Z
  accepted_alike Y Z e a = record {
    above = λ i l. let m : i < G.states = omega (arith, q.states, l) in subst (λ s. s.low <ℤ (step S K J Z i).low) (e i m) (subst (λ s. (Y i).low <ℤ s.low) (step_alike Y Z e i m) (a.above i m));
    below = λ i l. let m : i < G.states = omega (arith, q.states, l) in subst (λ s. (step S K J Z i).high <ℤ s.high) (e i m) (subst (λ s. s.high <ℤ (Y i).high) (step_alike Y Z e i m) (a.below i m));
  }

  -- ---- and are asked alike
  pub residuals_asked : residual_questions S G H ≡ residual_questions S K J
  residuals_asked =
      each_same G.states (λ i. ask (ends_within S 49 (residual S G H i)) (ResidualTooLarge i)) (λ i. ask (ends_within S 49 (residual S K J i)) (ResidualTooLarge i)) (λ i l. ap (λ z. ask (ends_within S 49 z) (ResidualTooLarge i)) (residual_alike S G K H J q i l))
      ∙ ap (λ n. each n (λ i. ask (ends_within S 49 (residual S K J i)) (ResidualTooLarge i))) q.states

  pub iterations_asked : 0 < G.states → iteration_questions S G H ≡ iteration_questions S K J
  iterations_asked some =
      each_same (G.states * G.states) (λ t. ask (ends_within S 1 (iteration S G H (t / G.states) (t % G.states))) (IterationTooLarge (t / G.states) (t % G.states))) (λ t. ask (ends_within S 1 (iteration S K J (t / G.states) (t % G.states))) (IterationTooLarge (t / G.states) (t % G.states)))
      (λ t l. ap (λ z. ask (ends_within S 1 z) (IterationTooLarge (t / G.states) (t % G.states))) (iteration_alike S G K H J q (t / G.states) (t % G.states) ((div-lt_iff_lt-mul some).1 l) (mod-lt t some)))
      ∙ ap (λ n. each (n * n) (λ t. ask (ends_within S 1 (iteration S K J (t / n) (t % n))) (IterationTooLarge (t / n) (t % n)))) q.states
