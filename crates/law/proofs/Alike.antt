-- games that agree at their own places have the same residual and iteration matrix
use Rattle.std.proofs.Common.{◌≡◌, ℕ, zero, suc, ◌<◌, ◌≤◌, ℤ, ◌*ℤ◌, refl, ap, ◌∙◌, arith}
use Rattle.span.specs.Intervals.{Interval, point, ◌*ᵢ◌, brought}
use Rattle.method.specs.Method.{Game, Proposal, leftover, correction, residual, product, iteration}
use Rattle.method.specs.Sums.{int_sum, sumᵢ}
use Rattle.method.proofs.SumLaws.{sum_same}

pub record Alike (G K : Game) (H J : Proposal) : Type 0 where
  pub states : G.states ≡ K.states
  pub settings : G.settings ≡ K.settings
  pub matrix : (v i j : ℕ) → v ≤ G.settings → i < G.states → j < G.states → G.matrix v i j ≡ K.matrix v i j
  pub payout : (v i : ℕ) → v ≤ G.settings → i < G.states → G.payout v i ≡ K.payout v i
  pub range : (v : ℕ) → v < G.settings → G.range (suc v) ≡ K.range (suc v)
  pub table : (i j : ℕ) → i < G.states → j < G.states → H.table i j ≡ J.table i j
  pub guess : (i : ℕ) → i < G.states → H.guess i ≡ J.guess i

sumᵢ_same : (n : ℕ) (f g : ℕ → Interval) → ((j : ℕ) → j < n → f j ≡ g j) → sumᵢ n f ≡ sumᵢ n g
sumᵢ_same zero f g e = refl
sumᵢ_same (suc n) f g e = let a = sumᵢ_same n f g (λ j h. e j (omega arith)) in let b = e n (omega arith) in cc

-- the same, where the counts are equal too
sums : (n m : ℕ) (f g : ℕ → ℤ) → n ≡ m → ((j : ℕ) → j < n → f j ≡ g j) → int_sum n f ≡ int_sum m g
sums n m f g e h = sum_same n f g h ∙ ap (λ c. int_sum c g) e

sumsᵢ : (n m : ℕ) (f g : ℕ → Interval) → n ≡ m → ((j : ℕ) → j < n → f j ≡ g j) → sumᵢ n f ≡ sumᵢ m g
sumsᵢ n m f g e h = sumᵢ_same n f g h ∙ ap (λ c. sumᵢ c g) e

times : (a b c d : ℤ) → a ≡ b → c ≡ d → a *ℤ c ≡ b *ℤ d
times a b c d p q = cc

timesᵢ : (a b c d : Interval) → a ≡ b → c ≡ d → a *ᵢ c ≡ b *ᵢ d
timesᵢ a b c d p q = cc

module _ (S : ℕ) (G K : Game) (H J : Proposal) (q : Alike G K H J) where
  leftover_alike : (v i : ℕ) → v ≤ G.settings → i < G.states → leftover S G H v i ≡ leftover S K J v i
  unfolding leftover
  leftover_alike v i l h =
      let s = sums G.states K.states (λ j. G.matrix v i j *ℤ H.guess j) (λ j. K.matrix v i j *ℤ J.guess j) q.states (λ j k. times _ _ _ _ (q.matrix v i j l h k) (q.guess j k)) in
      let b = q.payout v i l h in
      cc

  correction_alike : (v i : ℕ) → v ≤ G.settings → i < G.states → correction S G H v i ≡ correction S K J v i
  unfolding correction
  correction_alike v i l h =
      ap (brought S) (sumsᵢ G.states K.states (λ j. point (H.table i j) *ᵢ leftover S G H v j) (λ j. point (J.table i j) *ᵢ leftover S K J v j) q.states (λ j k. timesᵢ _ _ _ _ (ap point (q.table i j h k)) (leftover_alike v j l k)))

  pub residual_alike : (i : ℕ) → i < G.states → residual S G H i ≡ residual S K J i
  unfolding residual
  residual_alike i h =
      let a = correction_alike 0 i (omega arith) h in
      let s = sumsᵢ G.settings K.settings (λ v. G.range (suc v) *ᵢ correction S G H (suc v) i) (λ v. K.range (suc v) *ᵢ correction S K J (suc v) i) q.settings (λ v k. timesᵢ _ _ _ _ (q.range v k) (correction_alike (suc v) i (omega arith) h)) in
      cc

  product_alike : (v i j : ℕ) → v ≤ G.settings → i < G.states → j < G.states → product S G H v i j ≡ product S K J v i j
  unfolding product
  product_alike v i j l h k =
      ap (λ z. brought S (point z)) (sums G.states K.states (λ t. H.table i t *ℤ G.matrix v t j) (λ t. J.table i t *ℤ K.matrix v t j) q.states (λ t m. times _ _ _ _ (q.table i t h m) (q.matrix v t j l m k)))

  pub iteration_alike : (i j : ℕ) → i < G.states → j < G.states → iteration S G H i j ≡ iteration S K J i j
  unfolding iteration
  iteration_alike i j h k =
      let a = product_alike 0 i j (omega arith) h k in
      let s = sumsᵢ G.settings K.settings (λ v. G.range (suc v) *ᵢ product S G H (suc v) i j) (λ v. K.range (suc v) *ᵢ product S K J (suc v) i j) q.settings (λ v m. timesᵢ _ _ _ _ (q.range v m) (product_alike (suc v) i j (omega arith) h k)) in
      cc
