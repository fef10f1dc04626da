-- bringing back: the figures below and above a quotient by the scale
use Rattle.std.specs.Prelude.{ℕ, ℤ, pos, ◌*ℤ◌, neg_ℤ, ◌≤ℤ◌}
use Rattle.std.specs.Int.Signed.{shr_z}

-- the greatest whole number not above v / S
abbrev pub floor : ℕ → ℤ → ℤ
floor S v = shr_z v S

-- the least whole number not below v / S
abbrev pub ceiling : ℕ → ℤ → ℤ
ceiling S v = neg_ℤ (shr_z (neg_ℤ v) S)

-- what those words mean: q is at most v / S, and no whole number above q is
pub record GreatestNotAbove (S : ℕ) (v q : ℤ) : Type 0 where
  pub below : (pos S *ℤ q) ≤ℤ v
  pub greatest : (p : ℤ) → (pos S *ℤ p) ≤ℤ v → p ≤ℤ q

pub record LeastNotBelow (S : ℕ) (v q : ℤ) : Type 0 where
  pub above : v ≤ℤ (pos S *ℤ q)
  pub least : (p : ℤ) → v ≤ℤ (pos S *ℤ p) → q ≤ℤ p
