-- floor and ceiling are the greatest figure not above, and the least not below
use Rattle.std.proofs.Common.{ℕ, ◌+◌, ◌<◌, ◌≤◌, ℤ, pos, negsuc, ◌+ℤ◌, ◌*ℤ◌, neg_ℤ, ◌≤ℤ◌, ◌<ℤ◌, mod-lt, mul-le-mul_left, arith}
use native.Mathlib.Nat.{div-add-mod}
use borrow.Author.Differences.{up, down, ints}
use Rattle.std.proofs.lemmas.Int.{by_lt_z}
use Rattle.span.specs.Rounding.{floor, ceiling, GreatestNotAbove, LeastNotBelow}
use Rattle.span.proofs.Integers.{lin, *ℤ_neg_right}

-- S × floor ≤ v < S × floor + S
floor_bounds : (S : ℕ) (v : ℤ) → 0 < S → ((pos S *ℤ floor S v) ≤ℤ v) × (v <ℤ (pos S *ℤ floor S v +ℤ pos S))
floor_bounds S (pos a) h = omega (arith, ints, div-add-mod a S, mod-lt a h)
floor_bounds S (negsuc a) h = omega (arith, ints, div-add-mod a S, mod-lt a h)

-- multiples of S that are less than S apart come in their factors' order
squeezed : (S : ℕ) (p q : ℤ) → (pos S *ℤ p) <ℤ (pos S *ℤ q +ℤ pos S) → p ≤ℤ q
squeezed S p q h = by_lt_z q p (λ k. absurd (apart k)) (λ k. k)
  where
    apart : q <ℤ p → ⊥
    apart k = let far : up q + down p + 1 ≤ up p + down q = omega (arith, ints) in omega (arith, ints, mul-le-mul_left S far)

pub floor_greatest : (S : ℕ) (v : ℤ) → 0 < S → GreatestNotAbove S v (floor S v)
floor_greatest S v h = record {
  below = (floor_bounds S v h).0;
  greatest = λ p k. squeezed S p (floor S v) (omega (arith, lin, k, (floor_bounds S v h).1));
}

pub ceiling_least : (S : ℕ) (v : ℤ) → 0 < S → LeastNotBelow S v (ceiling S v)
ceiling_least S v h =
    let f : GreatestNotAbove S (neg_ℤ v) (floor S (neg_ℤ v)) = floor_greatest S (neg_ℤ v) h in
    record {
      above = omega (arith, lin, f.below, *ℤ_neg_right (pos S) (floor S (neg_ℤ v)));
      least = λ p k. let m : (pos S *ℤ neg_ℤ p) ≤ℤ neg_ℤ v = omega (arith, lin, *ℤ_neg_right (pos S) p, k) in omega (arith, lin, f.greatest (neg_ℤ p) m);
    }

-- bringing back keeps the order of two ends
pub floor_ceiling : (S : ℕ) (a b : ℤ) → 0 < S → a ≤ℤ b → floor S a ≤ℤ ceiling S b
floor_ceiling S a b h k = squeezed S (floor S a) (ceiling S b) (omega (arith, lin, h, (floor_greatest S a h).below, (ceiling_least S b h).above))
