-- fractions of one denominator in intervals
use Rattle.std.proofs.Common.{◌≡◌, ℕ, zero, suc, ◌+◌, ◌*◌, ◌<◌, ◌≤◌, ℤ, pos, ◌+ℤ◌, ◌-ℤ◌, ◌*ℤ◌, neg_ℤ, ◌≤ℤ◌, subst, arith}
use native.Mathlib.Nat.{le_of_mul-le-mul_left}
use borrow.Author.Differences.{up, down, ints}
use Rattle.span.specs.Intervals.{Interval, In, point, ◌+ᵢ◌, ◌-ᵢ◌}
use Rattle.span.proofs.Integers.{lin, scaled, *ℤ_add_right, *ℤ_neg_right, *ℤ_assoc}
use Rattle.method.specs.Sums.{int_sum, sumᵢ}

-- the same fraction, written otherwise
pub in_again : {s : Interval} {k l : ℕ} {x y : ℤ} → k ≡ l → x ≡ y → In k s x → In l s y
in_again {s} {k} {l} {x} {y} e f h = subst (λ m. In m s y) e (subst (In k s) f h)

pub in_point : (k : ℕ) (z : ℤ) → In k (point z) (pos k *ℤ z)
in_point k z = record { above = omega (arith, lin); below = omega (arith, lin) }

pub in_unit : (z : ℤ) → In 1 (point z) z
in_unit z = record { above = omega (arith, ints); below = omega (arith, ints) }

pub in_add : {s t : Interval} {k : ℕ} {x y : ℤ} → In k s x → In k t y → In k (s +ᵢ t) (x +ℤ y)
in_add {s} {t} {k} p q = record {
  above = omega (arith, lin, p.above, q.above, *ℤ_add_right (pos k) s.low t.low);
  below = omega (arith, lin, p.below, q.below, *ℤ_add_right (pos k) s.high t.high);
}

pub in_sub : {s t : Interval} {k : ℕ} {x y : ℤ} → In k s x → In k t y → In k (s -ᵢ t) (x -ℤ y)
in_sub {s} {t} {k} p q = record {
  above = omega (arith, lin, p.above, q.below, *ℤ_add_right (pos k) s.low (neg_ℤ t.high), *ℤ_neg_right (pos k) t.high);
  below = omega (arith, lin, p.below, q.above, *ℤ_add_right (pos k) s.high (neg_ℤ t.low), *ℤ_neg_right (pos k) t.low);
}

pub in_sums : (n k : ℕ) (s : ℕ → Interval) (x : ℕ → ℤ) → ((j : ℕ) → j < n → In k (s j) (x j)) → In k (sumᵢ n s) (int_sum n x)
in_sums zero k s x h = record { above = omega (arith, ints); below = omega (arith, ints) }
in_sums (suc n) k s x h = in_add {s = sumᵢ n s} {t = s n} (in_sums n k s x (λ j l. h j (omega arith))) (h n (omega arith))

-- a fraction extended by m
pub in_times : (m : ℕ) {s : Interval} {k : ℕ} {x : ℤ} → In k s x → In (m * k) s (pos m *ℤ x)
in_times m {s} {k} p = record {
  above = omega (arith, lin, scaled m p.above, *ℤ_assoc (pos m) (pos k) s.low);
  below = omega (arith, lin, scaled m p.below, *ℤ_assoc (pos m) (pos k) s.high);
}

-- an order of multiples of m is an order
pub unscaled : (m : ℕ) (a b : ℤ) → 0 < m → (pos m *ℤ a) ≤ℤ (pos m *ℤ b) → a ≤ℤ b
unscaled m a b p h =
    let l : m * (up a + down b) ≤ m * (up b + down a) = omega (arith, ints) in
    let k : up a + down b ≤ up b + down a = le_of_mul-le-mul_left l p in
    omega (arith, ints)

-- and reduced by m
pub in_cancel : (m : ℕ) {s : Interval} {k : ℕ} {x : ℤ} → 0 < m → In (m * k) s (pos m *ℤ x) → In k s x
in_cancel m {s} {k} {x} h p = record {
  above = unscaled m (pos k *ℤ s.low) x h (omega (arith, lin, p.above, *ℤ_assoc (pos m) (pos k) s.low));
  below = unscaled m x (pos k *ℤ s.high) h (omega (arith, lin, p.below, *ℤ_assoc (pos m) (pos k) s.high));
}
