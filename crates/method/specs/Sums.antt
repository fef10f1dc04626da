-- sums over the numbers below n
use Rattle.std.specs.Prelude.{ℕ, zero, suc, ◌+◌, ℤ, pos, ◌+ℤ◌}
use Rattle.span.specs.Intervals.{Interval, point, ◌+ᵢ◌}

abbrev pub nat_sum : ℕ → (ℕ → ℕ) → ℕ
nat_sum zero f = 0
nat_sum (suc n) f = nat_sum n f + f n

abbrev pub int_sum : ℕ → (ℕ → ℤ) → ℤ
int_sum zero f = pos 0
int_sum (suc n) f = int_sum n f +ℤ f n

abbrev pub sumᵢ : ℕ → (ℕ → Interval) → Interval
sumᵢ zero f = point (pos 0)
sumᵢ (suc n) f = sumᵢ n f +ᵢ f n
