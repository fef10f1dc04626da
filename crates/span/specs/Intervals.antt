-- intervals by their two ends, and what is done to them; exact, of any size
use Rattle.std.specs.Prelude.{◌≡◌, ℕ, ℤ, pos, ◌+ℤ◌, ◌-ℤ◌, ◌*ℤ◌, ◌≤ℤ◌}
use Rattle.std.specs.Int.{int_max, int_min}
use Rattle.span.specs.Rounding.{floor, ceiling}

infixl 6 ◌+ᵢ◌ ◌-ᵢ◌
infixl 7 ◌*ᵢ◌
pub record Interval : Type 0 where
  pub low : ℤ
  pub high : ℤ

abbrev pub point : ℤ → Interval
point x = record { low = x; high = x }

-- a sum adds the ends
abbrev pub ◌+ᵢ◌ : Interval → Interval → Interval
s +ᵢ t = record { low = s.low +ℤ t.low; high = s.high +ℤ t.high }

-- a difference takes low minus high and high minus low
abbrev pub ◌-ᵢ◌ : Interval → Interval → Interval
s -ᵢ t = record { low = s.low -ℤ t.high; high = s.high -ℤ t.low }

abbrev pub least : ℤ → ℤ → ℤ → ℤ → ℤ
least a b c d = int_min (int_min a b) (int_min c d)

abbrev pub greatest : ℤ → ℤ → ℤ → ℤ → ℤ
greatest a b c d = int_max (int_max a b) (int_max c d)

-- a, b, c and d are the four end products
pub record EndProducts (s t : Interval) (a b c d : ℤ) : Type 0 where
  pub low_low : a ≡ s.low *ℤ t.low
  pub low_high : b ≡ s.low *ℤ t.high
  pub high_low : c ≡ s.high *ℤ t.low
  pub high_high : d ≡ s.high *ℤ t.high

-- a product's ends are the least and the greatest of the four end products
unfoldable pub ◌*ᵢ◌ : Interval → Interval → Interval
s *ᵢ t = record {
  low = least (s.low *ℤ t.low) (s.low *ℤ t.high) (s.high *ℤ t.low) (s.high *ℤ t.high);
  high = greatest (s.low *ℤ t.low) (s.low *ℤ t.high) (s.high *ℤ t.low) (s.high *ℤ t.high);
}

-- bringing back takes the lower figure of the low end and the upper of the high end
unfoldable pub brought : ℕ → Interval → Interval
brought S s = record { low = floor S s.low; high = ceiling S s.high }

-- x / k lies in the interval
pub record In (k : ℕ) (s : Interval) (x : ℤ) : Type 0 where
  pub above : (pos k *ℤ s.low) ≤ℤ x
  pub below : x ≤ℤ (pos k *ℤ s.high)
