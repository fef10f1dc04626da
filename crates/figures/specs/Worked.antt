-- the worked figures, of the written rules
use Rattle.std.specs.Prelude.{◌≡◌, ℤ, pos, negsuc}
use Rattle.span.specs.Intervals.{Interval, ◌*ᵢ◌}
use Rattle.span.specs.Rounding.{floor, ceiling}

abbrev pub from_to : ℤ → ℤ → Interval
from_to a b = record { low = a; high = b }

pub record Worked : Type 0 where
  -- -1 brought back by millionths is -1 and 0
  pub minus_one_lower : floor 1000000 (negsuc 0) ≡ negsuc 0
  pub minus_one_upper : ceiling 1000000 (negsuc 0) ≡ pos 0
  -- 2,000,000 is 2 and 2
  pub two_lower : floor 1000000 (pos 2000000) ≡ pos 2
  pub two_upper : ceiling 1000000 (pos 2000000) ≡ pos 2
  -- -2..3 times -5..4 is -15..12
  pub product : from_to (negsuc 1) (pos 3) *ᵢ from_to (negsuc 4) (pos 4) ≡ from_to (negsuc 14) (pos 12)
