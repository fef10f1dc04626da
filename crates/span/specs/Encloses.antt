-- what makes the operations safe to print from: whatever lies in the spans, fractions included, lies in the answer
use Rattle.std.specs.Prelude.{ℕ, ◌*◌, ℤ, pos, ◌+ℤ◌, ◌-ℤ◌, ◌*ℤ◌}
use Rattle.span.specs.Intervals.{Interval, In}

-- x / k + y / l
abbrev pub Sums : Interval → Interval → Interval → Type 0
Sums s t r = (k l : ℕ) (x y : ℤ) → In k s x → In l t y → In (k * l) r (pos l *ℤ x +ℤ pos k *ℤ y)

-- x / k - y / l
abbrev pub Differences : Interval → Interval → Interval → Type 0
Differences s t r = (k l : ℕ) (x y : ℤ) → In k s x → In l t y → In (k * l) r (pos l *ℤ x -ℤ pos k *ℤ y)

-- (x / k) × (y / l)
abbrev pub Products : Interval → Interval → Interval → Type 0
Products s t r = (k l : ℕ) (x y : ℤ) → In k s x → In l t y → In (k * l) r (x *ℤ y)

-- (x / k) / S
abbrev pub Quotients : ℕ → Interval → Interval → Type 0
Quotients S s r = (k : ℕ) (x : ℤ) → In k s x → In (k * S) r x
