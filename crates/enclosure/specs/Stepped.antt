-- a step, worked out from a residual and an iteration matrix that are kept
use Rattle.std.specs.Prelude.{ℕ, ◌+◌, ◌*◌, ◌<◌, List, pos, ◌≤ℤ◌}
use Rattle.span.specs.declared.span.Span.{Span}
use Rattle.span.specs.Intervals.{Interval, point, ◌+ᵢ◌, ◌*ᵢ◌, brought}
use Rattle.method.specs.Sums.{sumᵢ}
use Rattle.system.specs.Figures.{spans}

-- n rows; C by rows of n
unfoldable pub stepped : ℕ → ℕ → List Span → List Span → (ℕ → Interval) → ℕ → Interval
stepped S n Z C Y i = brought S (point (pos S) *ᵢ spans Z i +ᵢ sumᵢ n (λ j. spans C (i * n + j) *ᵢ Y j))

-- one step more stays inside
abbrev pub Shrinks : ℕ → ℕ → List Span → List Span → List Span → Type 0
Shrinks S n Z C V = (i : ℕ) → i < n → ((spans V i).low ≤ℤ (stepped S n Z C (spans V) i).low) × ((stepped S n Z C (spans V) i).high ≤ℤ (spans V i).high)
