-- spans from pairs of numbers: what is asked of each pair, and in which order
use Rattle.std.specs.Prelude.{◌≡◌, ℕ, ℤ, ◌≤ℤ◌, ◌<ℤ◌, Ok, Err, Result}
use Rattle.span.specs.declared.fault.Fault.{Fault}
use Rattle.span.specs.declared.fault.Fault.TheVariants.{LowAboveHigh}
use Rattle.span.specs.declared.span.Span.{Span}
use Rattle.span.specs.Intervals.{Interval, brought}
use Rattle.span.specs.Spans.{Answers, ends}
use Rattle.audit.specs.declared.Finding.{Finding}
use Rattle.audit.specs.Rows.{Audited}

abbrev pub from_to : ℤ → ℤ → Interval
from_to low high = record { low = low; high = high }

-- low..high is turned down with 3 where low is above high; else P
pub record Pair {T : Type 0} (low high : ℤ) (r : Result T Fault) (P : Type 0) : Type 0 where
  pub turned : high <ℤ low → r ≡ Err (LowAboveHigh low high)
  pub ordered : low ≤ℤ high → P

-- r is the one span low..high
abbrev pub Ranged : Interval → Result Span Fault → Type 0
Ranged exact (Ok s) = ends s ≡ exact
Ranged exact (Err e) = ⊥

-- a..b is asked first, then c..d, and then whether the result fits
abbrev pub Both : ℤ → ℤ → ℤ → ℤ → (Interval → Interval → Interval) → Fault → Result Span Fault → Type 0
Both a b c d joined fault r = Pair a b r (Pair c d r (Answers r (joined (from_to a b) (from_to c d)) fault))

abbrev pub Brought : ℕ → ℤ → ℤ → Result Span Fault → Type 0
Brought S low high r = Pair low high r (Ranged (brought S (from_to low high)) r)

-- the audit of a row whose sums are low..high
abbrev pub Row : ℕ → ℤ → ℤ → ℤ → Result Finding Fault → Type 0
Row S guess low high r = Pair low high r ((sums : Span) × (ends sums ≡ from_to low high) × Audited S guess sums r)
