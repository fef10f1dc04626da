-- the code's spans as intervals, and what an operation on them answers
use Rattle.std.specs.Prelude.{◌≡◌, ℤ, Ok, Err, Result, FitsSigned}
use Rattle.std.specs.Int.{w64}
use Rattle.span.specs.declared.fault.Fault.{Fault}
use Rattle.span.specs.declared.span.Span.{Span}
use Rattle.span.specs.Intervals.{Interval}

abbrev pub ends : Span → Interval
ends s = record { low = s.low; high = s.high }

-- both ends fit signed 64 bits
pub record Fits (s : Interval) : Type 0 where
  pub low : FitsSigned w64 s.low
  pub high : FitsSigned w64 s.high

-- the exact result where it fits, else the fault, and only then
abbrev pub Answers : Result Span Fault → Interval → Fault → Type 0
Answers (Ok s) exact fault = ends s ≡ exact
Answers (Err e) exact fault = (e ≡ fault) × (Fits exact → ⊥)

-- the same of the two ends, before they make a span
abbrev pub Ends : Result (ℤ × ℤ) Fault → Interval → Fault → Type 0
Ends (Ok p) exact fault = (p.0 ≡ exact.low) × (p.1 ≡ exact.high)
Ends (Err e) exact fault = (e ≡ fault) × (Fits exact → ⊥)
