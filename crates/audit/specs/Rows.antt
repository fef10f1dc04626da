-- a row as it must be printed, and as dropping remainders prints it
use Rattle.std.specs.Prelude.{◌≡◌, ℕ, ◌*◌, ℤ, pos, ◌+ℤ◌, ◌*ℤ◌, ◌≤ℤ◌, Ok, Err, Result, int_div}
use Rattle.span.specs.declared.fault.Fault.{Fault}
use Rattle.span.specs.declared.fault.Fault.TheVariants.{TooLarge}
use Rattle.span.specs.declared.fault.Operation.TheVariants.{Sum}
use Rattle.span.specs.declared.span.Span.{Span}
use Rattle.span.specs.Intervals.{Interval, In, point, ◌+ᵢ◌, brought}
use Rattle.span.specs.Spans.{ends, Fits}
use Rattle.audit.specs.declared.Finding.{Finding}

-- the row as it must be printed
abbrev pub due_row : ℕ → ℤ → Interval → Interval
due_row S guess sums = point guess +ᵢ brought S sums

-- an end without its remainder, the quotient rounded toward zero
abbrev pub dropped_end : ℕ → ℤ → ℤ → ℤ
dropped_end S guess sum = guess +ℤ int_div sum (pos S)

pub record Found (S : ℕ) (guess : ℤ) (sums : Interval) (f : Finding) : Type 0 where
  pub due_is : ends f.due ≡ due_row S guess sums
  pub low_is : f.dropped_low ≡ dropped_end S guess sums.low
  pub high_is : f.dropped_high ≡ dropped_end S guess sums.high
  -- dropping never moves an end outward
  pub low_inward : f.due.low ≤ℤ f.dropped_low
  pub high_inward : f.dropped_high ≤ℤ f.due.high
  -- whatever the sums allow, x / k, lies in the row as guess + x / (k × S)
  pub encloses : (k : ℕ) (x : ℤ) → In k sums x → In (k * S) (ends f.due) (pos (k * S) *ℤ guess +ℤ x)

-- turned down only where the row does not fit signed 64 bits
abbrev pub Audited : ℕ → ℤ → Span → Result Finding Fault → Type 0
Audited S guess sums (Ok f) = Found S guess (ends sums) f
Audited S guess sums (Err e) = (e ≡ TooLarge Sum) × (Fits (due_row S guess (ends sums)) → ⊥)
