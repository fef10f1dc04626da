-- what each call answers
use Rattle.std.specs.Prelude.{◌≡◌, ℕ, Ok, Err, Result}
use Rattle.span.specs.declared.fault.Fault.{Fault}
use Rattle.span.specs.declared.fault.Fault.TheVariants.{TooLarge}
use Rattle.span.specs.declared.fault.Operation.TheVariants.{Sum, Difference, Product}
use Rattle.span.specs.declared.span.Span.{Span}
use Rattle.span.specs.Intervals.{◌+ᵢ◌, ◌-ᵢ◌, ◌*ᵢ◌}
use Rattle.span.specs.Rounding.{floor, ceiling}
use Rattle.audit.specs.declared.Finding.{Finding}
use Rattle.script.specs.declared.answer.Answer.{Answer}
use Rattle.script.specs.declared.answer.Answer.TheVariants as answer
use Rattle.script.specs.declared.call.Call.{Call}
use Rattle.script.specs.declared.call.Call.TheVariants as call
use Rattle.script.specs.Pairs.{Pair, Ranged, Both, Brought, Row, from_to}

abbrev pub as_range : Result Span Fault → Result Answer Fault
as_range (Ok s) = Ok (answer.Range s)
as_range (Err e) = Err e

abbrev pub as_row : Result Finding Fault → Result Answer Fault
as_row (Ok f) = Ok (answer.Row f)
as_row (Err e) = Err e

-- r is a range, or a fault, of which P holds
abbrev pub RangeOf : Result Answer Fault → (Result Span Fault → Type 0) → Type 0
RangeOf r P = (q : Result Span Fault) × (r ≡ as_range q) × P q

abbrev pub Answered : ℕ → Call → Result Answer Fault → Type 0
Answered S (call.Bring v) r = r ≡ Ok (answer.Figures (floor S v) (ceiling S v))
Answered S (call.Span low high) r = RangeOf r (λ q. Pair low high q (Ranged (from_to low high) q))
Answered S (call.SpanAdd a b c d) r = RangeOf r (Both a b c d ◌+ᵢ◌ (TooLarge Sum))
Answered S (call.SpanSub a b c d) r = RangeOf r (Both a b c d ◌-ᵢ◌ (TooLarge Difference))
Answered S (call.SpanMul a b c d) r = RangeOf r (Both a b c d ◌*ᵢ◌ (TooLarge Product))
Answered S (call.SpanBack low high) r = RangeOf r (Brought S low high)
Answered S (call.Audit guess low high) r = (q : Result Finding Fault) × (r ≡ as_row q) × Row S guess low high q
