-- a result that fits is not turned down
use Rattle.std.proofs.Common.{◌≡◌, Ok, Err, Result, IsOk, rules}
use Rattle.span.specs.declared.fault.Fault.{Fault}
use Rattle.span.specs.declared.span.Span.{Span}
use Rattle.span.specs.Intervals.{Interval}
use Rattle.span.specs.Spans.{Answers, Fits, ends}

pub fits_ok : (r : Result Span Fault) (e : Interval) (f : Fault) → Answers r e f → Fits e → IsOk r
fits_ok (Ok s) e f a h = search rules
fits_ok (Err q) e f a h = absurd (a.1 h)

pub exact : (r : Result Span Fault) (s : Span) (e : Interval) (f : Fault) → Answers r e f → r ≡ Ok s → ends s ≡ e
exact (Ok t) s e f a h = cc
exact (Err q) s e f a h = cc
