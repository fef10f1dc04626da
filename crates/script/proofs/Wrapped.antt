-- an answer made of what was found
use Rattle.std.proofs.Common.{◌≡◌, Ok, Err, Result, ap}
use Rattle.std.specs.Result.{IsOkAnd, MatchResult}
use Rattle.span.specs.declared.fault.Fault.{Fault}
use Rattle.span.specs.declared.span.Span.{Span}
use Rattle.audit.specs.declared.Finding.{Finding}
use Rattle.script.specs.declared.answer.Answer.{Answer}
use Rattle.script.specs.declared.answer.Answer.TheVariants as answer
use Rattle.script.specs.Answers.{as_range, as_row}

pub range_is : (q : Result Span Fault) (r : Result Answer Fault) → MatchResult q (λ s. IsOkAnd r (λ a. a ≡ answer.Range s)) (λ e. r ≡ Err e) → r ≡ as_range q
range_is (Ok s) (Ok a) h = ap (λ x. Ok x) h
range_is (Ok s) (Err e) h = absurd h
range_is (Err e) r h = h

pub row_is : (q : Result Finding Fault) (r : Result Answer Fault) → MatchResult q (λ f. IsOkAnd r (λ a. a ≡ answer.Row f)) (λ e. r ≡ Err e) → r ≡ as_row q
row_is (Ok f) (Ok a) h = ap (λ x. Ok x) h
row_is (Ok f) (Err e) h = absurd h
row_is (Err e) r h = h
