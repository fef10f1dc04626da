-- the rows that a recheck keeps, after one more
use Rattle.std.proofs.Common.{◌≡◌, ℕ, ◌+◌, ◌<◌, ◌≤◌, List, length, set, Ok, Err, IfOk, Result, sym, ap, ◌∙◌, subst, inl, inr, eq-or-lt_of_le, arith}
use Rattle.std.specs.Result.{ResultUnwrapsOrElse}
use Rattle.span.specs.declared.span.Span.{Span}
use Rattle.span.specs.Intervals.{Interval}
use Rattle.span.specs.Spans.{ends}
use Rattle.system.specs.Figures.{spans}
use Rattle.system.proofs.Ranges.{spans_set_elsewhere, spans_set_here}
use Rattle.law.specs.declared.fault.Fault.{Fault}
use Rattle.law.specs.Law.{told_ends}

-- told i is what is decided of row i
module _ (told : ℕ → Result Interval Fault) (xs : List Span) (t : ℕ) (before : (i : ℕ) (s : Interval) → i < t → told i ≡ Ok s → spans xs i ≡ s) where
  pub kept_more : (x : Span) → t < length xs → Ok (ends x) ≡ told t → (i : ℕ) (s : Interval) → i < t + 1 → told i ≡ Ok s → spans (set xs t x) i ≡ s
  kept_more x long e i s l k =
      let m : i ≤ t = omega arith in
      elim (eq-or-lt_of_le m) [
        | inl j ↦ let w : ends x ≡ s = let a : told t ≡ Ok s = subst (λ z. told z ≡ Ok s) j k in cc in subst (λ z. spans (set xs t x) z ≡ s) (sym j) (spans_set_here xs t x long ∙ w)
        | inr n ↦ spans_set_elsewhere xs t x i (λ z. omega arith) ∙ before i s n k
      ]

  pub kept_none : (x : Span) (f : Fault) → Err f ≡ told t → (i : ℕ) (s : Interval) → i < t + 1 → told i ≡ Ok s → spans (set xs t x) i ≡ s
  kept_none x f e i s l k =
      let m : i ≤ t = omega arith in
      elim (eq-or-lt_of_le m) [
        | inl j ↦ let a : told t ≡ Ok s = subst (λ z. told z ≡ Ok s) j k in let w : ◌≡◌ {A = ℕ} 0 1 = cc in absurd (omega arith)
        | inr n ↦ spans_set_elsewhere xs t x i (λ z. omega arith) ∙ before i s n k
      ]

  -- whatever was told of row t, where it was a range that is kept
  pub kept_told : (r : Result Span Fault) (x : Span) → t < length xs → told_ends r ≡ told t → IfOk r (λ y. x ≡ y) → (i : ℕ) (s : Interval) → i < t + 1 → told i ≡ Ok s → spans (set xs t x) i ≡ s
  kept_told (Ok y) x long e is = kept_more x long (ap (λ z. Ok (ends z)) is ∙ e)
  kept_told (Err f) x long e is = kept_none x f e

pub unwrapped : (D : Span → Type 0) (r : Result Span Fault) (x : Span) → ResultUnwrapsOrElse r D x → IfOk r (λ y. x ≡ y)
unwrapped D (Ok y) x e = e
unwrapped D (Err f) x e = tt
