-- one more place of a list is filled
use Rattle.std.proofs.Common.{◌≡◌, ℕ, ◌+◌, ◌*◌, ◌<◌, ◌≤◌, true, leb, ◌≢◌, List, length, get_or, set, ℤ, pos, nat_abs, sym, ◌∙◌, inl, inr, arith, below_more}
use Rattle.std.proofs.lemmas.List.{get_or_past}
use Rattle.std.proofs.lemmas.Bool.{cases_lt, leb-true, and_parts}
use Rattle.span.specs.declared.span.Span.{Span}
use Rattle.span.specs.Intervals.{Interval, point}
use Rattle.span.specs.Questions.{ends_within}
use Rattle.span.specs.Spans.{ends}
use Rattle.method.specs.Method.{size}
use Rattle.system.specs.Figures.{Narrow, spans}
use Rattle.system.proofs.Ranges.{spans_set_here, spans_set_elsewhere}
use Rattle.prepare.specs.Rows.{Limited, Copied}

pub spans_more : (f : ℕ → Interval) (k : ℕ) (xs : List Span) (z : Span) → k < length xs → ((i : ℕ) → i < k → spans xs i ≡ f i) → ends z ≡ f k → (i : ℕ) → i < k + 1 → spans (set xs k z) i ≡ f i
spans_more f k xs z l h e = below_more (λ i. spans (set xs k z) i ≡ f i) k (λ i b. let d : i ≢ k = omega arith in spans_set_elsewhere xs k z i d ∙ h i b) (spans_set_here xs k z l ∙ e)

pub spans_after : (f : ℕ → Interval) (k : ℕ) (xs : List Span) (z : Span) → ((i : ℕ) → k ≤ i → spans xs i ≡ f i) → (i : ℕ) → k + 1 ≤ i → spans (set xs k z) i ≡ f i
spans_after f k xs z h i b = let d : i ≢ k = omega arith in spans_set_elsewhere xs k z i d ∙ h i (omega arith)

pub limited_more : (S w k : ℕ) (f : ℕ → Interval) (xs : List Span) (z : Span) → k < length xs → Limited S w k f xs → ends z ≡ f k → ends_within S w (f k) ≡ true → Limited S w (k + 1) f (set xs k z)
limited_more S w k f xs z l h e t = record {
  before = spans_more f k xs z l h.before e;
  after = spans_after (λ i. point (pos 0)) k xs z h.after;
  inside = below_more (λ i. ends_within S w (f i) ≡ true) k h.inside t;
}

-- what is wholly copied is the same everywhere, and small
pub copied_same : (limit : ℕ) (xs ys : List ℤ) → Copied limit (length xs) xs ys → (i : ℕ) → get_or ys i (pos 0) ≡ get_or xs i (pos 0)
copied_same limit xs ys h i = elim (cases_lt i (length xs)) [ inl l ↦ h.before i l | inr l ↦ h.after i l ∙ sym (get_or_past xs i (pos 0) l) ]

-- what is limited is narrow
pub limited_narrow : (S w k : ℕ) (f : ℕ → Interval) (xs : List Span) → Limited S w k f xs → Narrow (w * S) xs
limited_narrow S w k f xs h i = elim (cases_lt i k) [ inl l ↦ rw (h.before i l) (narrow i l) | inr l ↦ rw (h.after i l) (omega arith) ]
  where
    narrow : (i : ℕ) → i < k → size (f i) ≤ w * S
    narrow i l =
        let p = and_parts (leb (nat_abs (f i).low) (w * S)) (leb (nat_abs (f i).high) (w * S)) (h.inside i l) in
        omega (arith, leb-true (nat_abs (f i).low) (w * S) p.0, leb-true (nat_abs (f i).high) (w * S) p.1)
