-- a box's rows after one more is set
use Rattle.std.proofs.Common.{◌≡◌, ℕ, ◌+◌, ◌<◌, ◌≤◌, List, ◌++◌, map, length, drop, get_or, set, replicate, pos, ◌∙◌, inl, inr, eq-or-lt_of_le, arith}
use Rattle.std.proofs.lemmas.List.{get_or_past, get_or-map, get_or-replicate, length-append, length-drop, length-map, length-replicate, length-set}
use Rattle.std.proofs.lemmas.Bool.{cases_lt}
use Rattle.span.specs.declared.span.Span.{Span}
use Rattle.span.specs.Intervals.{Interval, point}
use Rattle.span.specs.Spans.{ends}
use Rattle.system.specs.Figures.{spans}
use Rattle.system.proofs.Ranges.{spans_set_here, spans_set_elsewhere}
use Rattle.prepare.proofs.Bits.{spans_before, spans_behind}
use Rattle.enclosure.specs.Boxed.{Holds}

pub spans_read : (xs : List Span) (i : ℕ) (d : Span) → i < length xs → spans xs i ≡ ends (get_or xs i d)
spans_read xs i d h = get_or-map ends xs i d (point (pos 0)) h

pub spans_past : (xs : List Span) (i : ℕ) → length xs ≤ i → spans xs i ≡ point (pos 0)
spans_past xs i h = get_or_past (map ends xs) i (point (pos 0)) (rw length-map h)

pub spans_same : (n : ℕ) (s : Span) (i : ℕ) → ends s ≡ point (pos 0) → spans (replicate n s) i ≡ point (pos 0)
spans_same n s i e =
    elim (cases_lt i n) [ inl h ↦ spans_read (replicate n s) i s (rw length-replicate h) ∙ rw (get_or-replicate n i s s h) e | inr h ↦ spans_past (replicate n s) i (rw length-replicate h) ]

pub holds_none : (s : Span) (Y : ℕ → Interval) → ends s ≡ point (pos 0) → Holds 0 (replicate 12 s) Y
holds_none s Y e = record { long = length-replicate 12 s; rows = λ i h. elim h [ ]; rest = λ i h. spans_same 12 s i e }

pub holds_more : (i : ℕ) (xs : List Span) (s : Span) (Y : ℕ → Interval) → Holds i xs Y → i < 12 → ends s ≡ Y i → Holds (i + 1) (set xs i s) Y
holds_more i xs s Y h few e = let l : i < length xs = omega (arith, h.long) in record {
  long = length-set xs i s ∙ h.long;
  rows = λ j k. let m : j ≤ i = omega arith in elim (eq-or-lt_of_le m) [ inl q ↦ rw q (spans_set_here xs i s l ∙ e) | inr q ↦ spans_set_elsewhere xs i s j (λ z. omega arith) ∙ h.rows j q ];
  rest = λ j k. spans_set_elsewhere xs i s j (λ z. omega arith) ∙ h.rest j (omega arith);
}

-- n rows that were written at the front of rows of 0
pub holds_front : (n : ℕ) (s : Span) (xs : List Span) (Y : ℕ → Interval) → ends s ≡ point (pos 0) → n ≤ 12 → length xs ≡ n → ((i : ℕ) → i < n → spans xs i ≡ Y i) → Holds n (xs ++ drop n (replicate 12 s)) Y
holds_front n s xs Y e few l h = record {
  long = length-append xs (drop n (replicate 12 s)) ∙ omega (arith, length-drop n (replicate 12 s), length-replicate 12 s);
  rows = λ i k. spans_before xs (drop n (replicate 12 s)) i (omega arith) ∙ h i k;
  rest = λ i k. spans_behind xs (replicate 12 s) n i l k ∙ spans_same 12 s i e;
}
