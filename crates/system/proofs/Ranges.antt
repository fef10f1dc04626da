-- the settings' ranges after one of them is set
use Rattle.std.proofs.Common.{◌≡◌, ℕ, ◌<◌, ◌≤◌, Bool, true, ◌&&◌, leb, ◌≢◌, List, map, length, set, ℤ, pos, nat_abs, ◌≤ℤ◌, sym, ap, inl, inr, one-mul, arith, w32, SFits, to_z, of_z}
use lib.Signed.{le_z}
use Rattle.std.proofs.lemmas.List.{get_or-set_same, get_or-set_other, length-map, map-set}
use Rattle.std.proofs.lemmas.Int.{ints, to_z-of_z}
use Rattle.std.proofs.lemmas.Bool.{cases_eq}
use Rattle.std.proofs.lemmas.Bool.Decides.{nat_tests}
use Rattle.span.specs.declared.span.Span.{Span}
use Rattle.span.specs.Intervals.{point}
use Rattle.span.specs.Questions.{within}
use Rattle.span.specs.Spans.{ends}
use Rattle.system.specs.Figures.{Narrow, spans}

pub spans_set_here : (xs : List Span) (v : ℕ) (s : Span) → v < length xs → spans (set xs v s) v ≡ ends s
spans_set_here xs v s h =
    let k : v < length (map ends xs) = rw length-map h in
    rw map-set (get_or-set_same (map ends xs) v (ends s) (point (pos 0)) k)

pub spans_set_elsewhere : (xs : List Span) (v : ℕ) (s : Span) (u : ℕ) → u ≢ v → spans (set xs v s) u ≡ spans xs u
spans_set_elsewhere xs v s u h = rw map-set (get_or-set_other (map ends xs) v u (ends s) (point (pos 0)) h)

-- a span is in order, whatever it was made from
pub ends_ordered : (s : Span) (low high : ℤ) → ends s ≡ record { low = low; high = high } → le_z low high ≡ true
ends_ordered s low high e =
    let l : s.low ≡ low = ap (λ i. i.low) e in
    let h : s.high ≡ high = ap (λ i. i.high) e in
    let o : low ≤ℤ high = omega (arith, ints, s.ordered) in
    grind (arith, ints)

-- the code's test of both ends is the question's
pub both_within : (S : ℕ) (low high : ℤ) (b : Bool) → SFits w32 low → SFits w32 high → b ≡ (leb (nat_abs (to_z w32 (of_z w32 low))) S && leb (nat_abs (to_z w32 (of_z w32 high))) S) → (within S 1 low && within S 1 high) ≡ b
both_within S low high b f g e = let k : b ≡ (leb (nat_abs low) S && leb (nat_abs high) S) = simp to_z-of_z at e in rw one-mul (sym k)

pub narrow_set : (S : ℕ) (xs : List Span) (v : ℕ) (s : Span) (low high : ℤ) → v < length xs → Narrow S xs → ends s ≡ record { low = low; high = high } → (within S 1 low && within S 1 high) ≡ true → Narrow S (set xs v s)
narrow_set S xs v s low high h k e inside u =
    let low_is : s.low ≡ low = ap (λ i. i.low) e in
    let high_is : s.high ≡ high = ap (λ i. i.high) e in
    let both : (nat_abs low ≤ S) × (nat_abs high ≤ S) = (grind (arith, nat_tests), grind (arith, nat_tests)) in
    elim (cases_eq u v) [ inl same ↦ rw (same, spans_set_here xs v s h, low_is, high_is) (omega arith) | inr other ↦ rw (spans_set_elsewhere xs v s u other) (k u) ]
