-- sums of intervals, a term at a time
use Rattle.std.proofs.Common.{◌≡◌, ℕ, zero, suc, ◌+◌, ◌<◌, Bool, ℤ, pos, ◌+ℤ◌, ◌-ℤ◌, sym, refl, ap, ◌∙◌, add-one, arith}
use Rattle.span.specs.Intervals.{Interval, point, ◌+ᵢ◌, ◌-ᵢ◌, ◌*ᵢ◌}
use Rattle.span.specs.Questions.{ends_within}
use Rattle.span.specs.Spans.{Fits}
use Rattle.span.proofs.Integers.{lin}
use Rattle.method.specs.Sums.{int_sum, sumᵢ}

by_ends : (a b c d : ℤ) → a ≡ c → b ≡ d → ◌≡◌ {A = Interval} (record { low = a; high = b }) (record { low = c; high = d })
by_ends a b c d e f = rw (e, f)

pub zero_plus : (s : Interval) → point (pos 0) +ᵢ s ≡ s
zero_plus s = by_ends (pos 0 +ℤ s.low) (pos 0 +ℤ s.high) s.low s.high (omega (arith, lin)) (omega (arith, lin))

pub plus_zero : (s : Interval) → s +ᵢ point (pos 0) ≡ s
plus_zero s = by_ends (s.low +ℤ pos 0) (s.high +ℤ pos 0) s.low s.high (omega (arith, lin)) (omega (arith, lin))

pub minus_zero : (s : Interval) → s -ᵢ point (pos 0) ≡ s
minus_zero s = by_ends (s.low -ℤ pos 0) (s.high -ℤ pos 0) s.low s.high (omega (arith, lin)) (omega (arith, lin))

plus_plus : (s t u : Interval) → (s +ᵢ t) +ᵢ u ≡ s +ᵢ (t +ᵢ u)
plus_plus s t u = by_ends (s.low +ℤ t.low +ℤ u.low) (s.high +ℤ t.high +ℤ u.high) (s.low +ℤ (t.low +ℤ u.low)) (s.high +ℤ (t.high +ℤ u.high)) (omega (arith, lin)) (omega (arith, lin))

minus_minus : (s t u : Interval) → (s -ᵢ t) -ᵢ u ≡ s -ᵢ (t +ᵢ u)
minus_minus s t u = by_ends (s.low -ℤ t.high -ℤ u.high) (s.high -ℤ t.low -ℤ u.low) (s.low -ℤ (t.high +ℤ u.high)) (s.high -ℤ (t.low +ℤ u.low)) (omega (arith, lin)) (omega (arith, lin))

pub sum_more : (m : ℕ) (f : ℕ → Interval) → sumᵢ m f +ᵢ f m ≡ sumᵢ (m + 1) f
sum_more m f = sym (ap (λ n. sumᵢ n f) (add-one m))

pub plus_more : (s : Interval) (m : ℕ) (f : ℕ → Interval) → (s +ᵢ sumᵢ m f) +ᵢ f m ≡ s +ᵢ sumᵢ (m + 1) f
plus_more s m f = plus_plus s (sumᵢ m f) (f m) ∙ ap (λ t. s +ᵢ t) (sum_more m f)

pub minus_more : (s : Interval) (m : ℕ) (f : ℕ → Interval) → (s -ᵢ sumᵢ m f) -ᵢ f m ≡ s -ᵢ sumᵢ (m + 1) f
minus_more s m f = minus_minus s (sumᵢ m f) (f m) ∙ ap (λ t. s -ᵢ t) (sum_more m f)

pub int_sum_more : (m : ℕ) (f : ℕ → ℤ) → int_sum m f +ℤ f m ≡ int_sum (m + 1) f
int_sum_more m f = sym (ap (λ n. int_sum n f) (add-one m))

-- sums of equal terms are equal
pub same_sums : (n : ℕ) (f g : ℕ → Interval) → ((j : ℕ) → j < n → f j ≡ g j) → sumᵢ n f ≡ sumᵢ n g
same_sums zero f g e = refl
same_sums (suc n) f g e = rw (same_sums n f g (λ j h. e j (omega arith)), e n (omega arith))

-- operations on equal intervals
pub plus_same : {s t u v : Interval} → s ≡ u → t ≡ v → s +ᵢ t ≡ u +ᵢ v
plus_same {s} {t} {u} {v} e f = ap (λ x. x +ᵢ t) e ∙ ap (λ x. u +ᵢ x) f

pub minus_same : {s t u v : Interval} → s ≡ u → t ≡ v → s -ᵢ t ≡ u -ᵢ v
minus_same {s} {t} {u} {v} e f = ap (λ x. x -ᵢ t) e ∙ ap (λ x. u -ᵢ x) f

pub times_same : {s t u v : Interval} → s ≡ u → t ≡ v → s *ᵢ t ≡ u *ᵢ v
times_same {s} {t} {u} {v} e f = ap (λ x. x *ᵢ t) e ∙ ap (λ x. u *ᵢ x) f

pub fits_same : {s t : Interval} → s ≡ t → Fits t → Fits s
fits_same {s} {t} e h = rw e h

-- the code's test of both ends is the question's
pub within_as : {S u : ℕ} (w : ℕ) {s t : Interval} {b : Bool} → u ≡ S → s ≡ t → b ≡ ends_within u w s → ends_within S w t ≡ b
within_as {S} {u} w {s} {t} {b} e f h = rw (← e, ← f) (sym h)
