-- a dropped end lies between the ends that must be printed
use Rattle.std.proofs.Common.{◌≡◌, ℕ, suc, ◌*◌, ◌<◌, ℤ, pos, negsuc, ◌+ℤ◌, ◌*ℤ◌, ◌≤ℤ◌, sym, ap, subst, div-le_self, arith, w64, SFits, to_z, of_z}
use borrow.Author.Differences.{ints}
use lib.Signed.{quot_z, ≤ℤ_refl}
use Rattle.std.proofs.lemmas.Int.{to_z-of_z}
use Rattle.span.specs.Intervals.{Interval, In, brought}
use Rattle.span.specs.Rounding.{floor, ceiling}
use Rattle.span.specs.Spans.{ends}
use Rattle.span.specs.declared.span.Span.{Span}
use Rattle.span.proofs.Contains.{in_brought}
use Rattle.span.proofs.Floors.{floor_ceiling, floor_greatest, ceiling_least}
use Rattle.span.proofs.Integers.{lin, *ℤ_add_right}
use Rattle.audit.specs.Rows.{Found, due_row, dropped_end}

-- the quotient rounded toward zero lies between floor and ceiling
pub quot_between : (S : ℕ) (v : ℤ) → 0 < S → (floor S v ≤ℤ quot_z v (pos S)) × (quot_z v (pos S) ≤ℤ ceiling S v)
quot_between S (pos a) h = (≤ℤ_refl (pos _), floor_ceiling S (pos a) (pos a) h (≤ℤ_refl (pos a)))
quot_between S (negsuc a) h = (floor_ceiling S (negsuc a) (negsuc a) h (≤ℤ_refl (negsuc a)), ≤ℤ_refl _)

-- what is divided by a scale fits as before
pub quot_fits : (S : ℕ) (v : ℤ) → SFits w64 v → SFits w64 (quot_z v (pos S))
quot_fits S (pos a) f = omega (arith, ints, div-le_self a S)
quot_fits S (negsuc a) f = omega (arith, ints, div-le_self (suc a) S)

floor_monotone : (S : ℕ) (a b : ℤ) → 0 < S → a ≤ℤ b → floor S a ≤ℤ floor S b
floor_monotone S a b h k = (floor_greatest S b h).greatest (floor S a) (omega (arith, lin, (floor_greatest S a h).below))

ceiling_monotone : (S : ℕ) (a b : ℤ) → 0 < S → a ≤ℤ b → ceiling S a ≤ℤ ceiling S b
ceiling_monotone S a b h k = (ceiling_least S a h).least (ceiling S b) (omega (arith, lin, (ceiling_least S b h).above))

-- an end of the sums, with its remainder dropped, stays in the row
pub dropped_between : (S : ℕ) (guess v : ℤ) (sums : Interval) → 0 < S → sums.low ≤ℤ v → v ≤ℤ sums.high → ((due_row S guess sums).low ≤ℤ dropped_end S guess v) × (dropped_end S guess v ≤ℤ (due_row S guess sums).high)
unfolding brought
dropped_between S guess v sums h p q =
    (omega (arith, lin, (quot_between S v h).0, floor_monotone S sums.low v h p), omega (arith, lin, (quot_between S v h).1, ceiling_monotone S v sums.high h q))

-- guess + (x / k) / S lies in the row
pub due_encloses : (S : ℕ) (guess : ℤ) (sums : Interval) → 0 < S → (k : ℕ) (x : ℤ) → In k sums x → In (k * S) (due_row S guess sums) (pos (k * S) *ℤ guess +ℤ x)
due_encloses S guess sums h k x p =
    let q : In (k * S) (brought S sums) x = in_brought S sums h k x p in
    record {
      above = omega (arith, lin, *ℤ_add_right (pos (k * S)) guess (brought S sums).low, q.above);
      below = omega (arith, lin, *ℤ_add_right (pos (k * S)) guess (brought S sums).high, q.below);
    }

-- so it fits where the row does
pub dropped_fits : (S : ℕ) (guess v : ℤ) (sums : Interval) (d : Span) → 0 < S → sums.low ≤ℤ v → v ≤ℤ sums.high → ends d ≡ due_row S guess sums → SFits w64 d.low → SFits w64 d.high → SFits w64 (dropped_end S guess v)
dropped_fits S guess v sums d h p q e f g =
    let b = dropped_between S guess v sums h p q in
    between (due_row S guess sums).low (due_row S guess sums).high (dropped_end S guess v) (subst (SFits w64) (ap (λ i. i.low) e) f) (subst (SFits w64) (ap (λ i. i.high) e) g) b.0 b.1
  where
    between : (a b z : ℤ) → SFits w64 a → SFits w64 b → a ≤ℤ z → z ≤ℤ b → SFits w64 z
    between a b z p q r s = omega (arith, ints)

-- a dropped end as the code has it
pub end_is : (S : ℕ) (guess v w r : ℤ) → SFits w64 guess → SFits w64 v → SFits w64 r → w ≡ v → r ≡ dropped_end S (to_z w64 (of_z w64 guess)) (to_z w64 (of_z w64 w)) → to_z w64 (of_z w64 r) ≡ dropped_end S guess v
end_is S guess v w r f g h e d = simp to_z-of_z (simp (e, to_z-of_z) at d)

-- all that an audit finds, from the row and the two dropped ends
pub found : (S : ℕ) (guess low high : ℤ) (sums d : Span) → 0 < S → ends d ≡ due_row S guess (ends sums) → low ≡ dropped_end S guess sums.low → high ≡ dropped_end S guess sums.high → Found S guess (ends sums) (record { due = d; dropped_low = low; dropped_high = high })
found S guess low high sums d some e p q =
    let l = dropped_between S guess sums.low (ends sums) some (≤ℤ_refl sums.low) sums.ordered in
    let h = dropped_between S guess sums.high (ends sums) some sums.ordered (≤ℤ_refl sums.high) in
    record {
      due_is = e;
      low_is = p;
      high_is = q;
      low_inward = rw p (subst (λ x. x ≤ℤ dropped_end S guess sums.low) (sym (ap (λ i. i.low) e)) l.0);
      high_inward = rw q (subst (λ x. dropped_end S guess sums.high ≤ℤ x) (sym (ap (λ i. i.high) e)) h.1);
      encloses = λ k x i. rw e (due_encloses S guess (ends sums) some k x i);
    }
