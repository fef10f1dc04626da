-- the boxes of a run, when one is accepted, and the worst end of one that is not
use Rattle.std.specs.Prelude.{ℕ, zero, suc, Bool, true, cond, ◌&&◌, ℤ, pos, ◌+ℤ◌, ◌-ℤ◌, ◌*ℤ◌, int_lt}
use Rattle.std.specs.Int.{int_max, int_min}
use Rattle.span.specs.Intervals.{Interval}
use Rattle.span.specs.Rounding.{floor, ceiling}
use Rattle.method.specs.Method.{Game, Proposal, step, first_box}

-- from the lesser of 9 and 11 tenths of the low end, rounded down, minus 1, to the greater of those of the high end, rounded up, plus 1
unfoldable pub grown : Interval → Interval
grown v = record {
  low = int_min (floor 10 (pos 9 *ℤ v.low)) (floor 10 (pos 11 *ℤ v.low)) -ℤ pos 1;
  high = int_max (ceiling 10 (pos 9 *ℤ v.high)) (ceiling 10 (pos 11 *ℤ v.high)) +ℤ pos 1;
}

-- f holds of every number below n
unfoldable pub every : ℕ → (ℕ → Bool) → Bool
every zero f = true
every (suc n) f = every n f && f n

-- an end of a box: its row, 0 for the low and 1 for the high one, and its overshoot
pub record End : Type 0 where
  pub row : ℕ
  pub side : ℕ
  pub over : ℤ

-- the first of two ends, unless the second overshoots by more
abbrev pub worse : End → End → End
worse a b = cond (int_lt a.over b.over) b a

-- how far V passes Y at an end of row i
abbrev pub low_end : (ℕ → Interval) → (ℕ → Interval) → ℕ → End
low_end Y V i = record { row = i; side = 0; over = (Y i).low -ℤ (V i).low }

abbrev pub high_end : (ℕ → Interval) → (ℕ → Interval) → ℕ → End
high_end Y V i = record { row = i; side = 1; over = (V i).high -ℤ (Y i).high }

-- does V lie strictly inside Y in each of n rows?
abbrev pub is_inside : ℕ → (ℕ → Interval) → (ℕ → Interval) → Bool
is_inside n Y V = every n (λ i. int_lt (Y i).low (V i).low && int_lt (V i).high (Y i).high)

-- the end with the greatest overshoot in rows 0 to i; ties go to the lower row, then to the low end
unfoldable pub worst : (ℕ → Interval) → (ℕ → Interval) → ℕ → End
worst Y V zero = worse (low_end Y V 0) (high_end Y V 0)
worst Y V (suc i) = worse (worse (worst Y V i) (low_end Y V (suc i))) (high_end Y V (suc i))

module _ (S : ℕ) (G : Game) (H : Proposal) where
  -- the box of trial a + 1
  unfoldable pub boxes : ℕ → ℕ → Interval
  boxes zero = first_box S G H
  boxes (suc a) = λ i. grown (step S G H (boxes a) i)

  -- is the box accepted?
  abbrev pub accepts : (ℕ → Interval) → Bool
  accepts Y = is_inside G.states Y (step S G H Y)
