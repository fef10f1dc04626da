-- a system's figures as the game that the method speaks of
use Rattle.std.specs.Prelude.{ℕ, ◌+◌, ◌*◌, ◌/◌, ◌%◌, ◌<◌, ◌≤◌, List, map, ℤ, pos, slice_index_or, unsigned_abs}
use Rattle.span.specs.declared.span.Span.{Span}
use Rattle.span.specs.Intervals.{Interval, point}
use Rattle.span.specs.Spans.{ends}
use Rattle.method.specs.Method.{Game, size}
use Rattle.span.specs.declared.fault.Spot.{Spot}
use Rattle.span.specs.Faults.{at}

-- the spans of a list by their place in it
abbrev pub spans : List Span → ℕ → Interval
spans xs i = slice_index_or (map ends xs) i (point (pos 0))

-- where a coefficient and a payout stand
abbrev pub matrix_index : ℕ → ℕ → ℕ → ℕ
matrix_index v i j = (v * 12 + i) * 12 + j

abbrev pub payout_index : ℕ → ℕ → ℕ
payout_index v i = v * 12 + i

abbrev pub figures : ℕ → ℕ → List ℤ → List ℤ → List Span → Game
figures n k matrix payouts ranges = record {
  states = n;
  settings = k;
  matrix = λ v i j. slice_index_or matrix (matrix_index v i j) (pos 0);
  payout = λ v i. slice_index_or payouts (payout_index v i) (pos 0);
  range = spans ranges;
}

-- each number is within w
abbrev pub Small : ℕ → List ℤ → Type 0
Small w xs = (i : ℕ) → unsigned_abs (slice_index_or xs i (pos 0)) ≤ w

-- the number at i is the first that is not within w
pub record FirstBeyond (w : ℕ) (xs : List ℤ) (i : ℕ) : Type 0 where
  pub beyond : w < unsigned_abs (slice_index_or xs i (pos 0))
  pub before : (j : ℕ) → j < i → unsigned_abs (slice_index_or xs j (pos 0)) ≤ w

-- the place of a coefficient and of a payout by its index; a payout has column 12
abbrev pub matrix_spot : ℕ → Spot
matrix_spot t = at (t / 144) ((t / 12) % 12) (t % 12)

abbrev pub payout_spot : ℕ → Spot
payout_spot t = at (t / 12) (t % 12) 12

-- both ends of each span are within w
abbrev pub Narrow : ℕ → List Span → Type 0
Narrow w xs = (i : ℕ) → size (spans xs i) ≤ w
