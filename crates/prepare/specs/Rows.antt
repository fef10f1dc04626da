-- lists that are filled from their start, place by place
use Rattle.std.specs.Prelude.{◌≡◌, ℕ, ◌<◌, ◌≤◌, true, List, ℤ, pos, nat_le, slice_index_or, unsigned_abs}
use Rattle.span.specs.declared.span.Span.{Span}
use Rattle.span.specs.Intervals.{Interval, point}
use Rattle.span.specs.Questions.{ends_within}
use Rattle.system.specs.Figures.{spans}

-- the first k spans are those of f, with both ends within w wholes of S units; the others are 0
pub record Limited (S w k : ℕ) (f : ℕ → Interval) (xs : List Span) : Type 0 where
  pub before : (i : ℕ) → i < k → spans xs i ≡ f i
  pub after : (i : ℕ) → k ≤ i → spans xs i ≡ point (pos 0)
  pub inside : (i : ℕ) → i < k → ends_within S w (f i) ≡ true

-- the first k numbers are those of xs, each within the limit; the others are 0
pub record Copied (limit k : ℕ) (xs ys : List ℤ) : Type 0 where
  pub before : (i : ℕ) → i < k → slice_index_or ys i (pos 0) ≡ slice_index_or xs i (pos 0)
  pub after : (i : ℕ) → k ≤ i → slice_index_or ys i (pos 0) ≡ pos 0
  pub inside : (i : ℕ) → i < k → nat_le (unsigned_abs (slice_index_or xs i (pos 0))) limit ≡ true
