-- boxes as the code holds them, and what is asked of them; for the contracts inside this crate
use Rattle.std.specs.Prelude.{◌≡◌, ℕ, ◌+◌, ◌*◌, ◌<◌, ◌≤◌, List, length, ℤ, pos, neg_ℤ, Some, None, Ok, Err, Result, ◌==◌, int_le, slice_index_or}
use Rattle.span.specs.declared.span.Span.{Span}
use Rattle.span.specs.Intervals.{Interval, point, ◌*ᵢ◌}
use Rattle.span.specs.Questions.{Question, ask, first_no, each, ends_within}
use Rattle.method.specs.Method.{size, greatest_of}
use Rattle.method.specs.Sums.{sumᵢ}
use Rattle.system.specs.Figures.{spans}
use Rattle.prepare.specs.declared.prepared.Prepared.{Prepared}
use Rattle.enclosure.specs.declared.fault.Fault.{Fault}
use Rattle.enclosure.specs.declared.fault.Fault.TheVariants.{Count, BoxReversed, BoxTooLarge}
use Rattle.enclosure.specs.Stepped.{stepped}

-- 12 rows: n of Y, and 0 past them
pub record Holds (n : ℕ) (xs : List Span) (Y : ℕ → Interval) : Type 0 where
  pub long : length xs ≡ 12
  pub rows : (i : ℕ) → i < n → spans xs i ≡ Y i
  pub rest : (i : ℕ) → n ≤ i → spans xs i ≡ point (pos 0)

-- n rows, each within w
pub record Reaches (n w : ℕ) (xs : List Span) : Type 0 where
  pub within : (i : ℕ) → i < n → size (spans xs i) ≤ w

-- the step, and its first m products in row i
abbrev pub next : Prepared → (ℕ → Interval) → ℕ → Interval
next p Y = stepped p.units p.states p.residual p.iteration Y

abbrev pub product_sum : Prepared → (ℕ → Interval) → ℕ → ℕ → Interval
product_sum p Y i m = sumᵢ m (λ j. spans p.iteration (i * p.states + j) *ᵢ Y j)

-- the greatest size of the first m rows of the residual, and the first box of a run
abbrev pub greatest_size : Prepared → ℕ → ℕ
greatest_size p m = greatest_of m (λ i. size (spans p.residual i))

abbrev pub about_zero : ℕ → Interval
about_zero m = record { low = neg_ℤ (pos (2 * m + 2)); high = pos (2 * m + 2) }

-- numbers as a box, row by row, low before high
abbrev pub box : List ℤ → ℕ → Interval
box ys i = record { low = slice_index_or ys (2 * i) (pos 0); high = slice_index_or ys (2 * i + 1) (pos 0) }

abbrev pub count_question : ℕ → List ℤ → Question Fault
count_question n ys = ask (length ys == 2 * n) (Count (length ys))

abbrev pub order_questions : ℕ → List ℤ → List (Question Fault)
order_questions n ys = each n (λ i. ask (int_le (box ys i).low (box ys i).high) (BoxReversed i))

abbrev pub reach_questions : ℕ → ℕ → (ℕ → Interval) → List (Question Fault)
reach_questions S n Y = each n (λ i. ask (ends_within S 100 (Y i)) (BoxTooLarge i))

-- n rows of Y where every question is answered yes, else the first no
abbrev pub BoxedBy : List (Question Fault) → ℕ → (ℕ → Interval) → Result (List Span) Fault → Type 0
BoxedBy qs n Y (Ok b) = (first_no qs ≡ None) × Holds n b Y
BoxedBy qs n Y (Err f) = first_no qs ≡ Some f
