-- what is computed from the equations, the settings' ranges, a proposal and a trial box; all figures count units, S to a whole
use Rattle.std.specs.Prelude.{ℕ, zero, suc, ◌+◌, ◌*◌, ◌<◌, ◌≤◌, max, cond, ℤ, pos, ◌-ℤ◌, ◌*ℤ◌, neg_ℤ, ◌<ℤ◌, ◌==◌, unsigned_abs}
use Rattle.method.specs.Sums.{int_sum, nat_sum, sumᵢ}
use Rattle.span.specs.Intervals.{Interval, point, ◌+ᵢ◌, ◌-ᵢ◌, ◌*ᵢ◌, brought}

-- A(p) x = b(p) with n states and k settings: `matrix v i j` and `payout v i` for part v, row i and column j, part 0
-- being the fixed one; `range v` for the settings 1 to k
pub record Game : Type 0 where
  pub states : ℕ
  pub settings : ℕ
  pub matrix : ℕ → ℕ → ℕ → ℤ
  pub payout : ℕ → ℕ → ℤ
  pub range : ℕ → Interval

-- an approximate inverse R and guessed worths g, from anywhere
pub record Proposal : Type 0 where
  pub table : ℕ → ℕ → ℤ
  pub guess : ℕ → ℤ

-- the greater size of its ends
abbrev pub size : Interval → ℕ
size s = max (unsigned_abs s.low) (unsigned_abs s.high)

-- the greatest of f below n, or 0
abbrev pub greatest_of : ℕ → (ℕ → ℕ) → ℕ
greatest_of zero f = 0
greatest_of (suc n) f = max (greatest_of n f) (f n)

module _ (S : ℕ) (G : Game) (H : Proposal) where
  -- e(v)i: what the guesses leave over in part v
  unfoldable pub leftover : ℕ → ℕ → Interval
  leftover v i = brought S (point (pos S *ℤ G.payout v i -ℤ int_sum G.states (λ j. G.matrix v i j *ℤ H.guess j)))

  -- z(v)i: the correction that part v asks for
  unfoldable pub correction : ℕ → ℕ → Interval
  correction v i = brought S (sumᵢ G.states (λ j. point (H.table i j) *ᵢ leftover v j))

  -- Zi
  unfoldable pub residual : ℕ → Interval
  residual i = brought S (point (pos S) *ᵢ correction 0 i +ᵢ sumᵢ G.settings (λ v. G.range (suc v) *ᵢ correction (suc v) i))

  -- M(v)ij: R times part v of the matrix
  unfoldable pub product : ℕ → ℕ → ℕ → Interval
  product v i j = brought S (point (int_sum G.states (λ l. H.table i l *ℤ G.matrix v l j)))

  -- Cij
  unfoldable pub iteration : ℕ → ℕ → Interval
  iteration i j = brought S (point (cond (i == j) (pos (S * S)) (pos 0)) -ᵢ point (pos S) *ᵢ product 0 i j -ᵢ sumᵢ G.settings (λ v. G.range (suc v) *ᵢ product (suc v) i j))

  -- Vi, the step of the box Y
  unfoldable pub step : (ℕ → Interval) → ℕ → Interval
  step Y i = brought S (point (pos S) *ᵢ residual i +ᵢ sumᵢ G.states (λ j. iteration i j *ᵢ Y j))

  -- Y is accepted: its step lies strictly inside
  pub record Accepted (Y : ℕ → Interval) : Type 0 where
    pub above : (i : ℕ) → i < G.states → (Y i).low <ℤ (step Y i).low
    pub below : (i : ℕ) → i < G.states → (step Y i).high <ℤ (Y i).high

  -- V after m narrowings of the step of Y
  unfoldable pub narrowed : (ℕ → Interval) → ℕ → ℕ → Interval
  narrowed Y zero = step Y
  narrowed Y (suc m) = step (narrowed Y m)

  -- the held range of a row, guess + V
  abbrev pub held : (ℕ → Interval) → ℕ → Interval
  held V i = point (H.guess i) +ᵢ V i

  -- m, the greatest size of an end of Z
  abbrev pub residual_size : ℕ
  residual_size = greatest_of G.states (λ i. size (residual i))

  -- the first box of a run, the same in every row
  abbrev pub first_box : ℕ → Interval
  first_box i = record { low = neg_ℤ (pos (2 * residual_size + 2)); high = pos (2 * residual_size + 2) }

  -- in each row the sizes of C add up to at most half a whole
  pub record Halved : Type 0 where
    pub half : (i : ℕ) → i < G.states → 2 * nat_sum G.states (λ j. size (iteration i j)) ≤ S
