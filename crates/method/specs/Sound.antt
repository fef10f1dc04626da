-- why a printed row can be trusted: at most one solution, and any lies in the held ranges
use Rattle.std.specs.Prelude.{ℕ, suc, ◌<◌, ℤ, ◌≤ℤ◌}
use Rattle.span.specs.Intervals.{Interval}
use Rattle.method.specs.Method.{Game, Proposal, Accepted, narrowed, held, Halved, first_box}
use Rattle.method.specs.Fractions.{Frac, units, ◌+ᶠ◌, ◌*ᶠ◌, sumᶠ, ◌≈◌, ◌≤ᶠ◌}

module _ (S : ℕ) (some : 0 < S) where
  -- a choice of settings: each of the settings 1 to k is a fraction of its range
  pub record Choice (G : Game) (p : ℕ → Frac) : Type 0 where
    pub from : (v : ℕ) → v < G.settings → units S some (G.range (suc v)).low ≤ᶠ p (suc v)
    pub to : (v : ℕ) → v < G.settings → p (suc v) ≤ᶠ units S some (G.range (suc v)).high

  -- a figure of the fixed part plus each setting times the figure of its part
  unfoldable pub at_choice : Game → (ℕ → Frac) → (ℕ → ℤ) → Frac
  at_choice G p a = units S some (a 0) +ᶠ sumᶠ G.settings (λ v. p (suc v) *ᶠ units S some (a (suc v)))

  -- A(p) x = b(p)
  pub record Solution (G : Game) (p x : ℕ → Frac) : Type 0 where
    pub meets : (i : ℕ) → i < G.states → sumᶠ G.states (λ j. at_choice G p (λ v. G.matrix v i j) *ᶠ x j) ≈ at_choice G p (λ v. G.payout v i)

  -- every row of x lies in the ranges
  pub record Within (G : Game) (ranges : ℕ → Interval) (x : ℕ → Frac) : Type 0 where
    pub above : (i : ℕ) → i < G.states → units S some (ranges i).low ≤ᶠ x i
    pub below : (i : ℕ) → i < G.states → x i ≤ᶠ units S some (ranges i).high

  pub record Sound (G : Game) (H : Proposal) (Y : ℕ → Interval) : Type 0 where
    -- at most one solution
    pub one : (p x y : ℕ → Frac) → Choice G p → Solution G p x → Solution G p y → (i : ℕ) → i < G.states → x i ≈ y i
    -- and any lies in the ranges, however often they were narrowed
    pub inside : (p x : ℕ → Frac) → Choice G p → Solution G p x → (m : ℕ) → Within G (held S G H (narrowed S G H Y m)) x

abbrev pub Soundness : Type 0
Soundness = (S : ℕ) (some : 0 < S) (G : Game) (H : Proposal) (Y : ℕ → Interval) → Accepted S G H Y → Sound S some G H Y

-- where C is small, a run's first box is accepted
abbrev pub FirstAccepted : Type 0
FirstAccepted = (S : ℕ) → 0 < S → (G : Game) (H : Proposal) → Halved S G H → Accepted S G H (first_box S G H)

-- s lies in t
pub record Inside (s t : Interval) : Type 0 where
  pub low : t.low ≤ℤ s.low
  pub high : s.high ≤ℤ t.high

-- a narrowing never widens
abbrev pub NeverWidens : Type 0
NeverWidens = (S : ℕ) → 0 < S → (G : Game) (H : Proposal) (Y : ℕ → Interval) → Accepted S G H Y → (m i : ℕ) → i < G.states → Inside (narrowed S G H Y (suc m) i) (narrowed S G H Y m i)
