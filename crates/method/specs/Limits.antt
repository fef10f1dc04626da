-- what the questions admit, and how large every sum can then get
use Rattle.std.specs.Prelude.{ℕ, ◌*◌, ◌≤◌, unsigned_abs}
use Rattle.method.specs.Method.{Game, Proposal, size}

-- coefficients within one whole, payouts within 100, settings within one
pub record Admitted (S : ℕ) (G : Game) : Type 0 where
  pub states : G.states ≤ 12
  pub settings : G.settings ≤ 8
  pub matrix : (v i j : ℕ) → unsigned_abs (G.matrix v i j) ≤ S
  pub payout : (v i : ℕ) → unsigned_abs (G.payout v i) ≤ 100 * S
  pub range : (v : ℕ) → size (G.range v) ≤ S

-- R within 50 wholes, guesses within 100
pub record Offered (S : ℕ) (H : Proposal) : Type 0 where
  pub table : (i j : ℕ) → unsigned_abs (H.table i j) ≤ 50 * S
  pub guess : (i : ℕ) → unsigned_abs (H.guess i) ≤ 100 * S
