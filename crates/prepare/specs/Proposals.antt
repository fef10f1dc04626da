-- a proposal by its numbers, the questions asked of it, and what is prepared from it
use Rattle.std.specs.Prelude.{◌≡◌, ℕ, ◌+◌, ◌*◌, ◌/◌, ◌%◌, ◌<◌, ◌≤◌, ◌&&◌, List, ◌∷◌, ◌++◌, length, ℤ, pos, Some, None, Ok, Err, Result, ◌==◌, slice_index_or}
use Rattle.span.specs.Intervals.{point}
use Rattle.span.specs.Questions.{Question, ask, first_no, each, within, ends_within}
use Rattle.method.specs.Method.{Game, Proposal, residual, iteration}
use Rattle.system.specs.declared.system.System.{System}
use Rattle.system.specs.Figures.{figures, spans}
use Rattle.prepare.specs.declared.fault.Fault.{Fault}
use Rattle.prepare.specs.declared.fault.Fault.TheVariants.{OtherScale, Count, TableTooLarge, GuessTooLarge, ResidualTooLarge, IterationTooLarge}
use Rattle.prepare.specs.declared.prepared.Prepared.{Prepared}

abbrev pub game : System → Game
game s = figures s.states s.settings s.matrix s.payouts s.ranges

-- R by rows of n numbers, and the guesses
abbrev pub offer : ℕ → List ℤ → List ℤ → Proposal
offer n r g = record { table = λ i j. slice_index_or r (i * n + j) (pos 0); guess = λ i. slice_index_or g i (pos 0) }

-- number t of R is in row t / n, column t % n
abbrev pub table_questions : ℕ → ℕ → List ℤ → List (Question Fault)
table_questions S n r = each (n * n) (λ t. ask (within S 50 (slice_index_or r t (pos 0))) (TableTooLarge (t / n) (t % n)))

abbrev pub guess_questions : ℕ → ℕ → List ℤ → List (Question Fault)
guess_questions S n g = each n (λ i. ask (within S 100 (slice_index_or g i (pos 0))) (GuessTooLarge i))

abbrev pub residual_questions : ℕ → Game → Proposal → List (Question Fault)
residual_questions S G H = each G.states (λ i. ask (ends_within S 49 (residual S G H i)) (ResidualTooLarge i))

abbrev pub iteration_questions : ℕ → Game → Proposal → List (Question Fault)
iteration_questions S G H = each (G.states * G.states) (λ t. ask (ends_within S 1 (iteration S G H (t / G.states) (t % G.states))) (IterationTooLarge (t / G.states) (t % G.states)))

-- asked of the numbers r and g for the system s, at the scale S
abbrev pub propose_questions : ℕ → System → List ℤ → List ℤ → List (Question Fault)
propose_questions S s r g =
    let n : ℕ = s.states in
    ask (S == s.units) (OtherScale s.units)
    ∷ ask (length r == n * n && length g == n) (Count (length r) (length g))
    ∷ (table_questions S n r ++ (guess_questions S n g ++ (residual_questions S (game s) (offer n r g) ++ iteration_questions S (game s) (offer n r g))))

-- p holds the residual and the iteration matrix of the game G and the proposal H, and 0 where they have no row
pub record PreparedFor (S : ℕ) (G : Game) (H : Proposal) (p : Prepared) : Type 0 where
  pub units : p.units ≡ S
  pub states : p.states ≡ G.states
  pub guess : (i : ℕ) → i < G.states → slice_index_or p.guesses i (pos 0) ≡ H.guess i
  pub residual_is : (i : ℕ) → i < G.states → spans p.residual i ≡ residual S G H i
  pub iteration_is : (i j : ℕ) → i < G.states → j < G.states → spans p.iteration (i * G.states + j) ≡ iteration S G H i j
  pub guess_rest : (i : ℕ) → G.states ≤ i → slice_index_or p.guesses i (pos 0) ≡ pos 0
  pub residual_rest : (i : ℕ) → G.states ≤ i → spans p.residual i ≡ point (pos 0)
  pub iteration_rest : (t : ℕ) → G.states * G.states ≤ t → spans p.iteration t ≡ point (pos 0)

-- p keeps the inverse of the proposal H by rows of n numbers, and 0 past them
pub record Tabled (n : ℕ) (H : Proposal) (p : Prepared) : Type 0 where
  pub table_is : (i j : ℕ) → i < n → j < n → slice_index_or p.table (i * n + j) (pos 0) ≡ H.table i j
  pub table_rest : (t : ℕ) → n * n ≤ t → slice_index_or p.table t (pos 0) ≡ pos 0

abbrev pub Proposed : ℕ → System → List ℤ → List ℤ → Result Prepared Fault → Type 0
Proposed S s r g (Ok p) = (first_no (propose_questions S s r g) ≡ None) × PreparedFor S (game s) (offer s.states r g) p
Proposed S s r g (Err f) = first_no (propose_questions S s r g) ≡ Some f
