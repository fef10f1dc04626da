-- what a try, a run, a narrowing and the asking for a row answer
use Rattle.std.specs.Prelude.{◌≡◌, ℕ, zero, suc, pred, ◌-◌, ◌*◌, ◌<◌, ◌≤◌, Bool, cond, ◌&&◌, List, [], ◌∷◌, ◌++◌, ℤ, pos, Some, None, Ok, Err, Option, Result, nat_le, nat_lt, slice_index_or}
use Rattle.span.specs.declared.span.Span.{Span}
use Rattle.span.specs.Intervals.{Interval, point, ◌+ᵢ◌}
use Rattle.span.specs.Questions.{Question, ask, first_no}
use Rattle.span.specs.Spans.{ends}
use Rattle.method.specs.Method.{Game, Proposal, narrowed, Halved}
use Rattle.method.specs.Sound.{Inside, Sound}
use Rattle.method.specs.Trials.{boxes, accepts, worst}
use Rattle.method.specs.Method as method
use Rattle.system.specs.Figures.{spans}
use Rattle.prepare.specs.Proposals.{PreparedFor}
use Rattle.enclosure.specs.Boxed.{Holds, box, count_question, order_questions, reach_questions}
use Rattle.enclosure.specs.declared.enclosure.Enclosure.{Enclosure}
use Rattle.enclosure.specs.Ends.{sided}
use Rattle.enclosure.specs.declared.fault.Fault.{Fault}
use Rattle.enclosure.specs.declared.fault.Fault.TheVariants.{NotAccepted, Trials, Narrowed, NoRow}

-- e holds what the box Y gives after m narrowings, and 0 past the last row
pub record Held (S : ℕ) (G : Game) (H : Proposal) (Y : ℕ → Interval) (m : ℕ) (e : Enclosure) : Type 0 where
  pub of : PreparedFor S G H e.prepared
  pub accepted : method.Accepted S G H Y
  pub trial_is : (i : ℕ) → i < G.states → spans e.trial i ≡ Y i
  pub correction_is : (i : ℕ) → i < G.states → spans e.correction i ≡ narrowed S G H Y m i
  pub trial_rest : (i : ℕ) → G.states ≤ i → spans e.trial i ≡ point (pos 0)
  pub correction_rest : (i : ℕ) → G.states ≤ i → spans e.correction i ≡ point (pos 0)
  pub count : e.narrowings ≡ m

-- with it goes what makes its rows trustworthy: at most one solution, inside the ranges
pub record Encloses (S : ℕ) (G : Game) (H : Proposal) (Y : ℕ → Interval) (m : ℕ) (e : Enclosure) : Type 0 where
  pub held : Held S G H Y m e
  pub sound : (some : 0 < S) → Sound S some G H Y

-- one trial: its first no, else its number where it is accepted, else what comes after it
abbrev pub decided : Option Fault → Bool → ℕ → Result ℕ Fault → Result ℕ Fault
decided (Some f) accepted number after = Err f
decided None accepted number after = cond accepted (Ok number) after

module _ (S : ℕ) (G : Game) (H : Proposal) where
  -- at the worst end of the box
  abbrev pub refused_at : (ℕ → Interval) → Fault
  refused_at Y = let e = worst Y (method.step S G H Y) (pred G.states) in NotAccepted e.row (sided e.side)

  abbrev pub size_questions : (ℕ → Interval) → List (Question Fault)
  size_questions Y = reach_questions S G.states Y

  abbrev pub try_questions : List ℤ → List (Question Fault)
  try_questions ys =
      count_question G.states ys
      ∷ (order_questions G.states ys
      ++ (size_questions (box ys)
      ++ (ask (accepts S G H (box ys)) (refused_at (box ys)) ∷ [])))

  abbrev pub Tried : List ℤ → Result Enclosure Fault → Type 0
  Tried ys (Ok e) = (first_no (try_questions ys) ≡ None) × Encloses S G H (box ys) 0 e
  Tried ys (Err f) = first_no (try_questions ys) ≡ Some f

  -- trial a + 1 and on, with `left` more allowed after it: the number of the accepted one, or the first no
  unfoldable pub trials : ℕ → ℕ → Result ℕ Fault
  trials zero a = decided (first_no (size_questions (boxes S G H a))) (accepts S G H (boxes S G H a)) (suc a) (Err (refused_at (boxes S G H a)))
  trials (suc left) a =
      let r = trials left (suc a) in
      decided (first_no (size_questions (boxes S G H a))) (accepts S G H (boxes S G H a)) (suc a) r

  abbrev pub run_questions : ℕ → List (Question Fault)
  run_questions t = ask (nat_le 1 t && nat_le t 10) (Trials t) ∷ []

  -- the outcome of t trials that may be asked
  abbrev pub Found : ℕ → Result (ℕ × Enclosure) Fault → Type 0
  Found t (Ok p) = (trials (pred t) 0 ≡ Ok p.0) × Encloses S G H (boxes S G H (pred p.0)) 0 p.1
  Found t (Err f) = trials (pred t) 0 ≡ Err f

  -- before trial number b: its box, and that the outcome is still open
  pub record Going (t b : ℕ) (y : List Span) : Type 0 where
    pub held : Holds G.states y (boxes S G H (pred b))
    pub left : trials (pred t) 0 ≡ trials (t - b) (pred b)

  abbrev pub RunRefused : ℕ → Fault → Option Fault → Type 0
  RunRefused t f (Some q) = f ≡ q
  RunRefused t f None = trials (pred t) 0 ≡ Err f

  -- the run's own answer
  abbrev pub RunAnswers : ℕ → Result (ℕ × Enclosure) Fault → Type 0
  RunAnswers t (Ok p) = (first_no (run_questions t) ≡ None) × (trials (pred t) 0 ≡ Ok p.0) × Encloses S G H (boxes S G H (pred p.0)) 0 p.1
  RunAnswers t (Err f) = RunRefused t f (first_no (run_questions t))

  -- accepted at the first trial
  abbrev pub AtOnce : Result (ℕ × Enclosure) Fault → Type 0
  AtOnce (Ok p) = p.0 ≡ 1
  AtOnce (Err f) = ⊥

  -- and where C is small, a run of any number of trials that may be asked is accepted at once
  pub record Ran (t : ℕ) (r : Result (ℕ × Enclosure) Fault) : Type 0 where
    pub answers : RunAnswers t r
    pub at_once : 0 < S → S ≤ 1048576 → Halved S G H → 1 ≤ t → t ≤ 10 → AtOnce r

  module _ (Y : ℕ → Interval) (m : ℕ) where
    abbrev pub narrow_questions : List (Question Fault)
    narrow_questions = ask (nat_lt m 16) Narrowed ∷ []

    -- one narrowing more, and no row is wider
    pub record Narrower (e f : Enclosure) : Type 0 where
      pub held : Held S G H Y (suc m) f
      pub inside : (i : ℕ) → i < G.states → Inside (spans f.correction i) (spans e.correction i)

    abbrev pub NarrowedTo : {A : Type 0} → Enclosure → Enclosure → Result A Fault → Type 0
    NarrowedTo e f (Ok x) = (first_no narrow_questions ≡ None) × Narrower e f
    NarrowedTo e f (Err q) = (first_no narrow_questions ≡ Some q) × (f ≡ e)

-- ---- the held range of a row, which fits 32 bits
abbrev pub row_questions : Enclosure → ℕ → List (Question Fault)
row_questions e i = ask (nat_lt i e.prepared.states) (NoRow i) ∷ []

pub record Row (e : Enclosure) (i : ℕ) (s : Span) : Type 0 where
  pub range : ends s ≡ point (slice_index_or e.prepared.guesses i (pos 0)) +ᵢ spans e.correction i
  pub within : method.size (ends s) ≤ 200 * e.prepared.units

abbrev pub Told : Enclosure → ℕ → Result Span Fault → Type 0
Told e i (Ok s) = (first_no (row_questions e i) ≡ None) × Row e i s
Told e i (Err f) = first_no (row_questions e i) ≡ Some f
