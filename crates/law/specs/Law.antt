-- what makes held ranges trustworthy, and when a run is accepted at once
use Rattle.std.specs.Prelude.{◌≡◌, ℕ, ◌<◌, ◌≤◌, List, Some, Ok, Err, Result}
use Rattle.span.specs.declared.span.Span.{Span}
use Rattle.span.specs.Intervals.{Interval}
use Rattle.span.specs.Spans.{ends}
use Rattle.method.specs.Fractions.{Frac, ◌≈◌}
use Rattle.method.specs.Method.{Halved}
use Rattle.method.specs.Sound.{Choice, Solution, Within}
use Rattle.law.specs.declared.answer.Answer.{Answer}
use Rattle.law.specs.declared.answer.Answer.TheVariants.{Trial}
use Rattle.law.specs.declared.fault.Fault.{Fault}
use Rattle.law.specs.Calls.{Given}
use Rattle.law.specs.Calls.Given.{opening, post, range, propose, attempt, run, narrow}
use Rattle.law.specs.History.{Basis, Offer, game_of, holds, offered, range_held, stands, states_of}

-- a row's range by its ends
abbrev pub told_ends : Result Span Fault → Result Interval Fault
told_ends (Ok s) = Ok (ends s)
told_ends (Err f) = Err f

-- while ranges are held: for every choice of settings the posted equations have at most one solution, and any lies inside the ranges
pub record Trusted (S : ℕ) (some : 0 < S) (h : List Given) (b : Basis) : Type 0 where
  pub one : (p x y : ℕ → Frac) → Choice S some (game_of h) p → Solution S some (game_of h) p x → Solution S some (game_of h) p y → (i : ℕ) → i < states_of h → x i ≈ y i
  pub inside : (p x : ℕ → Frac) → Choice S some (game_of h) p → Solution S some (game_of h) p x → Within S some (game_of h) (range_held S h b) x

abbrev pub SoundHeld : ℕ → List Given → Type 0
SoundHeld S h = (some : 0 < S) (b : Basis) → holds S h ≡ Some b → Trusted S some h b

-- where the iteration matrix of the proposal that stands is small, a run is accepted at its first trial
abbrev pub AtOnce : ℕ → List Given → Given → Result Answer Fault → Type 0
AtOnce S h (opening n k) x = Unit {0}
AtOnce S h (post p a) x = Unit {0}
AtOnce S h (range v low high) x = Unit {0}
AtOnce S h (propose r g) x = Unit {0}
AtOnce S h (attempt ys) x = Unit {0}
AtOnce S h (run t) x = (o : Offer) → stands h ≡ Some o → Halved S (game_of h) (offered h o) → 1 ≤ t → t ≤ 10 → x ≡ Ok (Trial 1)
AtOnce S h narrow x = Unit {0}
