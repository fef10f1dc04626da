-- what a recheck comes to, and what it leaves
use Rattle.std.specs.Prelude.{◌≡◌, ℕ, ◌<◌, List, Ok, Err, Result}
use Rattle.span.specs.Intervals.{Interval}
use Rattle.system.specs.Figures.{spans}
use Rattle.source.specs.Meaning.{Meaning}
use Rattle.law.specs.Calls.{Given}
use Rattle.law.specs.History.{holds}
use Rattle.law.specs.Decides.{row_decided}
use Rattle.docket.specs.declared.desk.Desk.{Desk}
use Rattle.docket.specs.Reflects.{Reflects}
use Rattle.sheet.specs.declared.fault.Fault.{Fault}
use Rattle.sheet.specs.declared.rechecked.Rechecked.{Rechecked}
use Rattle.sheet.specs.Rechecks.{left_by, rechecks, remade}
use Rattle.sheet.specs.Sheets.{Sheet}

-- the rechecked sheet keeps the rows that are held after the calls h
pub record Keeps (S : ℕ) (h : List Given) (n : ℕ) (q : Rechecked) : Type 0 where
  pub states_is : q.states ≡ n
  pub rows : (i : ℕ) (s : Interval) → i < n → row_decided S h (holds S h) i ≡ Ok s → spans q.ranges i ≡ s

-- after the opening
abbrev pub AfterOpening : ℕ → Meaning → List Given → Sheet → Result Rechecked Fault → Meaning → Type 0 → Desk → Type 0
AfterOpening S M h w (Ok q) N P d = (k : List Given) × (remade S M h w ≡ Ok k) × Reflects S M k N P d × Keeps S k w.states q
AfterOpening S M h w (Err f) N P d = (k : List Given) × (remade S M h w ≡ Err f) × Reflects S M k N P d

abbrev pub RecheckedAs : ℕ → Meaning → List Given → Sheet → Result Rechecked Fault → Type 0
RecheckedAs S M h w (Ok q) = (k : List Given) × (rechecks S M h w ≡ Ok k) × Keeps S k w.states q
RecheckedAs S M h w (Err f) = rechecks S M h w ≡ Err f

-- the questions decide, and the docket then reflects the calls that count
pub record Rechecking (S : ℕ) (M : Meaning) (h : List Given) (w : Sheet) (r : Result Rechecked Fault) (N : Meaning) (P : Type 0) (d : Desk) : Type 0 where
  pub said : RecheckedAs S M h w r
  pub left : Reflects S M (left_by S M h w) N P d
