-- a docket over a source: what it is after the calls that count, and what a call answers
use Rattle.std.specs.Prelude.{ℕ, List, Result}
use Rattle.source.specs.declared.source.Source.{Ghosts as Source}
use Rattle.source.specs.Meaning.{Meaning}
use Rattle.law.specs.declared.answer.Answer.{Answer}
use Rattle.law.specs.declared.fault.Fault.{Fault}
use Rattle.law.specs.Calls.{Given}
use Rattle.docket.specs.declared.desk.Desk.{Desk}
use Rattle.docket.specs.declared.docket.Docket.{Docket}
use Rattle.docket.specs.Reflects.{Reflects, Replied}

-- X holds of what the docket's source means, of whether the source is sound, and of its desk
abbrev pub Of : {C T : Type 0} → Source C → Docket C T → (Meaning → Type 0 → Desk → Type 0) → Type 0
Of source d X = X (source.meaning d.source) (source.sound d.source) d.desk

-- after the calls h, over a source that meant M when it was new, the docket is d
abbrev pub After : {C T : Type 0} → Source C → ℕ → Meaning → List Given → Docket C T → Type 0
After source S M h d = Of source d (Reflects S M h)

-- after the calls h it answered r to the call c, and is e then
abbrev pub Answered : {C T : Type 0} → Source C → ℕ → Meaning → List Given → Given → Result Answer Fault → Docket C T → Type 0
Answered source S M h c r e = Of source e (Replied S M h c r)

-- whatever came before, the docket d answers r to the call c, and is e then
abbrev pub Answers : {C T : Type 0} → Source C → ℕ → Given → Result Answer Fault → Docket C T → Docket C T → Type 0
Answers source S c r d e = (M : Meaning) (h : List Given) → After source S M h d → Answered source S M h c r e
