-- a part of a recheck: some of its calls made in order, until one is turned down
use Rattle.std.specs.Prelude.{◌≡◌, ℕ, List, Ok, Err, Result}
use Rattle.source.specs.declared.source.Source.{Ghosts as Source}
use Rattle.source.specs.Meaning.{Meaning}
use Rattle.law.specs.declared.answer.Answer.{Answer}
use Rattle.law.specs.declared.fault.Fault as law
use Rattle.law.specs.Calls.{Given}
use Rattle.docket.specs.declared.desk.Desk.{Desk}
use Rattle.docket.specs.declared.docket.Docket.{Docket}
use Rattle.docket.specs.Dockets.{After, Of}
use Rattle.docket.specs.Reflects.{Reflects}
use Rattle.sheet.specs.declared.fault.Fault.{Fault}
use Rattle.sheet.specs.declared.fault.Fault.TheVariants as fault
use Rattle.sheet.specs.Rechecks.{Read, makes}

abbrev pub as_made : Result Answer law.Fault → ℕ → Result (Unit {0}) Fault
as_made (Ok a) b = Ok tt
as_made (Err f) b = Err (fault.Docket f b)

-- the calls cs, made after the calls h, came to r, and the docket reflects those that count
abbrev pub Remade : ℕ → Meaning → List Given → List Read → Result (Unit {0}) Fault → Meaning → Type 0 → Desk → Type 0
Remade S M h cs (Ok x) N P d = (k : List Given) × (makes S M h cs ≡ Ok k) × Reflects S M k N P d
Remade S M h cs (Err f) N P d = (k : List Given) × (makes S M h cs ≡ Err f) × Reflects S M k N P d

-- whatever came before, the docket d is asked these calls, one after another until one is turned down;
-- it comes to r, and is e then
abbrev pub Remakes : {C T : Type 0} → Source C → ℕ → List Read → Result (Unit {0}) Fault → Docket C T → Docket C T → Type 0
Remakes source S cs r d e = (M : Meaning) (h : List Given) → After source S M h d → Of source e (Remade S M h cs r)
