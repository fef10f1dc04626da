-- what a docket has for the numbers of its sheet, and what its bytes come to; for the contracts inside this crate
use Rattle.std.specs.Prelude.{◌≡◌, ℕ, ◌*◌, ◌<◌, List, ℤ}
use Rattle.enclosure.specs.declared.enclosure.Enclosure.{Enclosure}
use Rattle.source.specs.Meaning.{Meaning}
use Rattle.law.specs.Calls.{Given}
use Rattle.law.specs.History.{Basis}
use Rattle.docket.specs.declared.desk.Desk.{Desk}
use Rattle.docket.specs.Reflects.{Holds, Reflects}
use Rattle.sheet.specs.Bytes.{number_at}
use Rattle.sheet.specs.Sheets.{number_of}

-- z is number t of the sheet of what e holds, whatever calls the docket with the desk d reflects
abbrev pub Numbered : ℕ → Meaning → Type 0 → Desk → Enclosure → ℕ → ℤ → Type 0
Numbered S N P d e t z = (M : Meaning) (h : List Given) (b : Basis) → Reflects S M h N P d → Holds S h b e → z ≡ number_of S h b t

-- the first m numbers stand in the bytes
abbrev pub Numbers : ℕ → Meaning → Type 0 → Desk → Enclosure → ℕ → List ℕ → Type 0
Numbers S N P d e m bs = (t : ℕ) → t < m → Numbered S N P d e t (number_at bs (4 * t))
