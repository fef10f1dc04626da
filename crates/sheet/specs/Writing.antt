-- writing: what a docket that holds ranges leaves in a buffer
use Rattle.std.specs.Prelude.{◌≡◌, ℕ, ◌+◌, ◌-◌, ◌*◌, ◌<◌, ◌≤◌, List, length, Some, None, Ok, Err, Option, Result, slice_index, slice_index_or}
use Rattle.law.specs.Calls.{Given}
use Rattle.law.specs.History.{Basis, holds}
use Rattle.sheet.specs.declared.fault.Fault.{Fault}
use Rattle.sheet.specs.declared.fault.Fault.TheVariants.{NotHeld, NoRoom}
use Rattle.sheet.specs.Bytes.{number_at, unsigned_at}
use Rattle.sheet.specs.Layout.{at_trailer, distance, sheet_length}
use Rattle.sheet.specs.Sheets.{Sheet, sheet_of}

-- the bytes after it are those of the sheet w from their start on, and the later bytes are as before
pub record Wrote (w : Sheet) (before after : List ℕ) : Type 0 where
  pub long : length after ≡ length before
  pub numbers : (t : ℕ) → t < at_trailer w.states w.settings → number_at after (4 * t) ≡ w.number t
  pub distances : (s : ℕ) → s < 5 → unsigned_at after (4 * at_trailer w.states w.settings + 4 * s) ≡ distance w.states w.settings s
  pub scale : unsigned_at after (sheet_length w.states w.settings - 8) ≡ w.scale
  pub states : slice_index_or after (sheet_length w.states w.settings - 4) 0 ≡ w.states
  pub settings : slice_index_or after (sheet_length w.states w.settings - 3) 0 ≡ w.settings
  pub narrowings : slice_index_or after (sheet_length w.states w.settings - 2) 0 ≡ w.narrowings
  pub zero : slice_index_or after (sheet_length w.states w.settings - 1) 0 ≡ 0
  pub later : (i : ℕ) → sheet_length w.states w.settings ≤ i → slice_index after i ≡ slice_index before i

-- ranges held? 14; room? 16; a no leaves the buffer as it was
abbrev pub WrittenAs : Option Sheet → List ℕ → List ℕ → Result ℕ Fault → Type 0
WrittenAs None before after r = (r ≡ Err NotHeld) × (after ≡ before)
WrittenAs (Some w) before after (Ok l) = (sheet_length w.states w.settings ≤ length before) × (l ≡ sheet_length w.states w.settings) × Wrote w before after
WrittenAs (Some w) before after (Err f) = (length before < sheet_length w.states w.settings) × (f ≡ NoRoom) × (after ≡ before)

abbrev pub written_of : ℕ → List Given → Option Basis → Option Sheet
written_of S h None = None
written_of S h (Some b) = Some (sheet_of S h b)

-- after the calls h
abbrev pub Writing : ℕ → List Given → List ℕ → List ℕ → Result ℕ Fault → Type 0
Writing S h before after r = WrittenAs (written_of S h (holds S h)) before after r
