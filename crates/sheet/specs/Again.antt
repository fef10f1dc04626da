-- a sheet that was accepted and is written again, and one that was written and is rechecked
use Rattle.std.specs.Prelude.{◌≡◌, ℕ, zero, suc, ◌<◌, false, cond, List, ◌∷◌, length, take, None, Ok, Err, Result, slice_index}
use Rattle.span.specs.Questions.{first_no}
use Rattle.source.specs.Meaning.{Meaning, post_questions}
use Rattle.law.specs.Calls.{Given}
use Rattle.law.specs.Calls.Given.{opening, post}
use Rattle.law.specs.History.{holds, source_of}
use Rattle.law.specs.Decides.{row_decided}
use Rattle.sheet.specs.declared.fault.Fault.{Fault}
use Rattle.sheet.specs.declared.rechecked.Rechecked.{Rechecked}
use Rattle.sheet.specs.Framing.{framed_sheet, framing_questions}
use Rattle.sheet.specs.Layout.{at_ranges, place_of}
use Rattle.sheet.specs.Rechecks.{is_zero, rechecks}
use Rattle.sheet.specs.Sheets.{Sheet}
use Rattle.sheet.specs.Writing.{Writing}

-- ---- rechecked, then written
-- each of them fits a byte
abbrev pub Bytes : List ℕ → Type 0
Bytes bs = (i : ℕ) → slice_index bs i < 256

-- what is written after the calls k has the bytes bs
abbrev pub Writes : ℕ → List Given → List ℕ → Type 0
Writes S k bs = (before after : List ℕ) (l : ℕ) → Bytes bs → Bytes after →
    Writing S k before after (Ok l) → (l ≡ length bs) × ((i : ℕ) → i < l → slice_index after i ≡ slice_index bs i)

-- an accepted sheet, written again, has the same bytes
abbrev pub SameBytes : ℕ → Meaning → List Given → ℕ → List ℕ → Type 0
SameBytes S M h T bs = (k : List Given) → first_no (framing_questions T bs) ≡ None → rechecks S M h (framed_sheet T bs) ≡ Ok k → Writes S k bs

-- of a recheck that left the calls k
abbrev pub WritesAgain : ℕ → List Given → List ℕ → Result Rechecked Fault → Type 0
WritesAgain S k bs (Ok q) = Writes S k bs
WritesAgain S k bs (Err f) = Unit {0}

-- ---- written, then rechecked
-- the calls that count after an opening for the sheet w and the posts of its first t coefficients
unfoldable pub posts : Sheet → List Given → ℕ → List Given
posts w h zero = opening w.states w.settings ∷ h
posts w h (suc t) = cond (is_zero (w.number t)) (posts w h t) (post (place_of w.states t) (w.number t) ∷ posts w h t)

-- a source that meant M when it was new takes the coefficients of w other than 0, one after another
abbrev pub Takes : Meaning → List Given → Sheet → Type 0
Takes M h w = (t : ℕ) → t < at_ranges w.states w.settings → is_zero (w.number t) ≡ false → first_no (post_questions (source_of M (posts w h t)) (place_of w.states t) (w.number t)) ≡ None

-- the bytes bs are a sheet of the scale S that any docket accepts whose source takes the coefficients, and it then holds the ranges that are held after h
pub record WrittenRechecks (S : ℕ) (h : List Given) (bs : List ℕ) : Type 0 where
  pub framed : first_no (framing_questions S bs) ≡ None
  pub rechecked : (M : Meaning) (g : List Given) → Takes M g (framed_sheet S bs) → (k : List Given) × (rechecks S M g (framed_sheet S bs) ≡ Ok k) × ((i : ℕ) → row_decided S k (holds S k) i ≡ row_decided S h (holds S h) i)

-- of a writing that left these bytes
abbrev pub RechecksAgain : ℕ → List Given → List ℕ → Result ℕ Fault → Type 0
RechecksAgain S h after (Ok l) = WrittenRechecks S h (take l after)
RechecksAgain S h after (Err f) = Unit {0}
