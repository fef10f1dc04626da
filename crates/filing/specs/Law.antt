-- the law of a docket, over what was asked of it and what it replied, and over nothing that it keeps
use Rattle.std.specs.Prelude.{◌≡◌, ℕ, cond, List, [], ◌∷◌, replicate, Some, None, Ok, Err, vec_items, Option, Result}
use Rattle.std.specs.Global.{Vec}
use Rattle.span.specs.declared.span.Span.{Span}
use Rattle.span.specs.Questions.{first_no}
use Rattle.source.specs.Meaning.{Meaning}
use Rattle.law.specs.declared.answer.Answer.{Answer}
use Rattle.law.specs.declared.ask.Ask.{Ask}
use Rattle.law.specs.declared.ask.Ask.TheVariants.{Make, Row}
use Rattle.law.specs.declared.ask.Reply.{Reply}
use Rattle.law.specs.declared.ask.Reply.TheVariants.{Made, Told}
use Rattle.law.specs.declared.fault.Fault as law
use Rattle.law.specs.Calls.{Given, given}
use Rattle.law.specs.Calls.Given.{opening}
use Rattle.law.specs.History.{holds}
use Rattle.law.specs.Decides as decides
use Rattle.law.specs.Decides.{decides, row_decided}
use Rattle.law.specs.Law.{AtOnce, SoundHeld, told_ends}
use Rattle.sheet.specs.declared.fault.Fault.{Fault}
use Rattle.sheet.specs.declared.rechecked.Rechecked.{Rechecked}
use Rattle.sheet.specs.Framing.{framed_sheet, framing_questions}
use Rattle.sheet.specs.Outcomes.{RecheckedAs}
use Rattle.sheet.specs.Rechecks.{Read, calls_of}
use Rattle.sheet.specs.Sheets.{Sheet}
use Rattle.sheet.specs.Writing.{Writing}
use Rattle.filing.specs.declared.step.Outcome.{Outcome}
use Rattle.filing.specs.declared.step.Outcome.TheVariants.{Replied, Checked, Wrote}
use Rattle.filing.specs.declared.step.Step.{Step}
use Rattle.filing.specs.declared.step.Step.TheVariants.{Asking, Check, Write}

-- what was asked, with its reply: a call; a row; bytes framed for the scale T and rechecked; a sheet written into
-- a buffer of so many bytes. A reply of another kind, or none, is amiss
pub data Turn : Type 0 where
  made : Given → Result Answer law.Fault → Turn
  told : ℕ → Result Span law.Fault → Turn
  checked : ℕ → List ℕ → Result Rechecked Fault → Turn
  wrote : ℕ → Result (List ℕ) Fault → Turn
  amiss : Turn

abbrev pub asked : Ask → Reply → Turn
asked (Make c) (Made r) = made (given c) r
asked (Make c) (Told r) = amiss
asked (Row i) (Made r) = amiss
asked (Row i) (Told r) = told i r

-- the buffer as a list of its bytes
abbrev pub bytes_in : Result (Vec ℕ) Fault → Result (List ℕ) Fault
bytes_in (Ok v) = Ok (vec_items v)
bytes_in (Err f) = Err f

-- of a docket of the scale S; the other scale is F
module _ (S F : ℕ) where
  abbrev pub turn : Step → Outcome → Turn
  turn (Asking a) (Replied r) = asked a r
  turn (Asking a) (Checked r) = amiss
  turn (Asking a) (Wrote r) = amiss
  turn (Check bs own) (Replied r) = amiss
  turn (Check bs own) (Checked r) = checked (cond own S F) bs.now r
  turn (Check bs own) (Wrote r) = amiss
  turn (Write room) (Replied r) = amiss
  turn (Write room) (Checked r) = amiss
  turn (Write room) (Wrote r) = wrote room (bytes_in r)

  -- the turns of a run, put before those that came earlier: the newest stands first
  abbrev pub turns : List Step → List Outcome → List Turn → List Turn
  turns [] [] us = us
  turns [] (r ∷ rs) us = amiss ∷ us
  turns (a ∷ as') [] us = amiss ∷ us
  turns (a ∷ as') (r ∷ rs) us = turns as' rs (turn a r ∷ us)

-- the calls of a sheet in their order, put before those that came earlier
abbrev pub onto : List Read → List Given → List Given
onto [] h = h
onto (c ∷ cs) h = onto cs (c.call ∷ h)

-- bytes that are not framed count for nothing; a recheck turned down counts as an opening with its sheet's n and k, an
-- accepted one as the calls that it makes
abbrev pub check_counted : Option Fault → Sheet → Result Rechecked Fault → List Given → List Given
check_counted (Some f) w r h = h
check_counted None w (Ok q) h = onto (calls_of w) (opening w.states w.settings ∷ h)
check_counted None w (Err f) h = opening w.states w.settings ∷ h

-- a call turned down counts for nothing; asking for a row and writing a sheet change nothing
abbrev pub then_counted : Turn → List Given → List Given
then_counted (made c r) h = decides.counted c r h
then_counted (told i r) h = h
then_counted (checked T bs r) h = check_counted (first_no (framing_questions T bs)) (framed_sheet T bs) r h
then_counted (wrote l r) h = h
then_counted amiss h = h

abbrev pub counted : List Turn → List Given
counted [] = []
counted (u ∷ us) = then_counted u (counted us)

abbrev pub CheckRight : ℕ → Meaning → List Given → Option Fault → Sheet → Result Rechecked Fault → Type 0
CheckRight S M h (Some f) w r = r ≡ Err f
CheckRight S M h None w r = RecheckedAs S M h w r

-- every byte of the buffer is 170 before
abbrev pub WroteRight : ℕ → List Given → ℕ → Result (List ℕ) Fault → Type 0
WroteRight S h room (Ok bs) = (l : ℕ) × Writing S h (replicate room 170) bs (Ok l)
WroteRight S h room (Err f) = Writing S h (replicate room 170) (replicate room 170) (Err f)

-- after the calls h: the questions alone decide a call, a recheck and a writing, and a row is the one that the rules give
abbrev pub Right : ℕ → Meaning → List Given → Turn → Type 0
Right S M h (made c x) = (x ≡ decides S M h c) × AtOnce S h c x
Right S M h (told i x) = told_ends x ≡ row_decided S h (holds S h) i
Right S M h (checked T bs r) = CheckRight S M h (first_no (framing_questions T bs)) (framed_sheet T bs) r
Right S M h (wrote room r) = WroteRight S h room r
Right S M h amiss = ⊥

-- so it was at every turn, and so it is after the last; while ranges are held, they can be trusted
abbrev pub Lawful : ℕ → Meaning → List Turn → Type 0
Lawful S M [] = SoundHeld S []
Lawful S M (u ∷ us) = Lawful S M us × Right S M (counted us) u × SoundHeld S (counted (u ∷ us))
