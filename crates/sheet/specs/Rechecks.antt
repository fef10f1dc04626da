-- rechecking: the calls that a sheet makes, and what comes of them
use Rattle.std.specs.Prelude.{ℕ, zero, suc, ◌+◌, ◌-◌, ◌*◌, ◌/◌, ◌%◌, Bool, false, cond, List, [], ◌∷◌, ◌++◌, ℤ, pos, negsuc, Some, None, Ok, Err, Option, Result, ◌==◌}
use Rattle.span.specs.Intervals.{Interval}
use Rattle.span.specs.Questions.{Question, ask, each, first_no}
use Rattle.source.specs.Meaning.{Meaning}
use Rattle.law.specs.declared.fault.Fault as law
use Rattle.law.specs.Calls.{Given}
use Rattle.law.specs.Calls.Given.{opening, post, range, propose, attempt, narrow}
use Rattle.law.specs.History.{holds}
use Rattle.law.specs.Decides.{decides, row_decided}
use Rattle.sheet.specs.declared.fault.Fault.{Fault}
use Rattle.sheet.specs.declared.fault.Fault.TheVariants.{OtherScale, OtherClaim, Docket}
use Rattle.sheet.specs.Layout.{at_box, at_claims, at_guesses, at_ranges, at_table, place_of, sheet_length}
use Rattle.sheet.specs.Sheets.{Sheet, end}

-- f 0, f 1, .. f (m - 1)
unfoldable pub listed : {A : Type 0} → ℕ → (ℕ → A) → List A
listed zero f = []
listed (suc m) f = listed m f ++ (f m ∷ [])

-- a call with the first byte of what it is read from
pub record Read : Type 0 where
  pub byte : ℕ
  pub call : Given

abbrev pub read : ℕ → Given → Read
read b c = record { byte = b; call = c }

abbrev pub is_zero : ℤ → Bool
is_zero (pos n) = n == 0
is_zero (negsuc n) = false

abbrev pub int_eq : ℤ → ℤ → Bool
int_eq (pos a) (pos b) = a == b
int_eq (pos a) (negsuc b) = false
int_eq (negsuc a) (pos b) = false
int_eq (negsuc a) (negsuc b) = a == b

-- the calls of f 0, f 1, .. in order
unfoldable pub gathered : ℕ → (ℕ → List Read) → List Read
gathered zero f = []
gathered (suc m) f = gathered m f ++ f m

-- is a claim the low (0) or the high end that is held?
abbrev pub is_claimed : Result Interval law.Fault → ℕ → ℤ → Bool
is_claimed (Ok s) u z = int_eq (end s u) z
is_claimed (Err f) u z = false

module _ (w : Sheet) where
  -- a post for each coefficient other than 0
  abbrev pub post_of : ℕ → List Read
  post_of t = cond (is_zero (w.number t)) [] (read (4 * t) (post (place_of w.states t) (w.number t)) ∷ [])

  abbrev pub range_at : ℕ → List Read
  range_at v = read (4 * (at_ranges w.states w.settings + 2 * v)) (range (suc v) (w.number (at_ranges w.states w.settings + 2 * v)) (w.number (at_ranges w.states w.settings + 2 * v + 1))) ∷ []

  abbrev pub numbers_from : ℕ → ℕ → List ℤ
  numbers_from a m = listed m (λ t. w.number (a + t))

  abbrev pub proposal_of : Given
  proposal_of = propose (numbers_from (at_table w.states w.settings) (w.states * w.states)) (numbers_from (at_guesses w.states w.settings) w.states)

  abbrev pub trial_of : Given
  trial_of = attempt (numbers_from (at_box w.states w.settings) (2 * w.states))

  abbrev pub narrow_at : ℕ → List Read
  narrow_at m = read (sheet_length w.states w.settings - 2) narrow ∷ []

  -- the calls that a recheck makes after the opening: the posts, the settings, the proposal, the try, the narrowings
  abbrev pub calls_of : List Read
  calls_of =
      gathered (at_ranges w.states w.settings) post_of
      ++ (gathered w.settings range_at
      ++ (read (4 * at_table w.states w.settings) proposal_of
      ∷ (read (4 * at_box w.states w.settings) trial_of
      ∷ gathered w.narrowings narrow_at)))

  abbrev pub claim_questions : ℕ → List Given → List (Question Fault)
  claim_questions S h = each (2 * w.states) (λ u. ask (is_claimed (row_decided S h (holds S h) (u / 2)) (u % 2) (w.number (at_claims w.states w.settings + u))) (OtherClaim (u / 2) (4 * (at_claims w.states w.settings + u))))

-- makes the calls in order until one is turned down: the calls that then count, or the fault with its byte
module _ (S : ℕ) (M : Meaning) where
  abbrev pub then_made : {A : Type 0} → Result A law.Fault → ℕ → Result (List Given) Fault → Result (List Given) Fault
  then_made (Ok a) b after = after
  then_made (Err f) b after = Err (Docket f b)

  unfoldable pub makes : List Given → List Read → Result (List Given) Fault
  makes h [] = Ok h
  makes h (c ∷ cs) = let after = makes (c.call ∷ h) cs in then_made (decides S M h c.call) c.byte after

  abbrev pub unless_claimed : Option Fault → List Given → Result (List Given) Fault
  unless_claimed (Some f) h = Err f
  unless_claimed None h = Ok h

  abbrev pub then_claimed : Sheet → Result (List Given) Fault → Result (List Given) Fault
  then_claimed w (Ok h) = unless_claimed (first_no (claim_questions w S h)) h
  then_claimed w (Err f) = Err f

  -- after the opening: the docket's own scale, the calls, the claims
  abbrev pub remade : List Given → Sheet → Result (List Given) Fault
  remade h w = cond (w.scale == S) (then_claimed w (makes h (calls_of w))) (Err (OtherScale (sheet_length w.states w.settings - 8)))

  -- what a recheck of w comes to after the calls h: the calls that then count, or its fault
  abbrev pub rechecks : List Given → Sheet → Result (List Given) Fault
  rechecks h w = then_made (decides S M h (opening w.states w.settings)) (sheet_length w.states w.settings - 4) (remade (opening w.states w.settings ∷ h) w)

  -- one that is turned down counts as an opening with its sheet's n and k
  abbrev pub then_left : {A : Type 0} → Result A law.Fault → List Given → Sheet → Result (List Given) Fault → List Given
  then_left (Err f) h w r = h
  then_left (Ok a) h w (Ok k) = k
  then_left (Ok a) h w (Err f) = opening w.states w.settings ∷ h

  abbrev pub left_by : List Given → Sheet → List Given
  left_by h w = then_left (decides S M h (opening w.states w.settings)) h w (rechecks h w)
