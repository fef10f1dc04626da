-- which calls are accepted: the questions alone decide, asked of the calls as they are counted
use Rattle.std.specs.Prelude.{ℕ, pred, ◌*◌, Bool, cond, ◌&&◌, List, [], ◌∷◌, ◌++◌, length, ℤ, ◌+ℤ◌, Some, None, Ok, Err, Option, Result, ◌==◌, int_le, nat_le, nat_lt}
use Rattle.span.specs.Intervals.{Interval}
use Rattle.span.specs.Questions.{Question, ask, first_no, within}
use Rattle.system.specs.declared.fault.Fault as system
use Rattle.system.specs.declared.fault.Fault.TheVariants.{Outside, SumTooLarge, NoSetting, RangeReversed, RangeTooWide}
use Rattle.system.specs.Posts.{opening_questions}
use Rattle.prepare.specs.declared.fault.Fault as prepare
use Rattle.prepare.specs.declared.fault.Fault.TheVariants.{Count}
use Rattle.prepare.specs.Proposals.{offer, table_questions, guess_questions, residual_questions, iteration_questions}
use Rattle.enclosure.specs.declared.fault.Fault as enclosure
use Rattle.enclosure.specs.declared.fault.Fault.TheVariants.{NoRow}
use Rattle.enclosure.specs.Enclosures.{try_questions, run_questions, narrow_questions, trials}
use Rattle.source.specs.declared.place.Place.{Place}
use Rattle.source.specs.declared.place.Place.TheVariants.{Matrix, Payout}
use Rattle.source.specs.Faults.{spot_of}
use Rattle.source.specs.Meaning.{Meaning, post_questions}
use Rattle.law.specs.declared.answer.Answer.{Answer}
use Rattle.law.specs.declared.answer.Answer.TheVariants.{Done, Trial}
use Rattle.law.specs.declared.fault.Fault.{Fault}
use Rattle.law.specs.declared.fault.Fault.TheVariants as fault
use Rattle.law.specs.Calls.{Given}
use Rattle.law.specs.Calls.Given.{opening, post, range, propose, attempt, run, narrow}
use Rattle.law.specs.History.{Basis, Offer, game_of, holds, offered, posted, range_held, settings_of, source_of, stands, states_of}

-- is the place one of a game of n states and k settings?
abbrev pub has_place : ℕ → ℕ → Place → Bool
has_place n k (Matrix v i j) = nat_le v k && nat_lt i n && nat_lt j n
has_place n k (Payout v i) = nat_le v k && nat_lt i n

-- how many wholes a coefficient may reach
abbrev pub wholes : Place → ℕ
wholes (Matrix v i j) = 1
wholes (Payout v i) = 100

abbrev pub place_questions : ℕ → List Given → Place → ℤ → List (Question system.Fault)
place_questions S h p a =
    ask (has_place (states_of h) (settings_of h) p) (Outside (spot_of p))
    ∷ ask (within S (wholes p) (posted h p +ℤ a)) (SumTooLarge (spot_of p))
    ∷ []

abbrev pub range_questions : ℕ → List Given → ℕ → ℤ → ℤ → List (Question system.Fault)
range_questions S h v low high =
    ask (nat_le 1 v && nat_le v (settings_of h)) (NoSetting v)
    ∷ ask (int_le low high) (RangeReversed v)
    ∷ ask (within S 1 low && within S 1 high) (RangeTooWide v)
    ∷ []

abbrev pub propose_questions : ℕ → List Given → List ℤ → List ℤ → List (Question prepare.Fault)
propose_questions S h r g =
    let n : ℕ = states_of h in
    ask (length r == n * n && length g == n) (Count (length r) (length g))
    ∷ (table_questions S n r ++ (guess_questions S n g ++ (residual_questions S (game_of h) (offer n r g) ++ iteration_questions S (game_of h) (offer n r g))))

-- the first no as a docket's fault, else done
abbrev pub verdict : {F : Type 0} → (F → Fault) → Option F → Result Answer Fault
verdict carried (Some f) = Err (carried f)
verdict carried None = Ok Done

-- the first no, else what comes after it
abbrev pub unless : {F : Type 0} → (F → Fault) → Option F → Result Answer Fault → Result Answer Fault
unless carried (Some f) after = Err (carried f)
unless carried None after = after

abbrev pub numbered : Result ℕ enclosure.Fault → Result Answer Fault
numbered (Ok a) = Ok (Trial a)
numbered (Err f) = Err (fault.Trial f)

abbrev pub try_decided : ℕ → List Given → Option Offer → List ℤ → Result Answer Fault
try_decided S h None ys = Err fault.NoProposal
try_decided S h (Some o) ys = verdict fault.Trial (first_no (try_questions S (game_of h) (offered h o) ys))

abbrev pub run_decided : ℕ → List Given → Option Offer → ℕ → Result Answer Fault
run_decided S h None t = Err fault.NoProposal
run_decided S h (Some o) t = unless fault.Trial (first_no (run_questions S (game_of h) (offered h o) t)) (numbered (trials S (game_of h) (offered h o) (pred t) 0))

abbrev pub narrow_decided : ℕ → List Given → Option Basis → Result Answer Fault
narrow_decided S h None = Err fault.NotHeld
narrow_decided S h (Some b) = verdict fault.Trial (first_no (narrow_questions S (game_of h) (offered h b.offer) b.box b.narrowings))

-- what a docket over the source M answers to a call after the calls h
unfoldable pub decides : ℕ → Meaning → List Given → Given → Result Answer Fault
decides S M h (opening n k) = verdict fault.Figures (first_no (opening_questions n k))
decides S M h (post p a) = unless fault.Figures (first_no (place_questions S h p a)) (verdict fault.Source (first_no (post_questions (source_of M h) p a)))
decides S M h (range v low high) = verdict fault.Figures (first_no (range_questions S h v low high))
decides S M h (propose r g) = verdict fault.Proposal (first_no (propose_questions S h r g))
decides S M h (attempt ys) = try_decided S h (stands h) ys
decides S M h (run t) = run_decided S h (stands h) t
decides S M h narrow = narrow_decided S h (holds S h)

-- what it tells of row i
abbrev pub row_decided : ℕ → List Given → Option Basis → ℕ → Result Interval Fault
row_decided S h None i = Err fault.NotHeld
row_decided S h (Some b) i = cond (nat_lt i (states_of h)) (Ok (range_held S h b i)) (Err (fault.Trial (NoRow i)))

-- a call counts where it was accepted
abbrev pub counted : Given → Result Answer Fault → List Given → List Given
counted c (Ok a) h = c ∷ h
counted c (Err f) h = h
