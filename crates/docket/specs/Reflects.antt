-- a docket as the calls that were counted say
use Rattle.std.specs.Prelude.{◌≡◌, ℕ, true, List, replicate, pos, Some, None, Ok, Err, Option, Result}
use Rattle.span.specs.declared.span.Span.{Span}
use Rattle.span.specs.Questions.{first_no, within}
use Rattle.prepare.specs.declared.prepared.Prepared as prepare
use Rattle.prepare.specs.Proposals.{PreparedFor, Tabled}
use Rattle.enclosure.specs.declared.enclosure.Enclosure.{Enclosure}
use Rattle.enclosure.specs.Enclosures.{Encloses, size_questions}
use Rattle.system.specs.declared.system.System.{System}
use Rattle.system.specs.Figures.{spans}
use Rattle.source.specs.declared.place.Place.{Place}
use Rattle.source.specs.Meaning.{Meaning}
use Rattle.law.specs.declared.answer.Answer.{Answer}
use Rattle.law.specs.declared.fault.Fault.{Fault}
use Rattle.law.specs.Calls.{Given}
use Rattle.law.specs.History.{Basis, Offer, game_of, holds, offered, posted, range_of, settings_of, source_of, stands, states_of}
use Rattle.law.specs.Decides.{counted, decides, propose_questions, row_decided, wholes}
use Rattle.law.specs.Law.{told_ends}
use Rattle.docket.specs.declared.desk.Desk.{Desk}
use Rattle.docket.specs.declared.desk.Stage.{Stage}
use Rattle.docket.specs.declared.desk.Stage.TheVariants.{Drafting, Prepared, Holding}

-- after the calls h the proposal o stands, which every question of it allows, and p is prepared from it
pub record Prepares (S : ℕ) (h : List Given) (o : Offer) (p : prepare.Prepared) : Type 0 where
  pub stands_is : stands h ≡ Some o
  pub asked_was : first_no (propose_questions S h o.table o.guesses) ≡ None
  pub prepared_is : PreparedFor S (game_of h) (offered h o) p
  pub tabled : Tabled (states_of h) (offered h o) p

-- after the calls h ranges are held on the basis b, whose box is within its limit, and e holds them
pub record Holds (S : ℕ) (h : List Given) (b : Basis) (e : Enclosure) : Type 0 where
  pub stands_is : stands h ≡ Some b.offer
  pub asked_was : first_no (propose_questions S h b.offer.table b.offer.guesses) ≡ None
  pub holds_is : holds S h ≡ Some b
  pub fits_was : first_no (size_questions S (game_of h) (offered h b.offer) b.box) ≡ None
  pub enclosure_is : Encloses S (game_of h) (offered h b.offer) b.box b.narrowings e
  pub tabled : Tabled (states_of h) (offered h b.offer) e.prepared

-- the stage, and what is kept for it
abbrev pub Staged : ℕ → List Given → Stage → Type 0
Staged S h Drafting = (stands h ≡ None) × (holds S h ≡ None)
Staged S h (Prepared p) = (o : Offer) × Prepares S h o p × (holds S h ≡ None)
Staged S h (Holding e) = (b : Basis) × Holds S h b e

-- what is held at a stage
abbrev pub enclosure_of : Stage → Option Enclosure
enclosure_of Drafting = None
enclosure_of (Prepared p) = None
enclosure_of (Holding e) = Some e

-- the desk of a game where no proposal stands
abbrev pub drafting : System → Desk
drafting s = record { figures = s; stage = Drafting }

-- after the calls h, over a source that meant M when it was new: its source means N and is sound (P), its desk is d
pub record Reflects (S : ℕ) (M : Meaning) (h : List Given) (N : Meaning) (P : Type 0) (d : Desk) : Type 0 where
  pub source_is : N ≡ source_of M h
  pub sound : P
  pub units_is : d.figures.units ≡ S
  pub states_is : d.figures.states ≡ states_of h
  pub settings_is : d.figures.settings ≡ settings_of h
  pub matrix_is : d.figures.matrix ≡ replicate 1296 (pos 0)
  pub payouts_is : d.figures.payouts ≡ replicate 108 (pos 0)
  pub ranges_are : (v : ℕ) → spans d.figures.ranges v ≡ range_of h v
  pub limited : (p : Place) → within S (wholes p) (posted h p) ≡ true
  pub stage_is : Staged S h d.stage

-- it answered r to the call c, as the questions decide, and what it is then reflects the calls that count
pub record Replied (S : ℕ) (M : Meaning) (h : List Given) (c : Given) (r : Result Answer Fault) (N : Meaning) (P : Type 0) (d : Desk) : Type 0 where
  pub said : r ≡ decides S M h c
  pub left : Reflects S M (counted c r h) N P d

-- a call turned down leaves the desk as it was
abbrev pub Unmoved : Result Answer Fault → Desk → Desk → Type 0
Unmoved (Ok a) d e = Unit {0}
Unmoved (Err f) d e = e ≡ d

-- asked for row i after the calls h, it told r
abbrev pub Told : ℕ → List Given → ℕ → Result Span Fault → Type 0
Told S h i r = told_ends r ≡ row_decided S h (holds S h) i
