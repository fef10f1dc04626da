-- a call by its arm, and what each stage has for it
use Rattle.std.proofs.Common.{◌≡◌, ℕ, List, ℤ, None, Err, Result, sym, ap, subst}
use Rattle.prepare.specs.declared.prepared.Prepared.{Prepared}
use Rattle.enclosure.specs.declared.enclosure.Enclosure.{Enclosure}
use Rattle.source.specs.Meaning.{Meaning}
use Rattle.law.specs.declared.answer.Answer.{Answer}
use Rattle.law.specs.declared.call.Call.{Call}
use Rattle.law.specs.declared.fault.Fault.{Fault}
use Rattle.law.specs.declared.fault.Fault.TheVariants.{NoProposal, NotHeld}
use Rattle.law.specs.Calls.{Given, given}
use Rattle.law.specs.Calls.Given.{attempt, run, narrow}
use Rattle.law.specs.History.{Basis, holds, stands}
use Rattle.law.specs.Decides.{decides, narrow_decided, run_decided, try_decided}
use Rattle.docket.specs.declared.desk.Desk.{Desk}
use Rattle.docket.specs.Reflects.{Holds, Prepares, Reflects, Replied}
use Rattle.docket.proofs.Drafts.{refused}

pub as_asked : (S : ℕ) (M : Meaning) (h : List Given) (k l : Call) (r : Result Answer Fault) (N : Meaning) (P : Type 0) (d : Desk) → k ≡ l → Replied S M h (given l) r N P d → Replied S M h (given k) r N P d
as_asked S M h k l r N P d e x = subst (λ z. Replied S M h (given z) r N P d) (sym e) x

-- what a held enclosure was tried with
pub still_prepares : (S : ℕ) (h : List Given) (b : Basis) (e : Enclosure) (p : Prepared) → p ≡ e.prepared → Holds S h b e → Prepares S h b.offer p
still_prepares S h b e p i s = subst (Prepares S h b.offer) (sym i) (record { stands_is = s.stands_is; asked_was = s.asked_was; prepared_is = s.enclosure_is.held.of; tabled = s.tabled })

module _ (S : ℕ) (M : Meaning) (h : List Given) (N : Meaning) (P : Type 0) (d : Desk) (q : Reflects S M h N P d) where
  pub no_try : (ys : List ℤ) → stands h ≡ None → Replied S M h (attempt ys) (Err NoProposal) N P d
  unfolding decides
  no_try ys e = refused S M h N P d q (attempt ys) NoProposal (ap (λ o. try_decided S h o ys) e)

  pub no_run : (t : ℕ) → stands h ≡ None → Replied S M h (run t) (Err NoProposal) N P d
  unfolding decides
  no_run t e = refused S M h N P d q (run t) NoProposal (ap (λ o. run_decided S h o t) e)

  pub no_narrow : holds S h ≡ None → Replied S M h narrow (Err NotHeld) N P d
  unfolding decides
  no_narrow e = refused S M h N P d q narrow NotHeld (ap (narrow_decided S h) e)
