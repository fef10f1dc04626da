-- what a recheck comes to, step by step
use Rattle.std.proofs.Common.{◌≡◌, ℕ, ◌-◌, Bool, true, false, cond, eqb, List, [], ◌∷◌, Some, None, Ok, Err, Option, Result, sym, refl, ap, ◌∙◌, subst, arith}
use Rattle.std.proofs.lemmas.Bool.{cond-false, cond-true}
use Rattle.span.specs.Questions.{first_no}
use Rattle.source.specs.Meaning.{Meaning}
use Rattle.law.specs.declared.answer.Answer.{Answer}
use Rattle.law.specs.declared.fault.Fault as law
use Rattle.law.specs.Calls.{Given}
use Rattle.law.specs.Calls.Given.{opening}
use Rattle.law.specs.Decides.{decides}
use Rattle.docket.specs.declared.desk.Desk.{Desk}
use Rattle.docket.specs.declared.desk.Stage.{Stage}
use Rattle.docket.specs.declared.desk.Stage.TheVariants.{Drafting, Holding, Prepared}
use Rattle.docket.specs.Reflects.{Reflects, Replied, Staged}
use Rattle.sheet.specs.declared.fault.Fault.{Fault}
use Rattle.sheet.specs.declared.fault.Fault.TheVariants.{Docket, OtherScale}
use Rattle.sheet.specs.declared.rechecked.Rechecked.{Rechecked}
use Rattle.sheet.specs.Layout.{sheet_length}
use Rattle.sheet.specs.Outcomes.{AfterOpening, Rechecking}
use Rattle.sheet.specs.Rechecks.{Read, calls_of, claim_questions, left_by, makes, rechecks, remade, then_claimed, then_left, then_made, unless_claimed}
use Rattle.sheet.specs.Sheets.{Sheet}
use Rattle.sheet.proofs.Making.{makes_counts}

-- ---- after the opening
module _ (S : ℕ) (M : Meaning) (h : List Given) (w : Sheet) where
  pub scale_no : eqb w.scale S ≡ false → remade S M h w ≡ Err (OtherScale (sheet_length w.states w.settings - 8))
  scale_no e = cond-false (eqb w.scale S) _ _ e

  module _ (same : eqb w.scale S ≡ true) where
    goes_on : remade S M h w ≡ then_claimed S M w (makes S M h (calls_of w))
    goes_on = cond-true (eqb w.scale S) _ _ same

    pub calls_no : (f : Fault) → makes S M h (calls_of w) ≡ Err f → remade S M h w ≡ Err f
    calls_no f e = goes_on ∙ ap (then_claimed S M w) e

    pub claims_no : (k : List Given) (f : Fault) → makes S M h (calls_of w) ≡ Ok k → first_no (claim_questions w S k) ≡ Some f → remade S M h w ≡ Err f
    claims_no k f e n = goes_on ∙ ap (then_claimed S M w) e ∙ ap (λ o. unless_claimed S M o k) n

    pub all_yes : (k : List Given) → makes S M h (calls_of w) ≡ Ok k → first_no (claim_questions w S k) ≡ None → remade S M h w ≡ Ok k
    all_yes k e n = goes_on ∙ ap (then_claimed S M w) e ∙ ap (λ o. unless_claimed S M o k) n

-- ---- whatever came before an opening, it is opened
staged_again : (S n k : ℕ) (g h : List Given) (t : Stage) → Staged S (opening n k ∷ g) t → Staged S (opening n k ∷ h) t
staged_again S n k g h Drafting s = s
staged_again S n k g h (Prepared p) s = let e = s.1.stands_is in let z : ◌≡◌ {A = ℕ} 0 1 = cc in absurd (omega arith)
staged_again S n k g h (Holding e) s = let i = s.1.stands_is in let z : ◌≡◌ {A = ℕ} 0 1 = cc in absurd (omega arith)

opened_again : (S : ℕ) (M : Meaning) (n k : ℕ) (g h : List Given) (N : Meaning) (P : Type 0) (d : Desk) → Reflects S M (opening n k ∷ g) N P d → Reflects S M (opening n k ∷ h) N P d
opened_again S M n k g h N P d q = record {
  source_is = q.source_is;
  sound = q.sound;
  units_is = q.units_is;
  states_is = q.states_is;
  settings_is = q.settings_is;
  matrix_is = q.matrix_is;
  payouts_is = q.payouts_is;
  ranges_are = q.ranges_are;
  limited = q.limited;
  stage_is = staged_again S n k g h d.stage q.stage_is;
}

opening_same : (S : ℕ) (M : Meaning) (n k : ℕ) (g h : List Given) → decides S M g (opening n k) ≡ decides S M h (opening n k)
unfolding decides
opening_same S M n k g h = refl

-- an opening that is accepted once is accepted again
reopened : (S : ℕ) (M : Meaning) (n k : ℕ) (g h : List Given) (a : Answer) (r : Result Answer law.Fault) (N : Meaning) (P : Type 0) (d : Desk) → Ok a ≡ decides S M h (opening n k) → Replied S M g (opening n k) r N P d → Reflects S M (opening n k ∷ h) N P d
reopened S M n k g h a (Ok b) N P d e q = opened_again S M n k g h N P d q.left
reopened S M n k g h a (Err f) N P d e q =
    let i = q.said ∙ opening_same S M n k g h ∙ sym e in
    let z : ◌≡◌ {A = ℕ} 0 1 = cc in
    absurd (omega arith)

module _ (S : ℕ) (M : Meaning) (h : List Given) (w : Sheet) where
  pub not_opened : (f : law.Fault) (N : Meaning) (P : Type 0) (d : Desk) → Replied S M h (opening w.states w.settings) (Err f) N P d → Rechecking S M h w (Err (Docket f (sheet_length w.states w.settings - 4))) N P d
  not_opened f N P d q =
      let e = sym q.said in
      record {
        said = ap (λ r. then_made S M r (sheet_length w.states w.settings - 4) (remade S M (opening w.states w.settings ∷ h) w)) e;
        left = subst (λ z. Reflects S M z N P d) (sym (ap (λ r. then_left S M r h w (rechecks S M h w)) e)) q.left;
      }

  module _ (a : Answer) (yes : Ok a ≡ decides S M h (opening w.states w.settings)) where
    comes_to : rechecks S M h w ≡ remade S M (opening w.states w.settings ∷ h) w
    comes_to = ap (λ r. then_made S M r (sheet_length w.states w.settings - 4) (remade S M (opening w.states w.settings ∷ h) w)) (sym yes)

    leaves : (x : Result (List Given) Fault) → remade S M (opening w.states w.settings ∷ h) w ≡ x → left_by S M h w ≡ then_left S M (Ok a) h w x
    leaves x e = ap (λ r. then_left S M r h w (rechecks S M h w)) (sym yes) ∙ ap (then_left S M (Ok a) h w) (comes_to ∙ e)

    pub proved : (q : Rechecked) (N : Meaning) (P : Type 0) (d : Desk) → AfterOpening S M (opening w.states w.settings ∷ h) w (Ok q) N P d → Rechecking S M h w (Ok q) N P d
    proved q N P d x = record {
      said = (x.0, comes_to ∙ x.1, x.3);
      left = subst (λ z. Reflects S M z N P d) (sym (leaves (Ok x.0) x.1)) x.2;
    }

    pub unproved : (f : Fault) (N : Meaning) (P : Type 0) (d : Desk) (N' : Meaning) (P' : Type 0) (d' : Desk) (r : Result Answer law.Fault) →
        (x : AfterOpening S M (opening w.states w.settings ∷ h) w (Err f) N P d) → Replied S M x.0 (opening w.states w.settings) r N' P' d' → Rechecking S M h w (Err f) N' P' d'
    unproved f N P d N' P' d' r x q = record {
      said = comes_to ∙ x.1;
      left = subst (λ z. Reflects S M z N' P' d') (sym (leaves (Err f) x.1)) (reopened S M w.states w.settings x.0 h a r N' P' d' yes q);
    }

pub as_sized : (S : ℕ) (M : Meaning) (h : List Given) (a b n k : ℕ) (r : Result Answer law.Fault) (N : Meaning) (P : Type 0) (d : Desk) → a ≡ n → b ≡ k → Replied S M h (opening a b) r N P d → Replied S M h (opening n k) r N P d
as_sized S M h a b n k r N P d e i q = subst (λ z. Replied S M h (opening n z) r N P d) i (subst (λ z. Replied S M h (opening z b) r N P d) e q)

pub with_byte : (S : ℕ) (M : Meaning) (h : List Given) (w : Sheet) (f : law.Fault) (a b : ℕ) (N : Meaning) (P : Type 0) (d : Desk) → a ≡ b → Rechecking S M h w (Err (Docket f b)) N P d → Rechecking S M h w (Err (Docket f a)) N P d
with_byte S M h w f a b N P d e q = subst (λ z. Rechecking S M h w (Err (Docket f z)) N P d) (sym e) q

-- ---- the calls that an accepted recheck counts as
claimed_is : (S : ℕ) (M : Meaning) (w : Sheet) (o : Option Fault) (g k : List Given) → unless_claimed S M o g ≡ Ok k → g ≡ k
claimed_is S M w (Some f) g k e = let z : ◌≡◌ {A = ℕ} 0 1 = cc in absurd (omega arith)
claimed_is S M w None g k e = cc

claimed_from : (S : ℕ) (M : Meaning) (w : Sheet) (r : Result (List Given) Fault) (k : List Given) → then_claimed S M w r ≡ Ok k → r ≡ Ok k
claimed_from S M w (Ok g) k e = ap Ok (claimed_is S M w (first_no (claim_questions w S g)) g k e)
claimed_from S M w (Err f) k e = let z : ◌≡◌ {A = ℕ} 0 1 = cc in absurd (omega arith)

scaled_from : (S : ℕ) (M : Meaning) (w : Sheet) (b : Bool) (r : Result (List Given) Fault) (f : Fault) (k : List Given) → cond b (then_claimed S M w r) (Err f) ≡ Ok k → r ≡ Ok k
scaled_from S M w true r f k e = claimed_from S M w r k e
scaled_from S M w false r f k e = let z : ◌≡◌ {A = ℕ} 0 1 = cc in absurd (omega arith)

pub accepted_calls : (S : ℕ) (M : Meaning) (h : List Given) (w : Sheet) (a : Answer) (k : List Given) (onto : List Read → List Given → List Given) → ((g : List Given) → onto [] g ≡ g) → ((c : Read) (cs : List Read) (g : List Given) → onto (c ∷ cs) g ≡ onto cs (c.call ∷ g)) →
    decides S M h (opening w.states w.settings) ≡ Ok a → rechecks S M h w ≡ Ok k → k ≡ onto (calls_of w) (opening w.states w.settings ∷ h)
accepted_calls S M h w a k onto none more o e =
    let r : remade S M (opening w.states w.settings ∷ h) w ≡ Ok k = sym (ap (λ z. then_made S M z (sheet_length w.states w.settings - 4) (remade S M (opening w.states w.settings ∷ h) w)) o) ∙ e in
    makes_counts S M onto none more (calls_of w) (opening w.states w.settings ∷ h) k (scaled_from S M w (eqb w.scale S) (makes S M (opening w.states w.settings ∷ h) (calls_of w)) _ k r)
