-- a recheck counts as an opening, or as the calls that it makes
use Rattle.std.proofs.Common.{◌≡◌, ℕ, ◌*◌, List, Some, None, Ok, Err, Result, sym, refl, ap, ◌∙◌, subst}
use Rattle.std.proofs.lemmas.Bool.{and_from}
use Rattle.span.specs.Questions.{first_no}
use Rattle.span.proofs.Verdicts.{no_after, no_none}
use Rattle.prepare.proofs.Firsts.{first_yes}
use Rattle.source.specs.Meaning.{Meaning}
use Rattle.law.specs.declared.answer.Answer.TheVariants.{Done}
use Rattle.law.specs.declared.fault.Fault.TheVariants.{Figures}
use Rattle.law.specs.Calls.{Given}
use Rattle.law.specs.Calls.Given.{opening}
use Rattle.law.specs.Decides.{decides, verdict}
use Rattle.law.proofs.Nones.{none_after, none_before}
use Rattle.docket.specs.declared.desk.Desk.{Desk}
use Rattle.docket.specs.Reflects.{Reflects}
use Rattle.sheet.specs.declared.fault.Fault.{Fault}
use Rattle.sheet.specs.declared.framed.Framed.{Framed}
use Rattle.sheet.specs.declared.rechecked.Rechecked.{Rechecked}
use Rattle.sheet.specs.Bytes.{number_at}
use Rattle.sheet.specs.Framing.{Frames, framed_sheet, framing_questions, head_questions, k_at, m_at, n_at, sheet_in}
use Rattle.sheet.specs.Outcomes.{RecheckedAs, Rechecking}
use Rattle.sheet.specs.Rechecks.{left_by, rechecks, then_left}
use Rattle.sheet.specs.Sheets.{Sheet}
use Rattle.sheet.proofs.Proving.{accepted_calls}
use Rattle.filing.specs.Law.{CheckRight, check_counted, onto}
use Rattle.filing.specs.Law.Turn.{checked}
use Rattle.filing.specs.Turns.{Turned}

abbrev sheet_with : ℕ → ℕ → ℕ → ℕ → List ℕ → Sheet
sheet_with u n k m bs = record { scale = u; states = n; settings = k; narrowings = m; number = λ t. number_at bs (4 * t) }

-- what a framed sheet says is what its bytes say
said_by : (T : ℕ) (bs : List ℕ) (f : Framed) → Frames T bs f → sheet_in f ≡ framed_sheet T bs
said_by T bs f e =
    ap (λ z. sheet_with z f.states f.settings f.narrowings f.bytes.now) e.scale_is
    ∙ ap (λ z. sheet_with T z f.settings f.narrowings f.bytes.now) e.states_is
    ∙ ap (λ z. sheet_with T (n_at T bs) z f.narrowings f.bytes.now) e.settings_is
    ∙ ap (λ z. sheet_with T (n_at T bs) (k_at T bs) z f.bytes.now) e.narrowings_is
    ∙ ap (λ z. sheet_with T (n_at T bs) (k_at T bs) (m_at T bs) z) e.bytes_is

-- a framed sheet may be opened
opens : (S : ℕ) (M : Meaning) (h : List Given) (T : ℕ) (bs : List ℕ) → first_no (framing_questions T bs) ≡ None → decides S M h (opening (framed_sheet T bs).states (framed_sheet T bs).settings) ≡ Ok Done
unfolding decides
opens S M h T bs e =
    let a = none_after _ _ e in
    let b = none_after _ _ a in
    let heads = none_before (head_questions T bs) _ b in
    let n = first_yes _ _ _ heads in
    let k = first_yes _ _ _ (none_after _ _ heads) in
    ap (verdict Figures) (no_after _ _ _ _ (and_from _ _ n k) no_none)

module _ (S : ℕ) (M : Meaning) (h : List Given) (T : ℕ) (bs : List ℕ) (none : first_no (framing_questions T bs) ≡ None) where
  left_is : (r : Result Rechecked Fault) → RecheckedAs S M h (framed_sheet T bs) r → left_by S M h (framed_sheet T bs) ≡ check_counted None (framed_sheet T bs) r h
  left_is (Ok q) x =
      ap (λ o. then_left S M o h (framed_sheet T bs) (rechecks S M h (framed_sheet T bs))) (opens S M h T bs none)
      ∙ ap (then_left S M (Ok Done) h (framed_sheet T bs)) x.1
      ∙ accepted_calls S M h (framed_sheet T bs) Done x.0 onto (λ k. refl) (λ c cs k. refl) (opens S M h T bs none) x.1
  left_is (Err f) x =
      ap (λ o. then_left S M o h (framed_sheet T bs) (rechecks S M h (framed_sheet T bs))) (opens S M h T bs none)
      ∙ ap (then_left S M (Ok Done) h (framed_sheet T bs)) x

  pub rechecked_turn : (f : Framed) (r : Result Rechecked Fault) (N : Meaning) (P : Type 0) (d : Desk) → Frames T bs f → Rechecking S M h (sheet_in f) r N P d → Turned S M h (checked T bs r) N P d
  rechecked_turn f r N P d e x =
      let y : Rechecking S M h (framed_sheet T bs) r N P d = subst (λ z. Rechecking S M h z r N P d) (said_by T bs f e) x in
      record {
        right = subst (λ o. CheckRight S M h o (framed_sheet T bs) r) (sym none) y.said;
        left = subst (λ k. Reflects S M k N P d) (left_is r y.said ∙ ap (λ o. check_counted o (framed_sheet T bs) r h) (sym none)) y.left;
      }

pub unframed_turn : (S : ℕ) (M : Meaning) (h : List Given) (T : ℕ) (bs : List ℕ) (f : Fault) (N : Meaning) (P : Type 0) (d : Desk) → first_no (framing_questions T bs) ≡ Some f → Reflects S M h N P d → Turned S M h (checked T bs (Err f)) N P d
unframed_turn S M h T bs f N P d e q = record {
  right = subst (λ o. CheckRight S M h o (framed_sheet T bs) (Err f)) (sym e) refl;
  left = subst (λ o. Reflects S M (check_counted o (framed_sheet T bs) (Err f) h) N P d) (sym e) q;
}
