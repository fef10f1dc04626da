-- what an accepted recheck says: the opening, the scale, the calls and the claims
use Rattle.std.proofs.Common.{◌≡◌, ℕ, ◌+◌, ◌-◌, ◌*◌, ◌/◌, ◌%◌, ◌<◌, Bool, true, false, cond, eqb, List, ◌∷◌, ℤ, pos, negsuc, Some, None, Ok, Err, Option, Result, sym, refl, ap, ◌∙◌, subst, arith}
use Rattle.std.proofs.lemmas.Bool.{cond-true, eqb-true, lt-ltb, true≢false}
use Rattle.span.specs.Questions.{first_no}
use Rattle.enclosure.proofs.Asked.{each_yes}
use Rattle.source.specs.Meaning.{Meaning}
use Rattle.law.specs.declared.answer.Answer.{Answer}
use Rattle.law.specs.declared.fault.Fault as law
use Rattle.law.specs.Calls.{Given}
use Rattle.law.specs.Calls.Given.{opening}
use Rattle.law.specs.History.{Basis, holds, range_held, states_of}
use Rattle.law.specs.Decides.{decides, row_decided}
use Rattle.sheet.specs.declared.fault.Fault.{Fault}
use Rattle.sheet.specs.Layout.{at_claims, sheet_length}
use Rattle.sheet.specs.Rechecks.{calls_of, claim_questions, int_eq, is_claimed, makes, rechecks, remade, then_claimed, then_made, unless_claimed}
use Rattle.sheet.specs.Sheets.{Sheet, end}
use Rattle.sheet.proofs.Making.{makes_counts}
use Rattle.sheet.proofs.Retold.{calls_onto, narrows, onto, onto_more, onto_none}

-- the calls that count are those of the sheet, its scale is the docket's, and no claim got a no
pub record Accepting (S : ℕ) (M : Meaning) (h : List Given) (w : Sheet) (k : List Given) : Type 0 where
  pub opened : (a : Answer) × (decides S M h (opening w.states w.settings) ≡ Ok a)
  pub scale_is : w.scale ≡ S
  pub made : makes S M (opening w.states w.settings ∷ h) (calls_of w) ≡ Ok k
  pub calls_are : k ≡ narrows w h w.narrowings
  pub claimed : first_no (claim_questions w S k) ≡ None

module _ (S : ℕ) (M : Meaning) where
  went_on : {A : Type 0} (r : Result A law.Fault) (b : ℕ) (x : Result (List Given) Fault) (k : List Given) → then_made S M r b x ≡ Ok k → ((a : A) × (r ≡ Ok a)) × (x ≡ Ok k)
  went_on (Ok a) b x k e = ((a, refl), e)
  went_on (Err f) b x k e = let z : ◌≡◌ {A = ℕ} 0 1 = cc in absurd (omega arith)

  claims_passed : (o : Option Fault) (g k : List Given) → unless_claimed S M o g ≡ Ok k → (o ≡ None) × (g ≡ k)
  claims_passed (Some f) g k e = let z : ◌≡◌ {A = ℕ} 0 1 = cc in absurd (omega arith)
  claims_passed None g k e = (refl, cc)

  calls_passed : (w : Sheet) (r : Result (List Given) Fault) (k : List Given) → then_claimed S M w r ≡ Ok k → (r ≡ Ok k) × (first_no (claim_questions w S k) ≡ None)
  calls_passed w (Ok g) k e =
      let c = claims_passed (first_no (claim_questions w S g)) g k e in
      (ap Ok c.1, subst (λ x. first_no (claim_questions w S x) ≡ None) c.1 c.0)
  calls_passed w (Err f) k e = let z : ◌≡◌ {A = ℕ} 0 1 = cc in absurd (omega arith)

  scale_passed : (b : Bool) (x : Result (List Given) Fault) (f : Fault) (k : List Given) → cond b x (Err f) ≡ Ok k → (b ≡ true) × (x ≡ Ok k)
  scale_passed true x f k e = (refl, e)
  scale_passed false x f k e = let z : ◌≡◌ {A = ℕ} 0 1 = cc in absurd (omega arith)

  pub accepting : (h : List Given) (w : Sheet) (k : List Given) → rechecks S M h w ≡ Ok k → Accepting S M h w k
  accepting h w k e =
      let opened = opening w.states w.settings ∷ h in
      let o = went_on (decides S M h (opening w.states w.settings)) (sheet_length w.states w.settings - 4) (remade S M opened w) k e in
      let s = scale_passed (eqb w.scale S) (then_claimed S M w (makes S M opened (calls_of w))) _ k o.1 in
      let c = calls_passed w (makes S M opened (calls_of w)) k s.1 in
      record {
        opened = o.0;
        scale_is = eqb-true w.scale S s.0;
        made = c.0;
        calls_are = makes_counts S M onto onto_none onto_more (calls_of w) opened k c.0 ∙ calls_onto w h;
        claimed = c.1;
      }

same_number : (a b : ℤ) → int_eq a b ≡ true → a ≡ b
same_number (pos a) (pos b) e = ap pos (eqb-true a b e)
same_number (pos a) (negsuc b) e = absurd (true≢false (sym e))
same_number (negsuc a) (pos b) e = absurd (true≢false (sym e))
same_number (negsuc a) (negsuc b) e = ap negsuc (eqb-true a b e)

-- the claims are the ends that are held
pub claims_held : (S : ℕ) (w : Sheet) (k : List Given) (b : Basis) → holds S k ≡ Some b → states_of k ≡ w.states → first_no (claim_questions w S k) ≡ None →
    (u : ℕ) → u < 2 * w.states → end (range_held S k b (u / 2)) (u % 2) ≡ w.number (at_claims w.states w.settings + u)
claims_held S w k b held n claimed u l =
    let half : u / 2 < states_of k = omega arith in
    let row : row_decided S k (holds S k) (u / 2) ≡ Ok (range_held S k b (u / 2)) = ap (λ o. row_decided S k o (u / 2)) held ∙ cond-true _ _ _ (lt-ltb (u / 2) (states_of k) half) in
    let z = w.number (at_claims w.states w.settings + u) in
    same_number _ _ (subst (λ r. is_claimed r (u % 2) z ≡ true) row (each_yes (2 * w.states) _ claimed u l))
