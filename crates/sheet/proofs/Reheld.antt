-- a sheet that says what is held is accepted, and the same ranges are held then
use Rattle.std.proofs.Common.{◌≡◌, ℕ, ◌+◌, ◌-◌, ◌*◌, ◌/◌, ◌%◌, ◌<◌, true, List, ◌∷◌, ℤ, pos, negsuc, None, Ok, sym, refl, ap, ◌∙◌, inl, inr, arith}
use Rattle.std.proofs.lemmas.Bool.{cases_lt, cond-false, cond-true, eq-eqb, le-ltb, lt-ltb}
use Rattle.span.specs.Questions.{first_no}
use Rattle.prepare.proofs.Firsts.{all_yes}
use Rattle.source.specs.Meaning.{Meaning}
use Rattle.law.specs.Calls.{Given}
use Rattle.law.specs.Calls.Given.{opening}
use Rattle.law.specs.History.{Basis, holds, range_held, states_of}
use Rattle.law.specs.Decides.{row_decided}
use Rattle.sheet.specs.Again.{Takes}
use Rattle.sheet.specs.Layout.{at_claims, sheet_length}
use Rattle.sheet.specs.Rechecks.{claim_questions, int_eq, is_claimed, rechecks, remade, then_claimed, then_made, unless_claimed}
use Rattle.sheet.specs.Sheets.{Sheet}
use Rattle.sheet.proofs.Backing.{Backs, alike, box_is, claim_is}
use Rattle.sheet.proofs.Repeating.{calls_made, opens}
use Rattle.sheet.proofs.Retold.{basis_at, held_said, narrows, states_said}
use Rattle.sheet.proofs.Stepping.{held_alike}

itself : (z : ℤ) → int_eq z z ≡ true
itself (pos a) = eq-eqb a a refl
itself (negsuc a) = eq-eqb a a refl

module _ (S : ℕ) (h : List Given) (b : Basis) (w : Sheet) (q : Backs S h b w) (M : Meaning) (g : List Given) where
  abbrev k : List Given
  k = narrows w g w.narrowings

  abbrev c : Basis
  c = basis_at w g w.narrowings

  same_range : (i : ℕ) → i < w.states → range_held S h b i ≡ range_held S k c i
  same_range i l =
      let a = alike S h b w q g w.narrowings in
      let m : i < states_of h = omega (arith, q.states, l) in
      held_alike S _ _ _ _ a b.box c.box (λ j e. box_is S h b w q j (omega (arith, q.states, e))) b.narrowings i m
      ∙ ap (λ r. range_held S k (record { offer = c.offer; box = c.box; narrowings = r }) i) q.narrowings

  row_held : (i : ℕ) → i < w.states → row_decided S k (holds S k) i ≡ Ok (range_held S h b i)
  row_held i l =
      ap (λ o. row_decided S k o i) (held_said w g S w.narrowings)
      ∙ cond-true _ _ _ (lt-ltb i (states_of k) (omega (arith, states_said w g w.narrowings, l))) ∙ ap Ok (sym (same_range i l))

  claims_yes : first_no (claim_questions w S k) ≡ None
  claims_yes = all_yes (2 * w.states) _ one
    where
      one : (u : ℕ) → u < 2 * w.states → is_claimed (row_decided S k (holds S k) (u / 2)) (u % 2) (w.number (at_claims w.states w.settings + u)) ≡ true
      one u l =
          let z = w.number (at_claims w.states w.settings + u) in
          ap (λ r. is_claimed r (u % 2) z) (row_held (u / 2) (omega arith)) ∙ ap (λ x. int_eq x z) (sym (claim_is S h b w q u l)) ∙ itself z

  pub rechecks_held : Takes M g w → rechecks S M g w ≡ Ok (narrows w g w.narrowings)
  rechecks_held takes =
      let o = opening w.states w.settings ∷ g in
      ap (λ r. then_made S M r (sheet_length w.states w.settings - 4) (remade S M o w)) (opens S h b w q M g)
      ∙ cond-true _ _ _ (eq-eqb w.scale S q.scale)
      ∙ ap (then_claimed S M w) (calls_made S h b w q M g takes)
      ∙ ap (λ x. unless_claimed S M x k) claims_yes

  pub rows_again : (i : ℕ) → row_decided S (narrows w g w.narrowings) (holds S (narrows w g w.narrowings)) i ≡ row_decided S h (holds S h) i
  rows_again i = elim (cases_lt i w.states) [
    | inl l ↦ row_held i l ∙ sym (ap (λ o. row_decided S h o i) q.held ∙ cond-true _ _ _ (lt-ltb i (states_of h) (omega (arith, q.states, l))))
    | inr l ↦
        ap (λ o. row_decided S k o i) (held_said w g S w.narrowings) ∙ cond-false _ _ _ (le-ltb i (states_of k) (omega (arith, states_said w g w.narrowings, l)))
        ∙ sym (ap (λ o. row_decided S h o i) q.held ∙ cond-false _ _ _ (le-ltb i (states_of h) (omega (arith, q.states, l))))
  ]
