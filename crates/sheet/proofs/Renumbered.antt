-- the numbers that are written after an accepted recheck are those of its sheet
use Rattle.std.proofs.Common.{◌≡◌, ℕ, suc, ◌+◌, ◌-◌, ◌*◌, ◌/◌, ◌%◌, ◌<◌, ◌≤◌, eqb, List, get_or, ℤ, pos, ap, ◌∙◌, inl, inr, arith}
use Rattle.std.proofs.lemmas.Bool.{cases_lt, cond-false, cond-true, eq-eqb, ne_eqb}
use Rattle.enclosure.specs.Boxed.{box}
use Rattle.law.specs.Calls.{Given}
use Rattle.law.specs.History.{Basis, posted, range_held, range_of, settings_of, states_of}
use Rattle.sheet.specs.Layout.{at_box, at_claims, at_guesses, at_ranges, at_table, at_trailer, place_of}
use Rattle.sheet.specs.Rechecks.{listed, numbers_from}
use Rattle.sheet.specs.Sheets.{Sheet, end, number_of}
use Rattle.sheet.proofs.Listed.{slice_index_listed}
use Rattle.sheet.proofs.Parts.{in_claims, in_coefficients, in_guesses, in_ranges, in_table, in_trial}

-- the calls k and the basis b say what the sheet w says
pub record Says (S : ℕ) (k : List Given) (b : Basis) (w : Sheet) : Type 0 where
  pub states : states_of k ≡ w.states
  pub settings : settings_of k ≡ w.settings
  pub coefficients : (t : ℕ) → t < at_ranges w.states w.settings → posted k (place_of w.states t) ≡ w.number t
  pub ranges : (u : ℕ) → u < w.settings → range_of k (suc u) ≡ record { low = w.number (at_ranges w.states w.settings + 2 * u); high = w.number (at_ranges w.states w.settings + 2 * u + 1) }
  pub table : b.offer.table ≡ numbers_from w (at_table w.states w.settings) (w.states * w.states)
  pub guesses : b.offer.guesses ≡ numbers_from w (at_guesses w.states w.settings) w.states
  pub box_is : b.box ≡ box (numbers_from w (at_box w.states w.settings) (2 * w.states))
  pub claims : (u : ℕ) → u < 2 * w.states → end (range_held S k b (u / 2)) (u % 2) ≡ w.number (at_claims w.states w.settings + u)

-- two numbers in a row, taken by their ends
end_of_two : (f : ℕ → ℤ) (x y t e : ℕ) → e < 2 → (e ≡ 0 → x ≡ t) → (e ≡ 1 → y ≡ t) → end (record { low = f x; high = f y }) e ≡ f t
end_of_two f x y t e h low high = elim (cases_lt e 1) [
  | inl l ↦ cond-true (eqb e 0) _ _ (eq-eqb e 0 (omega arith)) ∙ ap f (low (omega arith))
  | inr l ↦ cond-false (eqb e 0) _ _ (ne_eqb e 0 (λ z. omega arith)) ∙ ap f (high (omega arith))
]

module _ (S : ℕ) (k : List Given) (b : Basis) (w : Sheet) (s : Says S k b w) where
  abbrev n : ℕ
  n = w.states

  abbrev m : ℕ
  m = w.settings

  module _ (t : ℕ) where
    range_number : at_ranges n m ≤ t → t < at_table n m → end (range_of k (suc ((t - at_ranges n m) / 2))) ((t - at_ranges n m) % 2) ≡ w.number t
    range_number p l = ap (λ r. end r ((t - at_ranges n m) % 2)) (s.ranges ((t - at_ranges n m) / 2) (omega arith)) ∙ end_of_two w.number _ _ t ((t - at_ranges n m) % 2) (omega arith) (λ z. omega arith) (λ z. omega arith)

    table_number : at_table n m ≤ t → t < at_guesses n m → get_or b.offer.table (t - at_table n m) (pos 0) ≡ w.number t
    table_number p l = ap (λ r. get_or r (t - at_table n m) (pos 0)) s.table ∙ slice_index_listed (n * n) _ (t - at_table n m) (omega arith) ∙ ap w.number (omega arith)

    guess_number : at_guesses n m ≤ t → t < at_box n m → get_or b.offer.guesses (t - at_guesses n m) (pos 0) ≡ w.number t
    guess_number p l = ap (λ r. get_or r (t - at_guesses n m) (pos 0)) s.guesses ∙ slice_index_listed n _ (t - at_guesses n m) (omega arith) ∙ ap w.number (omega arith)

    box_number : at_box n m ≤ t → t < at_claims n m → end (b.box ((t - at_box n m) / 2)) ((t - at_box n m) % 2) ≡ w.number t
    box_number p l =
        let u : ℕ = t - at_box n m in
        let f : ℕ → ℤ = λ x. w.number (at_box n m + x) in
        let low : get_or (listed (2 * n) f) (2 * (u / 2)) (pos 0) ≡ f (2 * (u / 2)) = slice_index_listed (2 * n) f (2 * (u / 2)) (omega arith) in
        let high : get_or (listed (2 * n) f) (2 * (u / 2) + 1) (pos 0) ≡ f (2 * (u / 2) + 1) = slice_index_listed (2 * n) f (2 * (u / 2) + 1) (omega arith) in
        let row : b.box (u / 2) ≡ record { low = f (2 * (u / 2)); high = f (2 * (u / 2) + 1) } = ap (λ y. y (u / 2)) s.box_is ∙ ap (λ x. record { low = x; high = get_or (listed (2 * n) f) (2 * (u / 2) + 1) (pos 0) }) low ∙ ap (λ x. record { low = f (2 * (u / 2)); high = x }) high in
        ap (λ r. end r (u % 2)) row ∙ end_of_two w.number _ _ t (u % 2) (omega arith) (λ z. omega arith) (λ z. omega arith)

    claim_number : at_claims n m ≤ t → t < at_trailer n m → end (range_held S k b ((t - at_claims n m) / 2)) ((t - at_claims n m) % 2) ≡ w.number t
    claim_number p l = s.claims (t - at_claims n m) (omega arith) ∙ ap w.number (omega arith)

    pub numbers_again : t < at_trailer n m → number_of S k b t ≡ w.number t
    numbers_again l = elim (cases_lt t (at_ranges n m)) [
      | inl a ↦ in_coefficients S k b n m s.states s.settings t a ∙ s.coefficients t a
      | inr a ↦ elim (cases_lt t (at_table n m)) [
        | inl c ↦ in_ranges S k b n m s.states s.settings t a c ∙ range_number a c
        | inr c ↦ elim (cases_lt t (at_guesses n m)) [
          | inl d ↦ in_table S k b n m s.states s.settings t c d ∙ table_number c d
          | inr d ↦ elim (cases_lt t (at_box n m)) [
            | inl e ↦ in_guesses S k b n m s.states s.settings t d e ∙ guess_number d e
            | inr e ↦ elim (cases_lt t (at_claims n m)) [
              | inl f ↦ in_trial S k b n m s.states s.settings t e f ∙ box_number e f
              | inr f ↦ in_claims S k b n m s.states s.settings t f ∙ claim_number f l
            ]
          ]
        ]
      ]
    ]
