-- the numbers of a sheet by their section, as what is held has them
use Rattle.std.proofs.Common.{◌≡◌, ℕ, suc, ◌-◌, ◌*◌, ◌/◌, ◌%◌, ◌<◌, ◌≤◌, List, get_or, pos, sym, ap, ◌∙◌, subst, mod-lt, div-lt_iff_lt-mul, div-add-mod', arith}
use Rattle.std.proofs.lemmas.Bool.{cond-false, cond-true, le-ltb, lt-ltb}
use Rattle.span.specs.Intervals.{point, ◌+ᵢ◌}
use Rattle.method.specs.Method.{size}
use Rattle.system.specs.Figures.{spans}
use Rattle.enclosure.specs.declared.enclosure.Enclosure.{Enclosure}
use Rattle.enclosure.proofs.Asked.{each_yes}
use Rattle.enclosure.proofs.Verdict.{known_near}
use Rattle.law.specs.Calls.{Given}
use Rattle.law.specs.History.{Basis, posted, range_held, range_of, settings_of, states_of}
use Rattle.docket.specs.Reflects.{Holds}
use Rattle.sheet.specs.Layout.{at_box, at_claims, at_guesses, at_ranges, at_table, at_trailer, place_of}
use Rattle.sheet.specs.Sheets.{end, number_of}

-- number t of the sheet of n states and k settings that is written while e is held
pub record Sections (S : ℕ) (h : List Given) (b : Basis) (e : Enclosure) (t n k : ℕ) : Type 0 where
  pub coefficients : t < at_ranges n k → posted h (place_of n t) ≡ number_of S h b t
  pub ranges : at_ranges n k ≤ t → t < at_table n k → end (range_of h (suc ((t - at_ranges n k) / 2))) ((t - at_ranges n k) % 2) ≡ number_of S h b t
  pub table : at_table n k ≤ t → t < at_guesses n k → get_or e.prepared.table (t - at_table n k) (pos 0) ≡ number_of S h b t
  pub guesses : at_guesses n k ≤ t → t < at_box n k → get_or e.prepared.guesses (t - at_guesses n k) (pos 0) ≡ number_of S h b t
  pub trial : at_box n k ≤ t → t < at_claims n k → end (spans e.trial ((t - at_box n k) / 2)) ((t - at_box n k) % 2) ≡ number_of S h b t
  pub trial_size : at_box n k ≤ t → t < at_claims n k → size (spans e.trial ((t - at_box n k) / 2)) ≤ 100 * S
  pub claims : at_claims n k ≤ t → t < at_trailer n k → end (point (get_or e.prepared.guesses ((t - at_claims n k) / 2) (pos 0)) +ᵢ spans e.correction ((t - at_claims n k) / 2)) ((t - at_claims n k) % 2) ≡ number_of S h b t
  pub claims_row : at_claims n k ≤ t → t < at_trailer n k → (t - at_claims n k) / 2 < e.prepared.states

module _ (S : ℕ) (h : List Given) (b : Basis) (e : Enclosure) (s : Holds S h b e) where
  table_held : (u : ℕ) → u < states_of h * states_of h → get_or e.prepared.table u (pos 0) ≡ get_or b.offer.table u (pos 0)
  table_held u l =
      let n : ℕ = states_of h in
      let some : 0 < n = omega (arith, s.enclosure_is.held.of.states, e.prepared.size.0) in
      subst (λ t. get_or e.prepared.table t (pos 0) ≡ get_or b.offer.table t (pos 0)) (div-add-mod' u n) (s.tabled.table_is (u / n) (u % n) ((div-lt_iff_lt-mul some).1 l) (mod-lt u some))

  box_size : (i : ℕ) → i < states_of h → size (spans e.trial i) ≤ 100 * S
  box_size i l = subst (λ r. size r ≤ 100 * S) (sym (s.enclosure_is.held.trial_is i l)) (known_near S (b.box i) (each_yes (states_of h) _ s.fits_was i l))

  row_held : (i : ℕ) → i < states_of h → point (get_or e.prepared.guesses i (pos 0)) +ᵢ spans e.correction i ≡ range_held S h b i
  row_held i l =
      let a = s.enclosure_is.held.of.guess i l in
      let v = s.enclosure_is.held.correction_is i l in
      cc

  half_below : (u n : ℕ) → u < 2 * n → u / 2 < n
  half_below u n l = omega arith

  module _ (t : ℕ) where
    abbrev n : ℕ
    n = states_of h

    abbrev k : ℕ
    k = settings_of h

    in_coefficients : t < at_ranges n k → number_of S h b t ≡ posted h (place_of n t)
    unfolding number_of
    in_coefficients l = cond-true _ _ _ (lt-ltb t (at_ranges n k) l)

    in_ranges : at_ranges n k ≤ t → t < at_table n k → number_of S h b t ≡ end (range_of h (suc ((t - at_ranges n k) / 2))) ((t - at_ranges n k) % 2)
    unfolding number_of
    in_ranges p l = cond-false _ _ _ (le-ltb t (at_ranges n k) p) ∙ cond-true _ _ _ (lt-ltb t (at_table n k) l)

    in_table : at_table n k ≤ t → t < at_guesses n k → number_of S h b t ≡ get_or b.offer.table (t - at_table n k) (pos 0)
    unfolding number_of
    in_table p l = cond-false _ _ _ (le-ltb t (at_ranges n k) (omega arith)) ∙ cond-false _ _ _ (le-ltb t (at_table n k) p) ∙ cond-true _ _ _ (lt-ltb t (at_guesses n k) l)

    in_guesses : at_guesses n k ≤ t → t < at_box n k → number_of S h b t ≡ get_or b.offer.guesses (t - at_guesses n k) (pos 0)
    unfolding number_of
    in_guesses p l = cond-false _ _ _ (le-ltb t (at_ranges n k) (omega arith)) ∙ cond-false _ _ _ (le-ltb t (at_table n k) (omega arith)) ∙ cond-false _ _ _ (le-ltb t (at_guesses n k) p) ∙ cond-true _ _ _ (lt-ltb t (at_box n k) l)

    in_trial : at_box n k ≤ t → t < at_claims n k → number_of S h b t ≡ end (b.box ((t - at_box n k) / 2)) ((t - at_box n k) % 2)
    unfolding number_of
    in_trial p l = cond-false _ _ _ (le-ltb t (at_ranges n k) (omega arith)) ∙ cond-false _ _ _ (le-ltb t (at_table n k) (omega arith)) ∙ cond-false _ _ _ (le-ltb t (at_guesses n k) (omega arith)) ∙ cond-false _ _ _ (le-ltb t (at_box n k) p) ∙ cond-true _ _ _ (lt-ltb t (at_claims n k) l)

    in_claims : at_claims n k ≤ t → number_of S h b t ≡ end (range_held S h b ((t - at_claims n k) / 2)) ((t - at_claims n k) % 2)
    unfolding number_of
    in_claims p = cond-false _ _ _ (le-ltb t (at_ranges n k) (omega arith)) ∙ cond-false _ _ _ (le-ltb t (at_table n k) (omega arith)) ∙ cond-false _ _ _ (le-ltb t (at_guesses n k) (omega arith)) ∙ cond-false _ _ _ (le-ltb t (at_box n k) (omega arith)) ∙ cond-false _ _ _ (le-ltb t (at_claims n k) p)

    sections : Sections S h b e t n k
    sections = record {
      coefficients = λ l. sym (in_coefficients l);
      ranges = λ p l. sym (in_ranges p l);
      table = λ p l. table_held (t - at_table n k) (omega arith) ∙ sym (in_table p l);
      guesses = λ p l. s.enclosure_is.held.of.guess (t - at_guesses n k) (omega arith) ∙ sym (in_guesses p l);
      trial = λ p l. ap (λ r. end r ((t - at_box n k) % 2)) (s.enclosure_is.held.trial_is ((t - at_box n k) / 2) (half_below (t - at_box n k) n (omega arith))) ∙ sym (in_trial p l);
      trial_size = λ p l. box_size ((t - at_box n k) / 2) (half_below (t - at_box n k) n (omega arith));
      claims = λ p l. ap (λ r. end r ((t - at_claims n k) % 2)) (row_held ((t - at_claims n k) / 2) (half_below (t - at_claims n k) n (omega arith))) ∙ sym (in_claims p);
      claims_row = λ p l. subst (λ m. (t - at_claims n k) / 2 < m) (sym s.enclosure_is.held.of.states) (half_below (t - at_claims n k) n (omega arith));
    }

  pub sections_of : (t m j : ℕ) → m ≡ states_of h → j ≡ settings_of h → Sections S h b e t m j
  sections_of t m j em ej = subst (λ x. Sections S h b e t x j) (sym em) (subst (λ x. Sections S h b e t (states_of h) x) (sym ej) (sections t))
