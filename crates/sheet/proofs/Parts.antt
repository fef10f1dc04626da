-- number t of what is written, by its section, where n and m are the states and the settings
use Rattle.std.proofs.Common.{◌≡◌, ℕ, suc, ◌-◌, ◌/◌, ◌%◌, ◌<◌, ◌≤◌, cond, ltb, List, get_or, ℤ, pos, ap, ◌∙◌, arith}
use Rattle.std.proofs.lemmas.Bool.{cond-false, cond-true, le-ltb, lt-ltb}
use Rattle.law.specs.Calls.{Given}
use Rattle.law.specs.History.{Basis, posted, range_held, range_of, settings_of, states_of}
use Rattle.sheet.specs.Layout.{at_box, at_claims, at_guesses, at_ranges, at_table, place_of}
use Rattle.sheet.specs.Sheets.{end, number_of}

module _ (S : ℕ) (k : List Given) (b : Basis) where
  by_size : ℕ → ℕ → ℕ → ℤ
  by_size n m t =
      cond (ltb t (at_ranges n m)) (posted k (place_of n t))
      (cond (ltb t (at_table n m)) (end (range_of k (suc ((t - at_ranges n m) / 2))) ((t - at_ranges n m) % 2))
      (cond (ltb t (at_guesses n m)) (get_or b.offer.table (t - at_table n m) (pos 0))
      (cond (ltb t (at_box n m)) (get_or b.offer.guesses (t - at_guesses n m) (pos 0))
      (cond (ltb t (at_claims n m)) (end (b.box ((t - at_box n m) / 2)) ((t - at_box n m) % 2))
      (end (range_held S k b ((t - at_claims n m) / 2)) ((t - at_claims n m) % 2))))))

  module _ (n m : ℕ) (states : states_of k ≡ n) (settings : settings_of k ≡ m) (t : ℕ) where
    sized : number_of S k b t ≡ by_size n m t
    unfolding number_of by_size
    sized = ap (λ x. by_size x (settings_of k) t) states ∙ ap (λ x. by_size n x t) settings

    pub in_coefficients : t < at_ranges n m → number_of S k b t ≡ posted k (place_of n t)
    unfolding by_size
    in_coefficients l = sized ∙ cond-true _ _ _ (lt-ltb t (at_ranges n m) l)

    pub in_ranges : at_ranges n m ≤ t → t < at_table n m → number_of S k b t ≡ end (range_of k (suc ((t - at_ranges n m) / 2))) ((t - at_ranges n m) % 2)
    unfolding by_size
    in_ranges p l = sized ∙ cond-false _ _ _ (le-ltb t (at_ranges n m) p) ∙ cond-true _ _ _ (lt-ltb t (at_table n m) l)

    pub in_table : at_table n m ≤ t → t < at_guesses n m → number_of S k b t ≡ get_or b.offer.table (t - at_table n m) (pos 0)
    unfolding by_size
    in_table p l = sized ∙ cond-false _ _ _ (le-ltb t (at_ranges n m) (omega arith)) ∙ cond-false _ _ _ (le-ltb t (at_table n m) p) ∙ cond-true _ _ _ (lt-ltb t (at_guesses n m) l)

    pub in_guesses : at_guesses n m ≤ t → t < at_box n m → number_of S k b t ≡ get_or b.offer.guesses (t - at_guesses n m) (pos 0)
    unfolding by_size
    in_guesses p l = sized ∙ cond-false _ _ _ (le-ltb t (at_ranges n m) (omega arith)) ∙ cond-false _ _ _ (le-ltb t (at_table n m) (omega arith)) ∙ cond-false _ _ _ (le-ltb t (at_guesses n m) p) ∙ cond-true _ _ _ (lt-ltb t (at_box n m) l)

    pub in_trial : at_box n m ≤ t → t < at_claims n m → number_of S k b t ≡ end (b.box ((t - at_box n m) / 2)) ((t - at_box n m) % 2)
    unfolding by_size
    in_trial p l = sized ∙ cond-false _ _ _ (le-ltb t (at_ranges n m) (omega arith)) ∙ cond-false _ _ _ (le-ltb t (at_table n m) (omega arith)) ∙ cond-false _ _ _ (le-ltb t (at_guesses n m) (omega arith)) ∙ cond-false _ _ _ (le-ltb t (at_box n m) p) ∙ cond-true _ _ _ (lt-ltb t (at_claims n m) l)

    pub in_claims : at_claims n m ≤ t → number_of S k b t ≡ end (range_held S k b ((t - at_claims n m) / 2)) ((t - at_claims n m) % 2)
    unfolding by_size
    in_claims p = sized ∙ cond-false _ _ _ (le-ltb t (at_ranges n m) (omega arith)) ∙ cond-false _ _ _ (le-ltb t (at_table n m) (omega arith)) ∙ cond-false _ _ _ (le-ltb t (at_guesses n m) (omega arith)) ∙ cond-false _ _ _ (le-ltb t (at_box n m) (omega arith)) ∙ cond-false _ _ _ (le-ltb t (at_claims n m) p)
