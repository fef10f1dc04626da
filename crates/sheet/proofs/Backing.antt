-- a sheet that says what is held after the calls h, on the basis b
use Rattle.std.proofs.Common.{◌≡◌, ℕ, suc, ◌+◌, ◌-◌, ◌*◌, ◌/◌, ◌%◌, ◌<◌, ◌≤◌, true, ◌&&◌, eqb, List, length, get_or, ℤ, pos, Some, None, sym, ap, ◌∙◌, arith}
use lib.Signed.{le_z}
use Rattle.std.proofs.lemmas.Bool.{and_parts, cond-false, cond-true, eq-eqb, eqb-true, ne_eqb}
use Rattle.span.specs.Intervals.{Interval}
use Rattle.span.specs.Questions.{first_no, within}
use Rattle.method.specs.Method.{Accepted}
use Rattle.prepare.proofs.Firsts.{first_yes}
use Rattle.enclosure.specs.Boxed.{box}
use Rattle.enclosure.specs.Enclosures.{size_questions}
use Rattle.source.specs.declared.place.Place.{Place}
use Rattle.law.specs.Calls.{Given}
use Rattle.law.specs.History.{Basis, game_of, holds, offered, posted, range_held, range_of, settings_of, states_of}
use Rattle.law.specs.Decides.{propose_questions, wholes}
use Rattle.law.proofs.Alike.{Alike}
use Rattle.sheet.specs.Layout.{at_box, at_claims, at_guesses, at_ranges, at_table, at_trailer, place_of}
use Rattle.sheet.specs.Rechecks.{listed, numbers_from}
use Rattle.sheet.specs.Sheets.{Sheet, end, number_of}
use Rattle.sheet.proofs.Listed.{slice_index_listed}
use Rattle.sheet.proofs.Listing.{is_listed}
use Rattle.sheet.proofs.Parts.{in_claims, in_coefficients, in_guesses, in_ranges, in_table, in_trial}
use Rattle.sheet.proofs.Placing.{index, index_below, matrix_at, payout_at}
use Rattle.sheet.proofs.Retold.{basis_at, coefficient_said, narrows, range_said, settings_said, states_said}

pub record Backs (S : ℕ) (h : List Given) (b : Basis) (w : Sheet) : Type 0 where
  pub scale : w.scale ≡ S
  pub states : states_of h ≡ w.states
  pub settings : settings_of h ≡ w.settings
  pub narrowings : b.narrowings ≡ w.narrowings
  pub some : 0 < w.states
  pub states_few : w.states ≤ 12
  pub settings_few : w.settings ≤ 8
  pub few : w.narrowings ≤ 16
  pub numbers : (t : ℕ) → t < at_trailer w.states w.settings → w.number t ≡ number_of S h b t
  pub limited : (p : Place) → within S (wholes p) (posted h p) ≡ true
  pub ordered : (v : ℕ) → le_z (range_of h v).low (range_of h v).high ≡ true
  pub narrow : (v : ℕ) → (within S 1 (range_of h v).low && within S 1 (range_of h v).high) ≡ true
  pub held : holds S h ≡ Some b
  pub asked : first_no (propose_questions S h b.offer.table b.offer.guesses) ≡ None
  pub fits : first_no (size_questions S (game_of h) (offered h b.offer) b.box) ≡ None
  pub accepted : Accepted S (game_of h) (offered h b.offer) b.box
  pub box_ordered : (i : ℕ) → i < states_of h → le_z (b.box i).low (b.box i).high ≡ true

-- number d of pairs, the low end or the high end of pair u
low_of : (f : ℕ → Interval) (d u : ℕ) → d ≡ 2 * u → end (f (d / 2)) (d % 2) ≡ (f u).low
low_of f d u e = let x : d / 2 ≡ u = omega arith in cond-true _ _ _ (eq-eqb (d % 2) 0 (omega arith)) ∙ ap (λ z. (f z).low) x

high_of : (f : ℕ → Interval) (d u : ℕ) → d ≡ 2 * u + 1 → end (f (d / 2)) (d % 2) ≡ (f u).high
high_of f d u e = let x : d / 2 ≡ u = omega arith in cond-false _ _ _ (ne_eqb (d % 2) 0 (λ z. omega arith)) ∙ ap (λ z. (f z).high) x

by_ends : (s : Interval) (x y : ℤ) → x ≡ s.low → y ≡ s.high → s ≡ record { low = x; high = y }
by_ends s x y e i = ap (λ z. record { low = z; high = s.high }) (sym e) ∙ ap (λ z. record { low = x; high = z }) (sym i)

module _ (S : ℕ) (h : List Given) (b : Basis) (w : Sheet) (q : Backs S h b w) where
  abbrev n : ℕ
  n = w.states

  abbrev m : ℕ
  m = w.settings

  pub coefficient : (t : ℕ) → t < at_ranges w.states w.settings → w.number t ≡ posted h (place_of w.states t)
  coefficient t l = q.numbers t (omega arith) ∙ in_coefficients S h b n m q.states q.settings t l

  pub range_low : (u : ℕ) → u < w.settings → w.number (at_ranges w.states w.settings + 2 * u) ≡ (range_of h (suc u)).low
  range_low u l =
      q.numbers (at_ranges n m + 2 * u) (omega arith) ∙ in_ranges S h b n m q.states q.settings (at_ranges n m + 2 * u) (omega arith) (omega arith)
      ∙ low_of (λ z. range_of h (suc z)) (at_ranges n m + 2 * u - at_ranges n m) u (omega arith)

  pub range_high : (u : ℕ) → u < w.settings → w.number (at_ranges w.states w.settings + 2 * u + 1) ≡ (range_of h (suc u)).high
  range_high u l =
      q.numbers (at_ranges n m + 2 * u + 1) (omega arith) ∙ in_ranges S h b n m q.states q.settings (at_ranges n m + 2 * u + 1) (omega arith) (omega arith)
      ∙ high_of (λ z. range_of h (suc z)) (at_ranges n m + 2 * u + 1 - at_ranges n m) u (omega arith)

  counts : (length b.offer.table ≡ w.states * w.states) × (length b.offer.guesses ≡ w.states)
  counts =
      let p = and_parts (eqb (length b.offer.table) (states_of h * states_of h)) (eqb (length b.offer.guesses) (states_of h)) (first_yes _ _ _ q.asked) in
      (eqb-true _ _ p.0 ∙ ap (λ z. z * z) q.states, eqb-true _ _ p.1 ∙ q.states)

  pub table_is : b.offer.table ≡ numbers_from w (at_table w.states w.settings) (w.states * w.states)
  table_is = is_listed b.offer.table (λ t. w.number (at_table n m + t)) (n * n) counts.0 one
    where
      one : (t : ℕ) → t < n * n → get_or b.offer.table t (pos 0) ≡ w.number (at_table n m + t)
      one t l = let x : at_table n m + t - at_table n m ≡ t = omega arith in sym (q.numbers (at_table n m + t) (omega arith) ∙ in_table S h b n m q.states q.settings (at_table n m + t) (omega arith) (omega arith) ∙ ap (λ z. get_or b.offer.table z (pos 0)) x)

  pub guesses_are : b.offer.guesses ≡ numbers_from w (at_guesses w.states w.settings) w.states
  guesses_are = is_listed b.offer.guesses (λ t. w.number (at_guesses n m + t)) n counts.1 one
    where
      one : (t : ℕ) → t < n → get_or b.offer.guesses t (pos 0) ≡ w.number (at_guesses n m + t)
      one t l = let x : at_guesses n m + t - at_guesses n m ≡ t = omega arith in sym (q.numbers (at_guesses n m + t) (omega arith) ∙ in_guesses S h b n m q.states q.settings (at_guesses n m + t) (omega arith) (omega arith) ∙ ap (λ z. get_or b.offer.guesses z (pos 0)) x)

  abbrev trial_number : ℕ → ℤ
  trial_number t = w.number (at_box n m + t)

  trial_low : (i : ℕ) → i < w.states → get_or (listed (2 * n) trial_number) (2 * i) (pos 0) ≡ (b.box i).low
  trial_low i l =
      slice_index_listed (2 * n) trial_number (2 * i) (omega arith) ∙ q.numbers (at_box n m + 2 * i) (omega arith) ∙ in_trial S h b n m q.states q.settings (at_box n m + 2 * i) (omega arith) (omega arith)
      ∙ low_of b.box (at_box n m + 2 * i - at_box n m) i (omega arith)

  trial_high : (i : ℕ) → i < w.states → get_or (listed (2 * n) trial_number) (2 * i + 1) (pos 0) ≡ (b.box i).high
  trial_high i l =
      slice_index_listed (2 * n) trial_number (2 * i + 1) (omega arith) ∙ q.numbers (at_box n m + (2 * i + 1)) (omega arith) ∙ in_trial S h b n m q.states q.settings (at_box n m + (2 * i + 1)) (omega arith) (omega arith)
      ∙ high_of b.box (at_box n m + (2 * i + 1) - at_box n m) i (omega arith)

  pub box_is : (i : ℕ) → i < w.states → b.box i ≡ box (numbers_from w (at_box w.states w.settings) (2 * w.states)) i
  box_is i l = by_ends (b.box i) _ _ (trial_low i l) (trial_high i l)

  pub claim_is : (u : ℕ) → u < 2 * w.states → w.number (at_claims w.states w.settings + u) ≡ end (range_held S h b (u / 2)) (u % 2)
  claim_is u l =
      let x : at_claims n m + u - at_claims n m ≡ u = omega arith in
      q.numbers (at_claims n m + u) (omega arith) ∙ in_claims S h b n m q.states q.settings (at_claims n m + u) (omega arith) ∙ ap (λ z. end (range_held S h b (z / 2)) (z % 2)) x

  -- ---- the calls of the sheet pose the same game
  module _ (g : List Given) (r : ℕ) where
    abbrev k : List Given
    k = narrows w g r

    same_coefficient : (v i j : ℕ) → v ≤ w.settings → i < w.states → j < w.states + 1 → posted h (place_of w.states (index w.states q.some v i j)) ≡ posted (narrows w g r) (place_of w.states (index w.states q.some v i j))
    same_coefficient v i j a c d =
        let l = index_below n q.some m v i j a c d in
        sym (coefficient (index n q.some v i j) l) ∙ sym (coefficient_said w g (index n q.some v i j) r l)

    pub alike : Alike (game_of h) (game_of (narrows w g r)) (offered h b.offer) (offered (narrows w g r) (basis_at w g r).offer)
    alike = record {
      states = q.states ∙ sym (states_said w g r);
      settings = q.settings ∙ sym (settings_said w g r);
      matrix = λ v i j a c d.
          let x = matrix_at n q.some v i j (omega (arith, q.states, c)) (omega (arith, q.states, d)) in
          sym (ap (posted h) x) ∙ same_coefficient v i j (omega (arith, q.settings, a)) (omega (arith, q.states, c)) (omega (arith, q.states, d)) ∙ ap (posted k) x;
      payout = λ v i a c.
          let x = payout_at n q.some v i (omega (arith, q.states, c)) in
          sym (ap (posted h) x) ∙ same_coefficient v i n (omega (arith, q.settings, a)) (omega (arith, q.states, c)) (omega arith) ∙ ap (posted k) x;
      range = λ v l.
          let u : v < m = omega (arith, q.settings, l) in
          by_ends (range_of h (suc v)) _ _ (range_low v u) (range_high v u) ∙ sym (range_said w g r v u);
      table = λ i j a c. ap (λ z. get_or b.offer.table (i * z + j) (pos 0)) (q.states ∙ sym (states_said w g r)) ∙ ap (λ z. get_or z (i * states_of k + j) (pos 0)) table_is;
      guess = λ i a. ap (λ z. get_or z i (pos 0)) guesses_are;
    }
