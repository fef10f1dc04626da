-- a sheet that says what is held is rechecked: each of its calls is accepted, and its claims are the ends that are then held
use Rattle.std.proofs.Common.{◌≡◌, ℕ, zero, suc, ◌+◌, ◌*◌, ◌<◌, ◌≤◌, true, false, cond, ◌&&◌, eqb, List, [], ◌∷◌, ◌++◌, length, ℤ, ◌+ℤ◌, None, Ok, Option, sym, refl, ap, ◌∙◌, subst, inl, inr, arith}
use lib.IntN.{+ℤ_idl}
use lib.Signed.{le_z}
use Rattle.std.proofs.lemmas.Bool.{and_from, cases_Bool, eq-eqb, le-leb, lt-ltb}
use Rattle.span.specs.Questions.{Question, ask, ends_within, first_no, within}
use Rattle.span.proofs.Verdicts.{no_after, no_none}
use Rattle.prepare.specs.declared.fault.Fault as prepare
use Rattle.prepare.specs.declared.fault.Fault.TheVariants.{Count}
use Rattle.prepare.specs.Proposals.{guess_questions, iteration_questions, offer, residual_questions, table_questions}
use Rattle.prepare.proofs.Firsts.{all_yes, later}
use Rattle.enclosure.specs.Boxed.{box, order_questions}
use Rattle.enclosure.specs.Enclosures.{size_questions, try_questions}
use Rattle.enclosure.proofs.Asked.{each_yes}
use Rattle.enclosure.proofs.Tells.{accepts_of}
use Rattle.source.specs.Meaning.{Meaning, post_questions}
use Rattle.law.specs.declared.answer.Answer.{Answer}
use Rattle.law.specs.declared.answer.Answer.TheVariants.{Done}
use Rattle.law.specs.declared.fault.Fault.TheVariants as fault
use Rattle.law.specs.Calls.{Given}
use Rattle.law.specs.Calls.Given.{opening, post, range, narrow}
use Rattle.law.specs.History.{Basis, game_of, offered, posted, range_of, settings_of, source_of, states_of}
use Rattle.law.specs.Decides.{decides, has_place, narrow_decided, place_questions, propose_questions, range_questions, unless, verdict, wholes}
use Rattle.law.proofs.Alike.{Alike}
use Rattle.sheet.specs.Again.{Takes, posts}
use Rattle.sheet.specs.Layout.{at_box, at_guesses, at_ranges, at_table, place_of}
use Rattle.sheet.specs.Rechecks.{Read, calls_of, gathered, is_zero, makes, narrow_at, numbers_from, post_of, proposal_of, range_at, read, then_made, trial_of}
use Rattle.sheet.specs.Sheets.{Sheet}
use Rattle.sheet.proofs.Backing.{Backs, alike, box_is, coefficient, guesses_are, range_high, range_low, table_is}
use Rattle.sheet.proofs.Listed.{length_listed}
use Rattle.sheet.proofs.Making.{makes_on}
use Rattle.sheet.proofs.Placing.{placed}
use Rattle.sheet.proofs.Retold.{held_said, narrows, none_yet, posts_settings, posts_states, ranges, ranges_settings}
use Rattle.sheet.proofs.Stepping.{accepted_alike, iterations_asked, residuals_asked}

makes_one : (S : ℕ) (M : Meaning) (h : List Given) (x : ℕ) (c : Given) (a : Answer) → decides S M h c ≡ Ok a → makes S M h (read x c ∷ []) ≡ Ok (c ∷ h)
unfolding makes
makes_one S M h x c a e = ap (λ r. then_made S M r x (Ok (c ∷ h))) e

makes_none : (S : ℕ) (M : Meaning) (f : ℕ → List Read) (k : List Given) → makes S M k (gathered 0 f) ≡ Ok k
unfolding gathered makes
makes_none S M f k = refl

makes_more : (S : ℕ) (M : Meaning) (f : ℕ → List Read) (after : ℕ → List Given) (t : ℕ) → makes S M (after 0) (gathered t f) ≡ Ok (after t) → makes S M (after t) (f t) ≡ Ok (after (suc t)) → makes S M (after 0) (gathered (suc t) f) ≡ Ok (after (suc t))
unfolding gathered
makes_more S M f after t e i = makes_on S M (gathered t f) (f t) (after 0) (after t) e ∙ i

module _ (S : ℕ) (h : List Given) (b : Basis) (w : Sheet) (q : Backs S h b w) (M : Meaning) (g : List Given) where
  abbrev n : ℕ
  n = w.states

  abbrev m : ℕ
  m = w.settings

  -- ---- the opening and the posts
  pub opens : decides S M g (opening w.states w.settings) ≡ Ok Done
  unfolding decides
  opens = ap (verdict fault.Figures) (no_after _ _ _ None (and_from _ _ (and_from _ _ (le-leb 1 n q.some) (le-leb n 12 q.states_few)) (le-leb m 8 q.settings_few)) no_none)

  place_asked : (t : ℕ) → t < at_ranges w.states w.settings → first_no (place_questions S (posts w g t) (place_of w.states t) (w.number t)) ≡ None
  place_asked t l =
      let p = place_of n t in
      let has = subst (λ x. has_place x (settings_of (posts w g t)) p ≡ true) (sym (posts_states w g t)) (subst (λ x. has_place n x p ≡ true) (sym (posts_settings w g t)) (placed n q.some m t l)) in
      let sum : posted (posts w g t) p +ℤ w.number t ≡ posted h p = ap (λ x. x +ℤ w.number t) (none_yet w g t t (omega arith)) ∙ +ℤ_idl (w.number t) ∙ coefficient S h b w q t l in
      no_after _ _ _ None has (no_after _ _ _ None (subst (λ x. within S (wholes p) x ≡ true) (sym sum) (q.limited p)) no_none)

  module _ (takes : Takes M g w) where
    post_decided : (t : ℕ) → t < at_ranges w.states w.settings → is_zero (w.number t) ≡ false → decides S M (posts w g t) (post (place_of w.states t) (w.number t)) ≡ Ok Done
    unfolding decides
    post_decided t l e =
        let after = verdict fault.Source (first_no (post_questions (source_of M (posts w g t)) (place_of n t) (w.number t))) in
        ap (λ o. unless fault.Figures o after) (place_asked t l) ∙ ap (verdict fault.Source) (takes t l e)

    post_made : (t : ℕ) → t < at_ranges w.states w.settings → makes S M (posts w g t) (post_of w t) ≡ Ok (posts w g (suc t))
    unfolding posts makes
    post_made t l = elim (cases_Bool (is_zero (w.number t))) [
      | inl e ↦ let c = read (4 * t) (post (place_of n t) (w.number t)) in ap (λ x. makes S M (posts w g t) (cond x [] (c ∷ []))) e ∙ sym (ap (λ x. Ok (cond x (posts w g t) (c.call ∷ posts w g t))) e)
      | inr e ↦ let c = read (4 * t) (post (place_of n t) (w.number t)) in ap (λ x. makes S M (posts w g t) (cond x [] (c ∷ []))) e ∙ makes_one S M (posts w g t) (4 * t) c.call Done (post_decided t l e) ∙ sym (ap (λ x. Ok (cond x (posts w g t) (c.call ∷ posts w g t))) e)
    ]

    posts_made : (t : ℕ) → t ≤ at_ranges w.states w.settings → makes S M (posts w g 0) (gathered t (post_of w)) ≡ Ok (posts w g t)
    posts_made zero l = makes_none S M (post_of w) (posts w g 0)
    posts_made (suc t) l = makes_more S M (post_of w) (posts w g) t (posts_made t (omega arith)) (post_made t (omega arith))

  -- ---- the settings
  range_decided : (v : ℕ) → v < w.settings → decides S M (ranges w g v) (range (suc v) (w.number (at_ranges w.states w.settings + 2 * v)) (w.number (at_ranges w.states w.settings + 2 * v + 1))) ≡ Ok Done
  unfolding decides
  range_decided v l =
      let k = ranges w g v in
      let asked : first_no (range_questions S k (suc v) (range_of h (suc v)).low (range_of h (suc v)).high) ≡ None =
      no_after _ _ _ None (and_from _ _ (le-leb 1 (suc v) (omega arith)) (le-leb (suc v) (settings_of k) (omega (arith, ranges_settings w g v)))) (no_after _ _ _ None (q.ordered (suc v)) (no_after _ _ _ None (q.narrow (suc v)) no_none)) in
      let low = sym (range_low S h b w q v l) in
      let high = sym (range_high S h b w q v l) in
      ap (verdict fault.Figures) (subst (λ x. first_no (range_questions S k (suc v) x (w.number (at_ranges n m + 2 * v + 1))) ≡ None) low (subst (λ x. first_no (range_questions S k (suc v) (range_of h (suc v)).low x) ≡ None) high asked))

  ranges_made : (v : ℕ) → v ≤ w.settings → makes S M (ranges w g 0) (gathered v (range_at w)) ≡ Ok (ranges w g v)
  unfolding ranges
  ranges_made zero l = makes_none S M (range_at w) (ranges w g 0)
  ranges_made (suc v) l = makes_more S M (range_at w) (ranges w g) v (ranges_made v (omega arith)) (makes_one S M (ranges w g v) _ _ Done (range_decided v (omega arith)))

  -- ---- the proposal
  abbrev R : List Given
  R = ranges w g w.settings

  abbrev table : List ℤ
  table = numbers_from w (at_table w.states w.settings) (w.states * w.states)

  abbrev guesses : List ℤ
  guesses = numbers_from w (at_guesses w.states w.settings) w.states

  posed : Alike (game_of h) (game_of R) (offered h b.offer) (offer (states_of R) table guesses)
  unfolding narrows
  posed = alike S h b w q g 0

  propose_asked : first_no (propose_questions S (ranges w g w.settings) (numbers_from w (at_table w.states w.settings) (w.states * w.states)) (numbers_from w (at_guesses w.states w.settings) w.states)) ≡ None
  propose_asked = sym same_questions ∙ q.asked
    where
      asking : List ℤ → List ℤ → ℕ → List (Question prepare.Fault) → List (Question prepare.Fault) → Option prepare.Fault
      asking t s x rs is = first_no (ask (eqb (length t) (x * x) && eqb (length s) x) (Count (length t) (length s)) ∷ (table_questions S x t ++ (guess_questions S x s ++ (rs ++ is))))

      same_questions : first_no (propose_questions S h b.offer.table b.offer.guesses) ≡ first_no (propose_questions S R table guesses)
      same_questions =
          ap (λ x. asking x b.offer.guesses (states_of h) (residual_questions S (game_of h) (offered h b.offer)) (iteration_questions S (game_of h) (offered h b.offer))) (table_is S h b w q)
          ∙ ap (λ x. asking table x (states_of h) (residual_questions S (game_of h) (offered h b.offer)) (iteration_questions S (game_of h) (offered h b.offer))) (guesses_are S h b w q)
          ∙ ap (λ x. asking table guesses x (residual_questions S (game_of h) (offered h b.offer)) (iteration_questions S (game_of h) (offered h b.offer))) posed.states
          ∙ ap (λ x. asking table guesses (states_of R) x (iteration_questions S (game_of h) (offered h b.offer))) (residuals_asked S _ _ _ _ posed)
          ∙ ap (λ x. asking table guesses (states_of R) (residual_questions S (game_of R) (offer (states_of R) table guesses)) x) (iterations_asked S _ _ _ _ posed (omega (arith, q.states, q.some)))

  proposal_decided : decides S M (ranges w g w.settings) (proposal_of w) ≡ Ok Done
  unfolding decides
  proposal_decided = ap (verdict fault.Proposal) propose_asked

  -- ---- the try
  abbrev tried : List ℤ
  tried = numbers_from w (at_box w.states w.settings) (2 * w.states)

  same_box : (i : ℕ) → i < states_of h → b.box i ≡ box tried i
  same_box i l = box_is S h b w q i (omega (arith, q.states, l))

  try_asked : first_no (try_questions S (game_of R) (offer (states_of R) table guesses) tried) ≡ None
  try_asked =
      let long : length tried ≡ 2 * states_of R = length_listed (2 * n) _ ∙ ap (λ z. 2 * z) (sym q.states ∙ posed.states) in
      let within_h : (i : ℕ) → i < states_of R → i < states_of h = λ i l. omega (arith, posed.states, l) in
      let ordered : first_no (order_questions (states_of R) tried) ≡ None = all_yes (states_of R) _ (λ i l. subst (λ s. le_z s.low s.high ≡ true) (same_box i (within_h i l)) (q.box_ordered i (within_h i l))) in
      let sized : first_no (size_questions S (game_of R) (offer (states_of R) table guesses) (box tried)) ≡ None = all_yes (states_of R) _ (λ i l. subst (λ s. ends_within S 100 s ≡ true) (same_box i (within_h i l)) (each_yes (states_of h) _ q.fits i (within_h i l))) in
      let accepted = accepts_of S (game_of R) (offer (states_of R) table guesses) (box tried) (accepted_alike S _ _ _ _ posed b.box (box tried) same_box q.accepted) in
      no_after _ _ _ None (eq-eqb (length tried) _ long) (later (order_questions (states_of R) tried) _ ordered ∙ later (size_questions S (game_of R) (offer (states_of R) table guesses) (box tried)) _ sized ∙ no_after _ _ _ None accepted no_none)

  trial_decided : decides S M (proposal_of w ∷ ranges w g w.settings) (trial_of w) ≡ Ok Done
  unfolding decides
  trial_decided = ap (verdict fault.Trial) try_asked

  -- ---- the narrowings
  narrow_accepted : (r : ℕ) → r < 16 → decides S M (narrows w g r) narrow ≡ Ok Done
  unfolding decides
  narrow_accepted r l = ap (narrow_decided S (narrows w g r)) (held_said w g S r) ∙ ap (verdict fault.Trial) (no_after _ _ _ None (lt-ltb r 16 l) no_none)

  narrows_made : (r : ℕ) → r ≤ w.narrowings → makes S M (narrows w g 0) (gathered r (narrow_at w)) ≡ Ok (narrows w g r)
  unfolding narrows
  narrows_made zero l = makes_none S M (narrow_at w) (narrows w g 0)
  narrows_made (suc r) l = makes_more S M (narrow_at w) (narrows w g) r (narrows_made r (omega arith)) (makes_one S M (narrows w g r) _ narrow Done (narrow_accepted r (omega (arith, l, q.few))))

  -- ---- all of them
  pub calls_made : Takes M g w → makes S M (opening w.states w.settings ∷ g) (calls_of w) ≡ Ok (narrows w g w.narrowings)
  unfolding posts ranges narrows
  calls_made takes =
      let narrowing = gathered w.narrowings (narrow_at w) in
      let trying = read (4 * at_box n m) (trial_of w) in
      let proposing = read (4 * at_table n m) (proposal_of w) in
      let setting = gathered m (range_at w) in
      makes_on S M (gathered (at_ranges n m) (post_of w)) (setting ++ (proposing ∷ (trying ∷ narrowing))) (opening n m ∷ g) (posts w g (at_ranges n m)) (posts_made takes (at_ranges n m) (omega arith))
      ∙ makes_on S M setting (proposing ∷ (trying ∷ narrowing)) (ranges w g 0) R (ranges_made m (omega arith))
      ∙ makes_on S M (proposing ∷ []) (trying ∷ narrowing) R (proposal_of w ∷ R) (makes_one S M R _ (proposal_of w) Done proposal_decided)
      ∙ makes_on S M (trying ∷ []) narrowing (proposal_of w ∷ R) (trial_of w ∷ (proposal_of w ∷ R)) (makes_one S M (proposal_of w ∷ R) _ (trial_of w) Done trial_decided)
      ∙ narrows_made w.narrowings (omega arith)
