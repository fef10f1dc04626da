-- a proposal is asked of the posted equations, which is what was read from the source
use Rattle.std.proofs.Common.{◌≡◌, ℕ, zero, suc, ◌+◌, ◌*◌, ◌/◌, ◌%◌, ◌<◌, ◌≤◌, true, eqb, List, ◌∷◌, length, get_or, ℤ, pos, nat_abs, Ok, Err, sym, refl, ap, ◌∙◌, subst, inl, inr, mod-lt, div-lt_iff_lt-mul, arith}
use Rattle.std.proofs.lemmas.List.{get_or_past}
use Rattle.std.proofs.lemmas.Bool.{and_from, cases_Bool, cases_lt, cond-false, cond-true, eq-eqb, le-leb, leb-true, lt-ltb}
use Rattle.span.specs.Questions.{Question, ask, each, ends_within, first_no}
use Rattle.method.specs.Method.{Game, Proposal, iteration, residual}
use Rattle.system.specs.declared.fault.Fault as system
use Rattle.system.specs.declared.system.System.{System}
use Rattle.system.specs.Figures.{matrix_index, payout_index, spans}
use Rattle.system.specs.Posts.{Beyond, With}
use Rattle.system.specs.Posts.Beyond.{in_matrix, in_payouts}
use Rattle.span.proofs.Verdicts.{no_after}
use Rattle.prepare.specs.declared.fault.Fault as prepare
use Rattle.prepare.specs.declared.fault.Fault.TheVariants.{IterationTooLarge, OtherScale, ResidualTooLarge}
use Rattle.prepare.specs.declared.prepared.Prepared.{Prepared}
use Rattle.prepare.specs.Proposals as proposals
use Rattle.prepare.specs.Proposals.{PreparedFor, Proposed, Tabled, game, guess_questions, iteration_questions, offer, residual_questions, table_questions}
use Rattle.source.specs.declared.place.Place.{Place}
use Rattle.source.specs.declared.place.Place.TheVariants as place
use Rattle.source.specs.Meaning.{Kind, Meaning, matrix, payout, place_at, told}
use Rattle.law.specs.declared.answer.Answer.TheVariants.{Done}
use Rattle.law.specs.declared.fault.Fault.TheVariants as fault
use Rattle.law.specs.Calls.{Given}
use Rattle.law.specs.Calls.Given.{propose}
use Rattle.law.specs.History.{game_of, posted, settings_of, states_of}
use Rattle.law.specs.Decides.{decides, has_place, propose_questions, verdict, wholes}
use Rattle.law.proofs.Alike.{Alike, iteration_alike, residual_alike}
use Rattle.docket.specs.declared.desk.Desk.{Desk}
use Rattle.docket.specs.declared.desk.Stage.TheVariants.{Prepared as at_prepared}
use Rattle.docket.specs.Filling.{FilledFrom, Reads, in_order, read_at}
use Rattle.docket.specs.Reflects.{Reflects, Replied}
use Rattle.docket.proofs.Drafts.{refused, told_is}

-- ---- questions that are asked alike
each_same : {F : Type 0} (n : ℕ) (p q : ℕ → Question F) → ((i : ℕ) → i < n → p i ≡ q i) → each n p ≡ each n q
unfolding each
each_same zero p q e = refl
each_same (suc n) p q e = let a = each_same n p q (λ i l. e i (omega arith)) in let b = e n (omega arith) in cc

module _ (S : ℕ) (G K : Game) (H J : Proposal) (q : Alike G K H J) where
  residuals_alike : residual_questions S G H ≡ residual_questions S K J
  residuals_alike =
      each_same G.states (λ i. ask (ends_within S 49 (residual S G H i)) (ResidualTooLarge i)) (λ i. ask (ends_within S 49 (residual S K J i)) (ResidualTooLarge i)) (λ i l. ap (λ z. ask (ends_within S 49 z) (ResidualTooLarge i)) (residual_alike S G K H J q i l))
      ∙ ap (λ n. each n (λ i. ask (ends_within S 49 (residual S K J i)) (ResidualTooLarge i))) q.states

  iterations_alike : 0 < G.states → iteration_questions S G H ≡ iteration_questions S K J
  iterations_alike some =
      each_same (G.states * G.states) (λ t. ask (ends_within S 1 (iteration S G H (t / G.states) (t % G.states))) (IterationTooLarge (t / G.states) (t % G.states))) (λ t. ask (ends_within S 1 (iteration S K J (t / G.states) (t % G.states))) (IterationTooLarge (t / G.states) (t % G.states)))
      (λ t l. ap (λ z. ask (ends_within S 1 z) (IterationTooLarge (t / G.states) (t % G.states))) (iteration_alike S G K H J q (t / G.states) (t % G.states) ((div-lt_iff_lt-mul some).1 l) (mod-lt t some)))
      ∙ ap (λ n. each (n * n) (λ t. ask (ends_within S 1 (iteration S K J (t / n) (t % n))) (IterationTooLarge (t / n) (t % n)))) q.states

-- ---- places and their indices
matrix_place : (v i j : ℕ) → i < 12 → j < 12 → place_at matrix (matrix_index v i j) ≡ place.Matrix v i j
matrix_place v i j h k =
    let a : matrix_index v i j / 144 ≡ v = omega arith in
    let b : (matrix_index v i j / 12) % 12 ≡ i = omega arith in
    let c : matrix_index v i j % 12 ≡ j = omega arith in
    cc

payout_place : (v i : ℕ) → i < 12 → place_at payout (payout_index v i) ≡ place.Payout v i
payout_place v i h =
    let a : payout_index v i / 12 ≡ v = omega arith in
    let b : payout_index v i % 12 ≡ i = omega arith in
    cc

module _ (S : ℕ) (M : Meaning) (h : List Given) (N : Meaning) (P : Type 0) (d : Desk) (q : Reflects S M h N P d) where
  -- a number is read at the place that stands at its index
  in_place : (kind : Kind) (m : ℕ) (xs : List ℤ) → Reads d.figures N (in_order kind) m xs → (t : ℕ) → t < m → get_or xs t (pos 0) ≡ read_at d.figures N (place_at kind t)
  in_place kind m xs r t l = let p = r t l in p.2 ∙ ap (read_at d.figures N) p.1

  -- what is read at a place of the game was posted there
  read_posted : (p : Place) → has_place d.figures.states d.figures.settings p ≡ true → read_at d.figures N p ≡ posted h p
  read_posted p e = cond-true (has_place d.figures.states d.figures.settings p) (told N p) (pos 0) e ∙ told_is S M h N P d q p

  -- and is within its limit wherever it is read
  read_within : (p : Place) → nat_abs (read_at d.figures N p) ≤ wholes p * S
  read_within p = elim (cases_Bool (has_place d.figures.states d.figures.settings p)) [
    | inl e ↦ subst (λ z. nat_abs z ≤ wholes p * S) (sym (read_posted p e)) (leb-true (nat_abs (posted h p)) (wholes p * S) (q.limited p))
    | inr e ↦ subst (λ z. nat_abs z ≤ wholes p * S) (sym (cond-false (has_place d.figures.states d.figures.settings p) (told N p) (pos 0) e)) (omega arith)
  ]

  -- so no number that was read is beyond its limit
  never_beyond : (xs ys : List ℤ) → length xs ≡ 1296 → length ys ≡ 108 → Reads d.figures N (in_order matrix) 1296 xs → Reads d.figures N (in_order payout) 108 ys → (f : system.Fault) → Beyond d.figures xs ys f → ⊥
  never_beyond xs ys lm lp rm rp f (in_matrix i b) = elim (cases_lt i 1296) [
    | inl l ↦ let w : nat_abs (get_or xs i (pos 0)) ≤ 1 * S = subst (λ z. nat_abs z ≤ 1 * S) (sym (in_place matrix 1296 xs rm i l)) (read_within (place_at matrix i)) in omega (arith, b.beyond, w, q.units_is)
    | inr l ↦ let z : get_or xs i (pos 0) ≡ pos 0 = get_or_past xs i (pos 0) (omega (arith, lm, l)) in let w : nat_abs (get_or xs i (pos 0)) ≤ 0 = rw z (omega arith) in omega (arith, b.beyond, w)
  ]
  never_beyond xs ys lm lp rm rp f (in_payouts i small b) = elim (cases_lt i 108) [
    | inl l ↦ let w : nat_abs (get_or ys i (pos 0)) ≤ 100 * S = subst (λ z. nat_abs z ≤ 100 * S) (sym (in_place payout 108 ys rp i l)) (read_within (place_at payout i)) in omega (arith, b.beyond, w, q.units_is)
    | inr l ↦ let z : get_or ys i (pos 0) ≡ pos 0 = get_or_past ys i (pos 0) (omega (arith, lp, l)) in let w : nat_abs (get_or ys i (pos 0)) ≤ 0 = rw z (omega arith) in omega (arith, b.beyond, w)
  ]

  pub never_unfilled : (f : system.Fault) → FilledFrom d.figures N (Err f) → ⊥
  never_unfilled f (xs, ys, lm, lp, rm, rp, b) = never_beyond xs ys lm lp rm rp f b

  module _ (s : System) (r g : List ℤ) (xs ys : List ℤ) (rm : Reads d.figures N (in_order matrix) 1296 xs) (rp : Reads d.figures N (in_order payout) 108 ys) (w : With d.figures xs ys s) where
    n_is : s.states ≡ states_of h
    n_is = w.kept.states ∙ q.states_is

    k_is : s.settings ≡ settings_of h
    k_is = w.kept.settings ∙ q.settings_is

    has_matrix : (v i j : ℕ) → v ≤ s.settings → i < s.states → j < s.states → has_place d.figures.states d.figures.settings (place.Matrix v i j) ≡ true
    has_matrix v i j a b c = and_from _ _ (and_from _ _ (le-leb v d.figures.settings (omega (arith, a, w.kept.settings))) (lt-ltb i d.figures.states (omega (arith, b, w.kept.states)))) (lt-ltb j d.figures.states (omega (arith, c, w.kept.states)))

    has_payout : (v i : ℕ) → v ≤ s.settings → i < s.states → has_place d.figures.states d.figures.settings (place.Payout v i) ≡ true
    has_payout v i a b = and_from _ _ (le-leb v d.figures.settings (omega (arith, a, w.kept.settings))) (lt-ltb i d.figures.states (omega (arith, b, w.kept.states)))

    matrix_read : (v i j : ℕ) → v ≤ s.settings → i < s.states → j < s.states → get_or s.matrix (matrix_index v i j) (pos 0) ≡ posted h (place.Matrix v i j)
    matrix_read v i j a b c =
        let l : matrix_index v i j < 1296 = omega (arith, a, b, c, s.size.1, s.size.2) in
        ap (λ xs. get_or xs (matrix_index v i j) (pos 0)) w.matrix_is ∙ in_place matrix 1296 xs rm (matrix_index v i j) l ∙ ap (read_at d.figures N) (matrix_place v i j (omega (arith, b, s.size.1)) (omega (arith, c, s.size.1))) ∙ read_posted (place.Matrix v i j) (has_matrix v i j a b c)

    payout_read : (v i : ℕ) → v ≤ s.settings → i < s.states → get_or s.payouts (payout_index v i) (pos 0) ≡ posted h (place.Payout v i)
    payout_read v i a b =
        let l : payout_index v i < 108 = omega (arith, a, b, s.size.1, s.size.2) in
        ap (λ xs. get_or xs (payout_index v i) (pos 0)) w.payouts_is ∙ in_place payout 108 ys rp (payout_index v i) l ∙ ap (read_at d.figures N) (payout_place v i (omega (arith, b, s.size.1))) ∙ read_posted (place.Payout v i) (has_payout v i a b)

    -- the figures that were filled are the posted equations
    alike : Alike (game s) (game_of h) (offer s.states r g) (offer (states_of h) r g)
    alike = record {
      states = n_is;
      settings = k_is;
      matrix = matrix_read;
      payout = payout_read;
      range = λ v l. ap (λ xs. spans xs (suc v)) w.ranges ∙ q.ranges_are (suc v);
      table = λ i j a b. ap (λ n. get_or r (i * n + j) (pos 0)) n_is;
      guess = λ i l. refl;
    }

    asked_same : proposals.propose_questions S s r g ≡ ask (eqb S s.units) (OtherScale s.units) ∷ propose_questions S h r g
    asked_same =
        let some : 0 < s.states = s.size.0 in
        let a = residuals_alike S (game s) (game_of h) (offer s.states r g) (offer (states_of h) r g) alike in
        let b = iterations_alike S (game s) (game_of h) (offer s.states r g) (offer (states_of h) r g) alike some in
        let n = n_is in
        cc

    scale_is : eqb S s.units ≡ true
    scale_is = eq-eqb S s.units (sym (w.kept.units ∙ q.units_is))

    first_same : first_no (proposals.propose_questions S s r g) ≡ first_no (propose_questions S h r g)
    first_same = ap first_no asked_same ∙ no_after _ _ _ _ scale_is refl

    pub proposal_refused : (f : prepare.Fault) → Proposed S s r g (Err f) → Replied S M h (propose r g) (Err (fault.Proposal f)) N P d
    unfolding decides
    proposal_refused f e = refused S M h N P d q (propose r g) (fault.Proposal f) (ap (verdict fault.Proposal) (sym first_same ∙ e))

    transferred : (p : Prepared) → PreparedFor S (game s) (offer s.states r g) p → PreparedFor S (game_of h) (offer (states_of h) r g) p
    transferred p t = record {
      units = t.units;
      states = t.states ∙ n_is;
      guess = λ i l. t.guess i (subst (λ n. i < n) (sym n_is) l);
      residual_is = λ i l. let m : i < s.states = subst (λ n. i < n) (sym n_is) l in t.residual_is i m ∙ residual_alike S (game s) (game_of h) (offer s.states r g) (offer (states_of h) r g) alike i m;
      iteration_is = λ i j l m. let a : i < s.states = subst (λ n. i < n) (sym n_is) l in let b : j < s.states = subst (λ n. j < n) (sym n_is) m in ap (λ n. spans p.iteration (i * n + j)) (sym n_is) ∙ t.iteration_is i j a b ∙ iteration_alike S (game s) (game_of h) (offer s.states r g) (offer (states_of h) r g) alike i j a b;
      guess_rest = λ i l. t.guess_rest i (subst (λ n. n ≤ i) (sym n_is) l);
      residual_rest = λ i l. t.residual_rest i (subst (λ n. n ≤ i) (sym n_is) l);
      iteration_rest = λ i l. t.iteration_rest i (subst (λ n. n * n ≤ i) (sym n_is) l);
    }

    transferred_table : (p : Prepared) → Tabled s.states (offer s.states r g) p → Tabled (states_of h) (offer (states_of h) r g) p
    transferred_table p t = subst (λ n. Tabled n (offer n r g) p) n_is t

    pub proposal_accepted : (p : Prepared) → Proposed S s r g (Ok p) → Tabled s.states (offer s.states r g) p → Replied S M h (propose r g) (Ok Done) N P (record { figures = d.figures; stage = at_prepared p })
    unfolding decides
    proposal_accepted p t b = record {
      said = ap (verdict fault.Proposal) (sym t.0 ∙ first_same);
      left = record {
        source_is = q.source_is;
        sound = q.sound;
        units_is = q.units_is;
        states_is = q.states_is;
        settings_is = q.settings_is;
        matrix_is = q.matrix_is;
        payouts_is = q.payouts_is;
        ranges_are = q.ranges_are;
        limited = q.limited;
        stage_is = (record { table = r; guesses = g }, record { stands_is = refl; asked_was = sym first_same ∙ t.0; prepared_is = transferred p t.1; tabled = transferred_table p b }, refl);
      };
    }
