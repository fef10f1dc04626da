-- what a try, a run or a narrowing leaves reflects the calls that count, and what a row tells
use Rattle.std.proofs.Common.{◌≡◌, ℕ, zero, suc, pred, ◌<◌, Bool, true, false, cond, ltb, List, [], ◌∷◌, get_or, ℤ, pos, Some, None, Ok, Err, Option, Result, sym, refl, ap, ◌∙◌, subst, arith}
use Rattle.std.proofs.lemmas.Bool.{cond-false, cond-true, ltb-true}
use Rattle.span.specs.declared.span.Span.{Span}
use Rattle.span.specs.Intervals.{point, ◌+ᵢ◌}
use Rattle.span.specs.Questions.{ask, first_no}
use Rattle.system.specs.Figures.{spans}
use Rattle.method.specs.Method.{Game, Proposal}
use Rattle.method.specs.Trials.{accepts, boxes}
use Rattle.prepare.specs.declared.prepared.Prepared.{Prepared}
use Rattle.prepare.specs.Proposals.{Tabled}
use Rattle.prepare.proofs.Firsts.{first_yes}
use Rattle.enclosure.specs.declared.enclosure.Enclosure.{Enclosure}
use Rattle.enclosure.specs.declared.fault.Fault as enclosure
use Rattle.enclosure.specs.Boxed.{box, count_question, order_questions}
use Rattle.enclosure.specs.Enclosures as enclosures
use Rattle.enclosure.specs.Enclosures.{Encloses, Narrower, RunAnswers, RunRefused, Tried, decided, narrow_questions, run_questions, size_questions, trials, try_questions}
use Rattle.source.specs.Meaning.{Meaning}
use Rattle.law.proofs.Nones.{none_after, none_before, none_later}
use Rattle.law.specs.declared.answer.Answer.TheVariants.{Done, Trial}
use Rattle.law.specs.declared.fault.Fault.TheVariants as fault
use Rattle.law.specs.Calls.{Given}
use Rattle.law.specs.Calls.Given.{attempt, run, narrow}
use Rattle.law.specs.History as history
use Rattle.law.specs.History.{Basis, Offer, game_of, holds, numbered, offered, range_held, ran, stands, states_of, tried}
use Rattle.law.specs.Decides as decides
use Rattle.law.specs.Decides.{decides, narrow_decided, row_decided, run_decided, try_decided, unless, verdict}
use Rattle.docket.specs.declared.desk.Desk.{Desk}
use Rattle.docket.specs.declared.desk.Stage.TheVariants.{Holding}
use Rattle.docket.specs.Reflects.{Holds, Prepares, Reflects, Replied, Told}
use Rattle.docket.proofs.Drafts.{refused}

cond_no : {F : Type 0} (b : Bool) (f k : F) → cond b None (Some f) ≡ Some k → (b ≡ false) × (f ≡ k)
cond_no true f k e = let z : ◌≡◌ {A = ℕ} 0 1 = cc in absurd (omega arith)
cond_no false f k e = (refl, cc)

-- the one question that there is was answered no
only_no : {F : Type 0} (b : Bool) (f k : F) → first_no (ask b f ∷ []) ≡ Some k → (b ≡ false) × (f ≡ k)
unfolding first_no
only_no b f k e = cond_no b f k e

-- an accepted box passed every question before that of acceptance
tried_fits : (S : ℕ) (G : Game) (H : Proposal) (ys : List ℤ) → first_no (try_questions S G H ys) ≡ None → first_no (size_questions S G H (box ys)) ≡ None
tried_fits S G H ys e =
    let a = none_after (count_question G.states ys) _ e in
    let b = none_later (order_questions G.states ys) _ a in
    none_before (size_questions S G H (box ys)) _ b

-- and so did the one that a run found
open_decided : (x : Option enclosure.Fault) (b : Bool) (k n : ℕ) (after : Result ℕ enclosure.Fault) (P : Type 0) → decided x b k after ≡ Ok n → ((x ≡ None) → k ≡ n → P) → (after ≡ Ok n → P) → P
open_decided (Some f) b k n after P e p q = let z : ◌≡◌ {A = ℕ} 0 1 = cc in absurd (omega arith)
open_decided None true k n after P e p q = p refl cc
open_decided None false k n after P e p q = q e

found_fits : (S : ℕ) (G : Game) (H : Proposal) (left a n : ℕ) → trials S G H left a ≡ Ok n → first_no (size_questions S G H (boxes S G H (pred n))) ≡ None
unfolding trials
found_fits S G H zero a n e = open_decided (first_no (size_questions S G H (boxes S G H a))) (accepts S G H (boxes S G H a)) (suc a) n _ _ e (λ x k. subst (λ m. first_no (size_questions S G H (boxes S G H (pred m))) ≡ None) k x) (λ k. let z : ◌≡◌ {A = ℕ} 0 1 = cc in absurd (omega arith))
found_fits S G H (suc left) a n e = open_decided (first_no (size_questions S G H (boxes S G H a))) (accepts S G H (boxes S G H a)) (suc a) n _ _ e (λ x k. subst (λ m. first_no (size_questions S G H (boxes S G H (pred m))) ≡ None) k x) (λ k. found_fits S G H left (suc a) n k)

module _ (S : ℕ) (M : Meaning) (h : List Given) (N : Meaning) (P : Type 0) (d : Desk) (q : Reflects S M h N P d) where
  module _ (o : Offer) (p : Prepared) (s : Prepares S h o p) where
    pub try_refused : (ys : List ℤ) (f : enclosure.Fault) → Tried S (game_of h) (offered h o) ys (Err f) → Replied S M h (attempt ys) (Err (fault.Trial f)) N P d
    unfolding decides
    try_refused ys f t = refused S M h N P d q (attempt ys) (fault.Trial f) (ap (λ x. try_decided S h x ys) s.stands_is ∙ ap (verdict fault.Trial) t)

    pub try_accepted : (ys : List ℤ) (e : Enclosure) → e.prepared ≡ p → Tried S (game_of h) (offered h o) ys (Ok e) → Replied S M h (attempt ys) (Ok Done) N P (record { figures = d.figures; stage = Holding e })
    unfolding decides
    try_accepted ys e k t = record {
      said = sym (ap (λ x. try_decided S h x ys) s.stands_is ∙ ap (verdict fault.Trial) t.0);
      left = record {
        source_is = q.source_is;
        sound = q.sound;
        units_is = q.units_is;
        states_is = q.states_is;
        settings_is = q.settings_is;
        matrix_is = q.matrix_is;
        payouts_is = q.payouts_is;
        ranges_are = q.ranges_are;
        limited = q.limited;
        stage_is = (
          record { offer = o; box = box ys; narrowings = 0 },
          record {
            stands_is = s.stands_is;
            asked_was = s.asked_was;
            holds_is = ap (λ x. tried x ys) s.stands_is;
            fits_was = tried_fits S (game_of h) (offered h o) ys t.0;
            enclosure_is = t.1;
            tabled = subst (Tabled (states_of h) (offered h o)) (sym k) s.tabled;
          },
        );
      };
    }

    run_no : (t : ℕ) (f : enclosure.Fault) (x : Option enclosure.Fault) → RunRefused S (game_of h) (offered h o) t f x → unless fault.Trial x (decides.numbered (trials S (game_of h) (offered h o) (pred t) 0)) ≡ Err (fault.Trial f)
    run_no t f (Some y) e = ap (λ z. Err (fault.Trial z)) (sym e)
    run_no t f None e = ap decides.numbered e

    pub run_refused : (t : ℕ) (f : enclosure.Fault) → RunAnswers S (game_of h) (offered h o) t (Err f) → Replied S M h (run t) (Err (fault.Trial f)) N P d
    unfolding decides
    run_refused t f a = refused S M h N P d q (run t) (fault.Trial f) (ap (λ x. run_decided S h x t) s.stands_is ∙ run_no t f (first_no (run_questions S (game_of h) (offered h o) t)) a)

    pub run_accepted : (t a : ℕ) (e : Enclosure) → e.prepared ≡ p → RunAnswers S (game_of h) (offered h o) t (Ok (a, e)) → Replied S M h (run t) (Ok (Trial a)) N P (record { figures = d.figures; stage = Holding e })
    unfolding decides
    run_accepted t a e k r = record {
      said = sym (ap (λ x. run_decided S h x t) s.stands_is ∙ ap (λ x. unless fault.Trial x (decides.numbered (trials S (game_of h) (offered h o) (pred t) 0))) r.0 ∙ ap decides.numbered r.1);
      left = record {
        source_is = q.source_is;
        sound = q.sound;
        units_is = q.units_is;
        states_is = q.states_is;
        settings_is = q.settings_is;
        matrix_is = q.matrix_is;
        payouts_is = q.payouts_is;
        ranges_are = q.ranges_are;
        limited = q.limited;
        stage_is = (
          record { offer = o; box = boxes S (game_of h) (offered h o) (pred a); narrowings = 0 },
          record {
            stands_is = s.stands_is;
            asked_was = s.asked_was;
            fits_was = found_fits S (game_of h) (offered h o) (pred t) 0 a r.1;
            holds_is = ap (λ x. ran S h x t) s.stands_is ∙ ap (numbered o (boxes S (game_of h) (offered h o))) r.1;
            enclosure_is = r.2;
            tabled = subst (Tabled (states_of h) (offered h o)) (sym k) s.tabled;
          },
        );
      };
    }

  module _ (b : Basis) (e : Enclosure) (s : Holds S h b e) where
    pub narrow_refused : (f : enclosure.Fault) → first_no (narrow_questions S (game_of h) (offered h b.offer) b.box b.narrowings) ≡ Some f → Replied S M h narrow (Err (fault.Trial f)) N P d
    unfolding decides
    narrow_refused f t = refused S M h N P d q narrow (fault.Trial f) (ap (narrow_decided S h) s.holds_is ∙ ap (verdict fault.Trial) t)

    pub narrow_accepted : (e' : Enclosure) → e'.prepared ≡ e.prepared → first_no (narrow_questions S (game_of h) (offered h b.offer) b.box b.narrowings) ≡ None → Narrower S (game_of h) (offered h b.offer) b.box b.narrowings e e' → Replied S M h narrow (Ok Done) N P (record { figures = d.figures; stage = Holding e' })
    unfolding decides
    narrow_accepted e' k none t = record {
      said = sym (ap (narrow_decided S h) s.holds_is ∙ ap (verdict fault.Trial) none);
      left = record {
        source_is = q.source_is;
        sound = q.sound;
        units_is = q.units_is;
        states_is = q.states_is;
        settings_is = q.settings_is;
        matrix_is = q.matrix_is;
        payouts_is = q.payouts_is;
        ranges_are = q.ranges_are;
        limited = q.limited;
        stage_is = (
          record { offer = b.offer; box = b.box; narrowings = suc b.narrowings },
          record {
            stands_is = s.stands_is;
            asked_was = s.asked_was;
            fits_was = s.fits_was;
            holds_is = ap history.narrower s.holds_is;
            enclosure_is = record { held = t.held; sound = s.enclosure_is.sound };
            tabled = subst (Tabled (states_of h) (offered h b.offer)) (sym k) s.tabled;
          },
        );
      };
    }

    row_is : (i : ℕ) → i < states_of h → point (get_or e.prepared.guesses i (pos 0)) +ᵢ spans e.correction i ≡ range_held S h b i
    row_is i l =
        let a = s.enclosure_is.held.of.guess i l in
        let v = s.enclosure_is.held.correction_is i l in
        cc

    pub row_told : (i : ℕ) (r : Span) → enclosures.Told e i (Ok r) → Told S h i (Ok r)
    row_told i r t =
        let y : ltb i (states_of h) ≡ true = subst (λ n. ltb i n ≡ true) s.enclosure_is.held.of.states (first_yes _ _ _ t.0) in
        ap Ok (t.1.range ∙ row_is i (ltb-true i (states_of h) y)) ∙ sym (cond-true (ltb i (states_of h)) _ _ y) ∙ sym (ap (λ x. row_decided S h x i) s.holds_is)

    pub row_outside : (i : ℕ) (f : enclosure.Fault) → enclosures.Told e i (Err f) → Told S h i (Err (fault.Trial f))
    row_outside i f t =
        let n = only_no _ _ f t in
        let y : ltb i (states_of h) ≡ false = subst (λ n. ltb i n ≡ false) s.enclosure_is.held.of.states n.0 in
        ap (λ z. Err (fault.Trial z)) (sym n.1) ∙ sym (cond-false (ltb i (states_of h)) _ _ y) ∙ sym (ap (λ x. row_decided S h x i) s.holds_is)
