-- what an opening, a post or a range setting leaves reflects the calls that count
use Rattle.std.proofs.Common.{◌≡◌, ℕ, ◌*◌, Bool, true, false, eqb, leb, List, [], ◌∷◌, ℤ, pos, ◌+ℤ◌, nat_abs, Some, None, Ok, Err, sym, refl, ap, ◌∙◌, subst, inl, inr, arith}
use Rattle.std.proofs.lemmas.Bool.{cases_Bool, cases_eq, cond-false, cond-true, eq-eqb, le-leb, ne_eqb}
use Rattle.span.specs.Questions.{first_no, within}
use Rattle.system.specs.declared.fault.Fault as system
use Rattle.system.specs.declared.fault.Fault.TheVariants.{Outside, SumTooLarge}
use Rattle.system.specs.declared.system.System.{System}
use Rattle.system.specs.Figures.{spans}
use Rattle.system.specs.Posts as posts
use Rattle.system.specs.Posts.{Fresh, RangeSet, opening_questions}
use Rattle.span.proofs.Verdicts.{no_after, no_here, no_none}
use Rattle.source.specs.declared.place.Place.{Place}
use Rattle.source.specs.Faults.{spot_of}
use Rattle.source.specs.Meaning.{Meaning, Posting, emptied, post_questions, same, taken, told}
use Rattle.source.specs.declared.fault.Fault as source
use Rattle.law.specs.declared.answer.Answer.TheVariants.{Done}
use Rattle.law.specs.declared.fault.Fault.{Fault}
use Rattle.law.specs.declared.fault.Fault.TheVariants as fault
use Rattle.law.specs.Calls.{Given}
use Rattle.law.specs.Calls.Given.{opening, post, range}
use Rattle.law.specs.History.{posted, range_of, settings_of, source_of, states_of}
use Rattle.law.specs.Decides.{decides, has_place, place_questions, range_questions, unless, verdict, wholes}
use Rattle.source.proofs.Places.{same_true}
use Rattle.law.proofs.Places.{told_posted}
use Rattle.docket.specs.declared.desk.Desk.{Desk}
use Rattle.docket.specs.Reflects.{Reflects, Replied, drafting}

-- nothing is within every limit
zero_within : (S : ℕ) (p : Place) → within S (wholes p) (pos 0) ≡ true
zero_within S p = le-leb 0 (wholes p * S) (omega arith)

pub begins : (S : ℕ) (M N : Meaning) (P : Type 0) (s : System) → Fresh S 1 0 s → N ≡ emptied M → P → Reflects S M [] N P (drafting s)
begins S M N P s f e p = record {
  source_is = e;
  sound = p;
  units_is = f.units;
  states_is = f.states;
  settings_is = f.settings;
  matrix_is = f.matrix;
  payouts_is = f.payouts;
  ranges_are = f.ranges;
  limited = zero_within S;
  stage_is = (refl, refl);
}

module _ (S : ℕ) (M : Meaning) (h : List Given) (N : Meaning) (P : Type 0) (d : Desk) (q : Reflects S M h N P d) where
  -- a call turned down counts for nothing
  pub refused : (c : Given) (f : Fault) → decides S M h c ≡ Err f → Replied S M h c (Err f) N P d
  refused c f e = record { said = sym e; left = q }

  pub opened : (n k : ℕ) (s : System) (N' : Meaning) (P' : Type 0) → first_no (opening_questions n k) ≡ None → Fresh S n k s → N' ≡ emptied N → P' → Replied S M h (opening n k) (Ok Done) N' P' (drafting s)
  unfolding decides
  opened n k s N' P' none f e p = record {
    said = ap (verdict fault.Figures) (sym none);
    left = record {
      source_is = e ∙ ap emptied q.source_is;
      sound = p;
      units_is = f.units;
      states_is = f.states;
      settings_is = f.settings;
      matrix_is = f.matrix;
      payouts_is = f.payouts;
      ranges_are = f.ranges;
      limited = zero_within S;
      stage_is = (refl, refl);
    };
  }

  pub not_opened : (n k : ℕ) (f : system.Fault) → first_no (opening_questions n k) ≡ Some f → Replied S M h (opening n k) (Err (fault.Figures f)) N P d
  unfolding decides
  not_opened n k f e = refused (opening n k) (fault.Figures f) (ap (verdict fault.Figures) e)

  -- ---- posts
  has : (p : Place) (b : Bool) → has_place d.figures.states d.figures.settings p ≡ b → has_place (states_of h) (settings_of h) p ≡ b
  has p b e = rw (← q.states_is, ← q.settings_is) e

  -- what the source tells is what was posted
  pub told_is : (p : Place) → told N p ≡ posted h p
  told_is p = ap (λ m. told m p) q.source_is ∙ told_posted M h p

  pub outside : (p : Place) (a : ℤ) → has_place d.figures.states d.figures.settings p ≡ false → Replied S M h (post p a) (Err (fault.Figures (Outside (spot_of p)))) N P d
  unfolding decides
  outside p a e =
      let no : first_no (place_questions S h p a) ≡ Some (Outside (spot_of p)) = no_here _ _ _ (has p false e) in
      refused (post p a) _ (ap (λ o. unless fault.Figures o (verdict fault.Source (first_no (post_questions (source_of M h) p a)))) no)

  sum_is : (p : Place) (a : ℤ) (b : Bool) → leb (nat_abs (told N p +ℤ a)) (wholes p * S) ≡ b → within S (wholes p) (posted h p +ℤ a) ≡ b
  sum_is p a b e = subst (λ z. leb (nat_abs (z +ℤ a)) (wholes p * S) ≡ b) (told_is p) e

  pub too_large : (p : Place) (a : ℤ) → has_place d.figures.states d.figures.settings p ≡ true → leb (nat_abs (told N p +ℤ a)) (wholes p * S) ≡ false → Replied S M h (post p a) (Err (fault.Figures (SumTooLarge (spot_of p)))) N P d
  unfolding decides
  too_large p a e l =
      let no : first_no (place_questions S h p a) ≡ Some (SumTooLarge (spot_of p)) = no_after _ _ _ _ (has p true e) (no_here _ _ _ (sum_is p a false l)) in
      refused (post p a) _ (ap (λ o. unless fault.Figures o (verdict fault.Source (first_no (post_questions (source_of M h) p a)))) no)

  passes : (p : Place) (a : ℤ) → has_place d.figures.states d.figures.settings p ≡ true → leb (nat_abs (told N p +ℤ a)) (wholes p * S) ≡ true → first_no (place_questions S h p a) ≡ None
  passes p a e l = no_after _ _ _ _ (has p true e) (no_after _ _ _ _ (sum_is p a true l) no_none)

  still_limited : (p : Place) (a : ℤ) → within S (wholes p) (posted h p +ℤ a) ≡ true → (r : Place) → within S (wholes r) (posted (post p a ∷ h) r) ≡ true
  still_limited p a w r = elim (cases_Bool (same p r)) [
    | inl e ↦ rw (cond-true (same p r) (posted h r +ℤ a) (posted h r) e) (subst (λ t. within S (wholes t) (posted h t +ℤ a) ≡ true) (same_true p r e) w)
    | inr e ↦ rw (cond-false (same p r) (posted h r +ℤ a) (posted h r) e) (q.limited r)
  ]

  pub taken_in : (p : Place) (a : ℤ) (N' : Meaning) (P' : Type 0) → has_place d.figures.states d.figures.settings p ≡ true → leb (nat_abs (told N p +ℤ a)) (wholes p * S) ≡ true → Posting N p a (Ok tt) N' → P' → Replied S M h (post p a) (Ok Done) N' P' (drafting d.figures)
  unfolding decides
  taken_in p a N' P' e l t s =
      let yes : first_no (place_questions S h p a) ≡ None = passes p a e l in
      let took : first_no (post_questions (source_of M h) p a) ≡ None = subst (λ m. first_no (post_questions m p a) ≡ None) q.source_is t.0 in
      record {
        said = sym (ap (λ o. unless fault.Figures o (verdict fault.Source (first_no (post_questions (source_of M h) p a)))) yes ∙ ap (verdict fault.Source) took);
        left = record {
          source_is = t.1 ∙ ap (λ m. taken m p a) q.source_is;
          sound = s;
          units_is = q.units_is;
          states_is = q.states_is;
          settings_is = q.settings_is;
          matrix_is = q.matrix_is;
          payouts_is = q.payouts_is;
          ranges_are = q.ranges_are;
          limited = still_limited p a (sum_is p a true l);
          stage_is = (refl, refl);
        };
      }

  pub not_taken : (p : Place) (a : ℤ) (f : source.Fault) (N' : Meaning) (P' : Type 0) → has_place d.figures.states d.figures.settings p ≡ true → leb (nat_abs (told N p +ℤ a)) (wholes p * S) ≡ true → Posting N p a (Err f) N' → P' → Replied S M h (post p a) (Err (fault.Source f)) N' P' d
  unfolding decides
  not_taken p a f N' P' e l t s =
      let yes : first_no (place_questions S h p a) ≡ None = passes p a e l in
      let no : first_no (post_questions (source_of M h) p a) ≡ Some f = subst (λ m. first_no (post_questions m p a) ≡ Some f) q.source_is t.0 in
      record {
        said = sym (ap (λ o. unless fault.Figures o (verdict fault.Source (first_no (post_questions (source_of M h) p a)))) yes ∙ ap (verdict fault.Source) no);
        left = record {
          source_is = t.1 ∙ q.source_is;
          sound = s;
          units_is = q.units_is;
          states_is = q.states_is;
          settings_is = q.settings_is;
          matrix_is = q.matrix_is;
          payouts_is = q.payouts_is;
          ranges_are = q.ranges_are;
          limited = q.limited;
          stage_is = q.stage_is;
        };
      }

  -- ---- ranges
  asked_same : (v : ℕ) (low high : ℤ) → posts.range_questions d.figures v low high ≡ range_questions S h v low high
  asked_same v low high = rw (q.settings_is, q.units_is) refl

  pub range_set : (v : ℕ) (low high : ℤ) (s : System) → first_no (posts.range_questions d.figures v low high) ≡ None → RangeSet d.figures s v low high → Replied S M h (range v low high) (Ok Done) N P (drafting s)
  unfolding decides
  range_set v low high s none f =
      let none' : first_no (range_questions S h v low high) ≡ None = subst (λ qs. first_no qs ≡ None) (asked_same v low high) none in
      record {
        said = ap (verdict fault.Figures) (sym none');
        left = record {
          source_is = q.source_is;
          sound = q.sound;
          units_is = f.kept.units ∙ q.units_is;
          states_is = f.kept.states ∙ q.states_is;
          settings_is = f.kept.settings ∙ q.settings_is;
          matrix_is = f.matrix ∙ q.matrix_is;
          payouts_is = f.payouts ∙ q.payouts_is;
          ranges_are = λ u. elim (cases_eq u v) [
            | inl e ↦ subst (λ w. spans s.ranges w ≡ range_of (range v low high ∷ h) w) (sym e) (f.here ∙ sym (cond-true (eqb v v) _ _ (eq-eqb v v refl)))
            | inr o ↦ f.elsewhere u o ∙ q.ranges_are u ∙ sym (cond-false (eqb v u) _ (range_of h u) (ne_eqb v u (λ e. o (sym e))))
          ];
          limited = q.limited;
          stage_is = (refl, refl);
        };
      }

  pub range_refused : (v : ℕ) (low high : ℤ) (f : system.Fault) → first_no (posts.range_questions d.figures v low high) ≡ Some f → Replied S M h (range v low high) (Err (fault.Figures f)) N P d
  unfolding decides
  range_refused v low high f e =
      let e' : first_no (range_questions S h v low high) ≡ Some f = subst (λ qs. first_no qs ≡ Some f) (asked_same v low high) e in
      refused (range v low high) (fault.Figures f) (ap (verdict fault.Figures) e')
