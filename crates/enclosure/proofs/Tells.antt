-- what the code found of a box, said of the method's box
use Rattle.std.proofs.Common.{◌≡◌, ℕ, zero, suc, pred, ◌<◌, ◌≤◌, true, false, ◌&&◌, List, [], ◌∷◌, ◌++◌, length, take, ℤ, ◌-ℤ◌, ◌<ℤ◌, Some, None, Option, sym, refl, ap, ◌∙◌, arith}
use lib.Signed.{lt_z}
use Rattle.std.proofs.lemmas.Int.{ints}
use Rattle.std.proofs.lemmas.List.{length-take-le}
use Rattle.std.proofs.lemmas.Bool.{and_from}
use Rattle.span.specs.declared.span.Span.{Span}
use Rattle.span.specs.Intervals.{Interval}
use Rattle.span.specs.Questions.{Question, ask, first_no, ends_within}
use Rattle.method.specs.Method.{Game, Proposal, Accepted, step, narrowed}
use Rattle.method.specs.Trials.{is_inside, accepts, worst, worse, low_end, high_end}
use Rattle.method.specs.Trials as trials
use Rattle.method.proofs.Soundness.{soundness}
use Rattle.system.specs.Figures.{spans}
use Rattle.span.proofs.Verdicts.{no_none, no_here, no_after}
use Rattle.prepare.proofs.Bits.{spans_front}
use Rattle.prepare.specs.declared.prepared.Prepared.{Prepared}
use Rattle.prepare.specs.Proposals.{PreparedFor}
use Rattle.enclosure.specs.declared.enclosure.Enclosure.{Enclosure}
use Rattle.enclosure.specs.declared.fault.Fault.{Fault}
use Rattle.enclosure.specs.declared.fault.Fault.TheVariants.{BoxTooLarge, NotAccepted}
use Rattle.enclosure.specs.declared.trial.Trial.{Trial}
use Rattle.enclosure.specs.Boxed.{Holds, next, box, count_question, order_questions, reach_questions}
use Rattle.enclosure.specs.Ends.{sided}
use Rattle.enclosure.specs.Enclosures.{Encloses, refused_at, size_questions, try_questions}
use Rattle.enclosure.proofs.Accepts.{row_inside}
use Rattle.prepare.proofs.Firsts.{later, earlier}
use Rattle.enclosure.proofs.Asked.{each_same}
use Rattle.enclosure.proofs.Meant.{next_is}
use Rattle.enclosure.proofs.Verdict.{every_same, every_true}

tested : (s t u v : Interval) → s ≡ t → u ≡ v → (lt_z s.low u.low && lt_z u.high s.high) ≡ (lt_z t.low v.low && lt_z v.high t.high)
tested s t u v e f = rw (e, f) refl

-- the questions of a box's rows alone
pub reach_front : (S n : ℕ) (y : List Span) → n ≤ length y → first_no (reach_questions S (length (take n y)) (spans (take n y))) ≡ first_no (reach_questions S n (spans y))
reach_front S n y h =
    ap (λ m. first_no (reach_questions S m (spans (take n y)))) (length-take-le n y h) ∙ ap first_no (each_same n _ _ (λ i l. ap (λ s. ask (ends_within S 100 s) (BoxTooLarge i)) (spans_front y n i l)))

-- the worst end of the same rows
abbrev low_of : ℕ → Interval → Interval → trials.End
low_of i s t = record { row = i; side = 0; over = s.low -ℤ t.low }

abbrev high_of : ℕ → Interval → Interval → trials.End
high_of i s t = record { row = i; side = 1; over = t.high -ℤ s.high }

module _ (Y X V W : ℕ → Interval) where
  low_same : (i : ℕ) → Y i ≡ X i → V i ≡ W i → low_end Y V i ≡ low_end X W i
  low_same i e f = ap (λ s. low_of i s (V i)) e ∙ ap (λ t. low_of i (X i) t) f

  high_same : (i : ℕ) → Y i ≡ X i → V i ≡ W i → high_end Y V i ≡ high_end X W i
  high_same i e f = ap (λ s. high_of i s (V i)) e ∙ ap (λ t. high_of i (X i) t) f

  worst_same : (n : ℕ) → ((i : ℕ) → i ≤ n → Y i ≡ X i) → ((i : ℕ) → i ≤ n → V i ≡ W i) → worst Y V n ≡ worst X W n
  unfolding worst
  worst_same zero e f =
      ap (λ a. worse a (high_end Y V 0)) (low_same 0 (e 0 (omega arith)) (f 0 (omega arith))) ∙ ap (worse (low_end X W 0)) (high_same 0 (e 0 (omega arith)) (f 0 (omega arith)))
  worst_same (suc n) e f =
      let l : low_end Y V (suc n) ≡ low_end X W (suc n) = low_same (suc n) (e (suc n) (omega arith)) (f (suc n) (omega arith)) in
      let h : high_end Y V (suc n) ≡ high_end X W (suc n) = high_same (suc n) (e (suc n) (omega arith)) (f (suc n) (omega arith)) in
      ap (λ a. worse (worse a (low_end Y V (suc n))) (high_end Y V (suc n))) (worst_same n (λ i k. e i (omega arith)) (λ i k. f i (omega arith)))
      ∙ ap (λ a. worse (worse (worst X W n) a) (high_end Y V (suc n))) l
      ∙ ap (worse (worse (worst X W n) (low_end X W (suc n)))) h

module _ (S : ℕ) (G : Game) (H : Proposal) (p : Prepared) (q : PreparedFor S G H p) (Y : ℕ → Interval) (y v : List Span) (hy : Holds p.states y Y) where
  pub trial_as : (i : ℕ) → i < G.states → spans y i ≡ Y i
  trial_as i l = hy.rows i (omega (arith, q.states))

  pub sizes_as : first_no (reach_questions S p.states (spans y)) ≡ first_no (size_questions S G H Y)
  sizes_as = ap (λ n. first_no (reach_questions S n (spans y))) q.states ∙ ap first_no (each_same G.states _ _ (λ i l. ap (λ s. ask (ends_within S 100 s) (BoxTooLarge i)) (trial_as i l)))

  module _ (hv : Holds p.states v (next p (spans y))) where
    pub step_as : (i : ℕ) → i < G.states → spans v i ≡ step S G H Y i
    step_as i l = hv.rows i (omega (arith, q.states)) ∙ next_is S G H p q (spans y) Y trial_as i l

    pub accepts_as : is_inside p.states (spans y) (spans v) ≡ accepts S G H Y
    accepts_as = ap (λ n. is_inside n (spans y) (spans v)) q.states ∙ every_same G.states _ _ (λ i l. tested (spans y i) (Y i) (spans v i) (step S G H Y i) (trial_as i l) (step_as i l))

    pub refused_as : NotAccepted (worst (spans y) (spans v) (pred p.states)).row (sided (worst (spans y) (spans v) (pred p.states)).side) ≡ refused_at S G H Y
    refused_as =
        ap (λ n. NotAccepted (worst (spans y) (spans v) (pred n)).row (sided (worst (spans y) (spans v) (pred n)).side)) q.states
        ∙ ap (λ e. NotAccepted e.row (sided e.side)) (worst_same (spans y) Y (spans v) (step S G H Y) (pred G.states) (λ i l. trial_as i (below i l)) (λ i l. step_as i (below i l)))
      where
        below : (i : ℕ) → i ≤ pred G.states → i < G.states
        below i l = omega (arith, p.size.0, q.states)

pub accepted_as : (S : ℕ) (G : Game) (H : Proposal) (Y : ℕ → Interval) → accepts S G H Y ≡ true → Accepted S G H Y
accepted_as S G H Y h = record {
  above = λ i l. (row_inside G.states Y (step S G H Y) h i l).0;
  below = λ i l. (row_inside G.states Y (step S G H Y) h i l).1;
}

more : (a b : ℤ) → a <ℤ b → lt_z a b ≡ true
more a b h = grind (arith, ints)

pub accepts_of : (S : ℕ) (G : Game) (H : Proposal) (Y : ℕ → Interval) → Accepted S G H Y → accepts S G H Y ≡ true
accepts_of S G H Y a = every_true G.states _ (λ i l. and_from _ _ (more (Y i).low (step S G H Y i).low (a.above i l)) (more (step S G H Y i).high (Y i).high (a.below i l)))

-- what is held of an accepted box
pub holds_accepted : (S : ℕ) (G : Game) (H : Proposal) (Y : ℕ → Interval) (e : Enclosure) → PreparedFor S G H e.prepared → Holds e.prepared.states e.trial Y → Holds e.prepared.states e.correction (next e.prepared (spans e.trial)) → e.narrowings ≡ 0 → accepts S G H Y ≡ true → Encloses S G H Y 0 e
unfolding narrowed
holds_accepted S G H Y e q hy hv z a = record {
  held = record {
    of = q;
    accepted = accepted_as S G H Y a;
    trial_is = trial_as S G H e.prepared q Y e.trial e.correction hy;
    correction_is = step_as S G H e.prepared q Y e.trial e.correction hy hv;
    trial_rest = λ i l. hy.rest i (omega (arith, q.states));
    correction_rest = λ i l. hv.rest i (omega (arith, q.states));
    count = z;
  };
  sound = λ some. soundness S some G H Y (accepted_as S G H Y a);
}

-- what an accepted trial gives
pub trial_accepted_as : (S : ℕ) (G : Game) (H : Proposal) (Y : ℕ → Interval) (t : Trial) (e : Enclosure) → e.prepared ≡ t.prepared.now → e.trial ≡ t.y → e.correction ≡ t.v → e.narrowings ≡ 0 → PreparedFor S G H t.prepared.now → Holds t.prepared.now.states t.y Y → is_inside t.prepared.now.states (spans t.y) (spans t.v) ≡ true → Encloses S G H Y 0 e
trial_accepted_as S G H Y t e ep et ev z q hy a =
    holds_accepted S G H Y e (rw ep q) (rw (ep, et) hy) (rw (ep, et, ev) t.stepped) z (sym (accepts_as S G H t.prepared.now q Y t.y t.v hy t.stepped) ∙ a)

-- the questions of a try
module _ (S : ℕ) (G : Game) (H : Proposal) (p : Prepared) (q : PreparedFor S G H p) (ys : List ℤ) where
  opened : {r : Option Fault} → first_no (count_question p.states ys ∷ order_questions p.states ys) ≡ r → first_no (count_question G.states ys ∷ order_questions G.states ys) ≡ r
  opened h = ap (λ n. first_no (count_question n ys ∷ order_questions n ys)) (sym q.states) ∙ h

  abbrev last : List (Question Fault)
  last = ask (accepts S G H (box ys)) (refused_at S G H (box ys)) ∷ []

  pub no_box : (f : Fault) → first_no (count_question p.states ys ∷ order_questions p.states ys) ≡ Some f → first_no (try_questions S G H ys) ≡ Some f
  no_box f h = earlier (count_question G.states ys ∷ order_questions G.states ys) (size_questions S G H (box ys) ++ last) f (opened h)

  module _ (y v : List Span) (hy : Holds p.states y (box ys)) (h : first_no (count_question p.states ys ∷ order_questions p.states ys) ≡ None) where
    boxed : first_no (try_questions S G H ys) ≡ first_no (size_questions S G H (box ys) ++ last)
    boxed = later (count_question G.states ys ∷ order_questions G.states ys) (size_questions S G H (box ys) ++ last) (opened h)

    pub no_size : (f : Fault) → first_no (reach_questions S p.states (spans y)) ≡ Some f → first_no (try_questions S G H ys) ≡ Some f
    no_size f k = boxed ∙ earlier (size_questions S G H (box ys)) last f (sym (sizes_as S G H p q (box ys) y v hy) ∙ k)

    module _ (hv : Holds p.states v (next p (spans y))) (k : first_no (reach_questions S p.states (spans y)) ≡ None) where
      sized : first_no (try_questions S G H ys) ≡ first_no last
      sized = boxed ∙ later (size_questions S G H (box ys)) last (sym (sizes_as S G H p q (box ys) y v hy) ∙ k)

      pub no_acceptance : is_inside p.states (spans y) (spans v) ≡ false → first_no (try_questions S G H ys) ≡ Some (NotAccepted (worst (spans y) (spans v) (pred p.states)).row (sided (worst (spans y) (spans v) (pred p.states)).side))
      no_acceptance a = sized ∙ no_here _ _ _ (sym (accepts_as S G H p q (box ys) y v hy hv) ∙ a) ∙ ap Some (sym (refused_as S G H p q (box ys) y v hy hv))

      pub all_yes : is_inside p.states (spans y) (spans v) ≡ true → first_no (try_questions S G H ys) ≡ None
      all_yes a = sized ∙ no_after _ _ _ _ (sym (accepts_as S G H p q (box ys) y v hy hv) ∙ a) no_none
