-- the trials of a run, one after another
use Rattle.std.proofs.Common.{◌≡◌, ℕ, zero, suc, pred, ◌+◌, ◌-◌, ◌*◌, ◌<◌, ◌≤◌, true, false, ◌&&◌, leb, ◌⊎◌, List, [], Some, None, Ok, Err, Result, sym, refl, ap, ◌∙◌, subst, inl, inr, add-one, sub-one, arith}
use native.Mathlib.Nat.{max-le}
use Rattle.std.proofs.lemmas.Bool.{and_from, and_left, and_right, le-leb, lt-leb}
use Rattle.span.specs.declared.span.Span.{Span}
use Rattle.span.specs.Intervals.{Interval}
use Rattle.span.specs.Questions.{first_no}
use Rattle.span.proofs.Integers.{lin}
use Rattle.method.specs.Method.{Game, Proposal, size, residual, greatest_of, residual_size, first_box}
use Rattle.method.specs.Trials.{boxes, accepts, grown, is_inside, worst}
use Rattle.method.proofs.Halves.{first_accepted}
use Rattle.system.specs.Figures.{spans}
use Rattle.span.proofs.Verdicts.{no_none, no_here, no_after}
use Rattle.prepare.specs.declared.prepared.Prepared.{Prepared}
use Rattle.prepare.specs.Proposals.{PreparedFor}
use Rattle.enclosure.specs.declared.enclosure.Enclosure.{Enclosure}
use Rattle.enclosure.specs.declared.fault.Fault.{Fault}
use Rattle.enclosure.specs.declared.fault.Fault.TheVariants.{NotAccepted, Trials}
use Rattle.enclosure.specs.Boxed.{Holds, next, about_zero, greatest_size, reach_questions}
use Rattle.enclosure.specs.Ends.{sided}
use Rattle.enclosure.specs.Enclosures.{Going, Found, Ran, RunAnswers, RunRefused, AtOnce, decided, trials, refused_at, run_questions, size_questions}
use Rattle.prepare.proofs.Firsts.{all_yes}
use Rattle.enclosure.proofs.Meant.{next_is}
use Rattle.enclosure.proofs.Reach.{greatest_within}
use Rattle.enclosure.proofs.Tells.{accepts_of, accepts_as, refused_as, sizes_as}
use Rattle.enclosure.proofs.Verdict.{near_enough}

module _ (S : ℕ) (G : Game) (H : Proposal) (a : ℕ) where
  pub trial_refused : (left : ℕ) (f : Fault) → first_no (size_questions S G H (boxes S G H a)) ≡ Some f → trials S G H left a ≡ Err f
  unfolding trials
  trial_refused zero f e = ap (λ o. decided o (accepts S G H (boxes S G H a)) (suc a) (Err (refused_at S G H (boxes S G H a)))) e
  trial_refused (suc left) f e = ap (λ o. decided o (accepts S G H (boxes S G H a)) (suc a) (trials S G H left (suc a))) e

  module _ (e : first_no (size_questions S G H (boxes S G H a)) ≡ None) where
    pub trial_accepted : (left : ℕ) → accepts S G H (boxes S G H a) ≡ true → trials S G H left a ≡ Ok (suc a)
    unfolding trials
    trial_accepted zero h = ap (λ o. decided o (accepts S G H (boxes S G H a)) (suc a) (Err (refused_at S G H (boxes S G H a)))) e ∙ ap (λ b. decided None b (suc a) (Err (refused_at S G H (boxes S G H a)))) h
    trial_accepted (suc left) h = ap (λ o. decided o (accepts S G H (boxes S G H a)) (suc a) (trials S G H left (suc a))) e ∙ ap (λ b. decided None b (suc a) (trials S G H left (suc a))) h

    pub trial_last : accepts S G H (boxes S G H a) ≡ false → trials S G H 0 a ≡ Err (refused_at S G H (boxes S G H a))
    unfolding trials
    trial_last h = ap (λ o. decided o (accepts S G H (boxes S G H a)) (suc a) (Err (refused_at S G H (boxes S G H a)))) e ∙ ap (λ b. decided None b (suc a) (Err (refused_at S G H (boxes S G H a)))) h

    pub trial_next : (left : ℕ) → accepts S G H (boxes S G H a) ≡ false → trials S G H (suc left) a ≡ trials S G H left (suc a)
    unfolding trials
    trial_next left h = ap (λ o. decided o (accepts S G H (boxes S G H a)) (suc a) (trials S G H left (suc a))) e ∙ ap (λ b. decided None b (suc a) (trials S G H left (suc a))) h

-- the greatest of the same sizes
greatest_same : (n : ℕ) (f g : ℕ → Interval) → ((i : ℕ) → i < n → f i ≡ g i) → greatest_of n (λ i. size (f i)) ≡ greatest_of n (λ i. size (g i))
greatest_same zero f g h = refl
greatest_same (suc n) f g h =
    let e = greatest_same n f g (λ i k. h i (omega arith)) in
    let k : size (f n) ≡ size (g n) = ap size (h n (omega arith)) in
    omega arith

pub start_size : (S : ℕ) (G : Game) (H : Proposal) (p : Prepared) → PreparedFor S G H p → greatest_size p p.states ≡ residual_size S G H
start_size S G H p q = ap (greatest_size p) q.states ∙ greatest_same G.states (spans p.residual) (residual S G H) q.residual_is

-- before the first trial
pub going_first : (S : ℕ) (G : Game) (H : Proposal) (p : Prepared) (t : ℕ) (y : List Span) → PreparedFor S G H p → 1 ≤ t → Holds p.states y (λ i. about_zero (greatest_size p p.states)) → Going S G H t 1 y
unfolding boxes
going_first S G H p t y q some h = record {
  held = record {
    long = h.long;
    rows = λ i l. h.rows i (omega (arith, q.states)) ∙ ap about_zero (start_size S G H p q);
    rest = λ i l. h.rest i (omega (arith, q.states));
  };
  left = ap (λ n. trials S G H n 0) (sym (sub-one t));
}

-- before the next
pub going_next : (S : ℕ) (G : Game) (H : Proposal) (p : Prepared) (t b : ℕ) (y v w : List Span) → PreparedFor S G H p → Going S G H t b y → 1 ≤ b → b < t → Holds p.states v (next p (spans y)) → Holds p.states w (λ i. grown (spans v i)) → first_no (size_questions S G H (boxes S G H (pred b))) ≡ None → accepts S G H (boxes S G H (pred b)) ≡ false → Going S G H t (b + 1) w
unfolding boxes
going_next S G H p t zero y v w q g some more hv hw none out = elim some [ ]
going_next S G H p t (suc b) y v w q g some more hv hw none out = rw add-one (record {
  held = record {
    long = hw.long;
    rows = λ i l. hw.rows i (omega (arith, q.states)) ∙ ap grown (hv.rows i (omega (arith, q.states)) ∙ next_is S G H p q (spans y) (boxes S G H b) g.held.rows i l);
    rest = λ i l. hw.rest i (omega (arith, q.states));
  };
  left = g.left ∙ ap (λ n. trials S G H n b) (less t b more) ∙ trial_next S G H b none (t - suc (suc b)) out;
})
  where
    less : (t b : ℕ) → suc b < t → t - suc b ≡ suc (t - suc (suc b))
    less t b h = omega arith

-- where C is small, the first trial is accepted
pub at_once_by : (S : ℕ) (G : Game) (H : Proposal) (t : ℕ) (r : Result (ℕ × Enclosure) Fault) → trials S G H (pred t) 0 ≡ Ok 1 → Found S G H t r → AtOnce S G H r
at_once_by S G H t (Ok x) e h = let k : x.0 ≡ 1 = (let m = h.0 in cc) in k
at_once_by S G H t (Err f) e h = let z : ◌≡◌ {A = ℕ} 0 1 = cc in omega arith

pub first_near : (S : ℕ) (G : Game) (H : Proposal) (p : Prepared) → PreparedFor S G H p → 0 < S → first_no (size_questions S G H (boxes S G H 0)) ≡ None
unfolding boxes
first_near S G H p q some =
    let m : residual_size S G H ≤ 49 * S = subst (λ u. residual_size S G H ≤ 49 * u) q.units (subst (λ n. n ≤ 49 * p.units) (start_size S G H p q) (greatest_within p p.states)) in
    all_yes G.states _ (λ i l. near_enough S (about_zero (residual_size S G H)) (max-le (omega (arith, lin)) (omega (arith, lin))))

pub ran : (S : ℕ) (G : Game) (H : Proposal) (p : Prepared) (t : ℕ) (r : Result (ℕ × Enclosure) Fault) → PreparedFor S G H p → 1 ≤ t → t ≤ 10 → Found S G H t r → Ran S G H t r
unfolding boxes
ran S G H p t r q one ten found = record {
  answers = answered r found;
  at_once = λ some most half low high. at_once_by S G H t r (trial_accepted S G H 0 (first_near S G H p q some) (pred t) (accepts_of S G H (first_box S G H) (first_accepted S some G H half))) found;
}
  where
    yes : first_no (run_questions S G H t) ≡ None
    yes = no_after (leb 1 t && leb t 10) (Trials t) [] None (and_from (leb 1 t) (leb t 10) (le-leb 1 t one) (le-leb t 10 ten)) no_none

    answered : (r : Result (ℕ × Enclosure) Fault) → Found S G H t r → RunAnswers S G H t r
    answered (Ok x) h = (yes, h.0, h.1)
    answered (Err f) h = subst (RunRefused S G H t f) (sym yes) h

-- the trials asked are none or too many
not_asked : (t : ℕ) → (t < 1) ⊎ ((1 ≤ t) × (10 < t)) → (leb 1 t && leb t 10) ≡ false
not_asked t h = elim h [ inl l ↦ and_left (leb 1 t) (leb t 10) (lt-leb 1 t l) | inr l ↦ and_right (leb 1 t) (leb t 10) (lt-leb t 10 l.1) ]

none_or_many : (t : ℕ) → (t < 1) ⊎ ((1 ≤ t) × (10 < t)) → 1 ≤ t → t ≤ 10 → ⊥
none_or_many t h low high = elim h [ inl l ↦ omega arith | inr l ↦ omega (arith, l.1) ]

pub ran_not : (S : ℕ) (G : Game) (H : Proposal) (t : ℕ) → (t < 1) ⊎ ((1 ≤ t) × (10 < t)) → Ran S G H t (Err (Trials t))
ran_not S G H t h = record {
  answers = subst (RunRefused S G H t (Trials t)) (sym (no_here (leb 1 t && leb t 10) (Trials t) [] (not_asked t h))) refl;
  at_once = λ some most half low high. none_or_many t h low high;
}

suc_pred : (b : ℕ) → 1 ≤ b → suc (pred b) ≡ b
suc_pred zero h = elim h [ ]
suc_pred (suc b) h = refl

-- how trial number b ends the run
module _ (S : ℕ) (G : Game) (H : Proposal) (p : Prepared) (q : PreparedFor S G H p) (t b : ℕ) (y v : List Span) (g : Going S G H t b y) where
  pub trial_held : Holds p.states y (boxes S G H (pred b))
  trial_held = subst (λ n. Holds n y (boxes S G H (pred b))) (sym q.states) g.held

  pub found_refused : (f : Fault) → first_no (reach_questions S p.states (spans y)) ≡ Some f → trials S G H (pred t) 0 ≡ Err f
  found_refused f h = g.left ∙ trial_refused S G H (pred b) (t - b) f (sym (sizes_as S G H p q (boxes S G H (pred b)) y v trial_held) ∙ h)

  module _ (h : first_no (reach_questions S p.states (spans y)) ≡ None) (hv : Holds p.states v (next p (spans y))) where
    pub sizes_none : first_no (size_questions S G H (boxes S G H (pred b))) ≡ None
    sizes_none = sym (sizes_as S G H p q (boxes S G H (pred b)) y v trial_held) ∙ h

    pub accepts_here : is_inside p.states (spans y) (spans v) ≡ accepts S G H (boxes S G H (pred b))
    accepts_here = accepts_as S G H p q (boxes S G H (pred b)) y v trial_held hv

    pub found_accepted : 1 ≤ b → is_inside p.states (spans y) (spans v) ≡ true → trials S G H (pred t) 0 ≡ Ok b
    found_accepted some a = g.left ∙ trial_accepted S G H (pred b) sizes_none (t - b) (sym accepts_here ∙ a) ∙ ap Ok (suc_pred b some)

    pub found_worst : b ≡ t → is_inside p.states (spans y) (spans v) ≡ false → trials S G H (pred t) 0 ≡ Err (NotAccepted (worst (spans y) (spans v) (pred p.states)).row (sided (worst (spans y) (spans v) (pred p.states)).side))
    found_worst e a =
        let z : t - b ≡ 0 = omega arith in
        g.left ∙ ap (λ n. trials S G H n (pred b)) z ∙ trial_last S G H (pred b) sizes_none (sym accepts_here ∙ a) ∙ ap Err (sym (refused_as S G H p q (boxes S G H (pred b)) y v trial_held hv))
