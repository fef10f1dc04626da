-- the code's tests of rows, and its worst end
use Rattle.std.proofs.Common.{◌≡◌, ℕ, zero, suc, pred, ◌+◌, ◌*◌, ◌<◌, ◌≤◌, Bool, true, false, cond, ◌&&◌, nat_abs, sym, refl, ◌∙◌, inl, inr, eq-or-lt_of_le, add-one, arith}
use native.Mathlib.Nat.{max-le}
use lib.Signed.{lt_z}
use Rattle.std.proofs.lemmas.Bool.{and_from, and_left, and_right, and_parts, le-leb, lt-leb, leb-true, cases_lt}
use Rattle.span.specs.declared.span.Span.{Span}
use Rattle.span.specs.Intervals.{Interval}
use Rattle.span.specs.Spans.{ends}
use Rattle.span.specs.Questions.{ends_within}
use Rattle.method.specs.Method.{size}
use Rattle.method.specs.Trials.{every, worst, worse, low_end, high_end}
use Rattle.method.specs.Trials as trials
use Rattle.enclosure.specs.declared.trial.judging.Overshoot.{Overshoot}
use Rattle.enclosure.specs.Ends.{overshot}

pub too_far : (S : ℕ) (s : Interval) → 100 * S < size s → ends_within S 100 s ≡ false
too_far S s h =
    elim (cases_lt (100 * S) (nat_abs s.low)) [ inl k ↦ and_left _ _ (lt-leb (nat_abs s.low) (100 * S) k) | inr k ↦ and_right _ _ (lt-leb (nat_abs s.high) (100 * S) (omega arith)) ]

pub near_enough : (S : ℕ) (s : Interval) → size s ≤ 100 * S → ends_within S 100 s ≡ true
near_enough S s h = and_from _ _ (le-leb (nat_abs s.low) (100 * S) (omega arith)) (le-leb (nat_abs s.high) (100 * S) (omega arith))

pub known_near : (S : ℕ) (s : Interval) → ends_within S 100 s ≡ true → size s ≤ 100 * S
known_near S s e =
    let p = and_parts _ _ e in
    max-le (leb-true (nat_abs s.low) (100 * S) p.0) (leb-true (nat_abs s.high) (100 * S) p.1)

pub every_none : (f : ℕ → Bool) → every 0 f ≡ true
unfolding every
every_none f = refl

pub every_more : (i : ℕ) (f : ℕ → Bool) → every i f ≡ true → f i ≡ true → every (i + 1) f ≡ true
unfolding every
every_more i f h e = rw add-one (and_from (every i f) (f i) h e)

pub every_not : (n i : ℕ) (f : ℕ → Bool) → i < n → f i ≡ false → every n f ≡ false
unfolding every
every_not zero i f l e = elim l [ ]
every_not (suc n) i f l e =
    let m : i ≤ n = omega arith in
    elim (eq-or-lt_of_le m) [ inl q ↦ rw (← q) (and_right (every i f) (f i) e) | inr k ↦ and_left (every n f) (f n) (every_not n i f k e) ]

pub every_yes : (n : ℕ) (f : ℕ → Bool) → every n f ≡ true → (i : ℕ) → i < n → f i ≡ true
unfolding every
every_yes zero f h i l = elim l [ ]
every_yes (suc n) f h i l =
    let p = and_parts (every n f) (f n) h in
    let m : i ≤ n = omega arith in
    elim (eq-or-lt_of_le m) [ inl q ↦ rw q p.1 | inr k ↦ every_yes n f p.0 i k ]

pub every_true : (n : ℕ) (f : ℕ → Bool) → ((i : ℕ) → i < n → f i ≡ true) → every n f ≡ true
unfolding every
every_true zero f h = refl
every_true (suc n) f h = and_from (every n f) (f n) (every_true n f (λ i k. h i (omega arith))) (h n (omega arith))

pub every_same : (n : ℕ) (f g : ℕ → Bool) → ((i : ℕ) → i < n → f i ≡ g i) → every n f ≡ every n g
unfolding every
every_same zero f g h = refl
every_same (suc n) f g h =
    let e : every n f ≡ every n g = every_same n f g (λ i k. h i (omega arith)) in
    let k : f n ≡ g n = h n (omega arith) in
    rw (e, k) refl

-- the worse of two ends
either : (b : Bool) (x y : trials.End) → cond b (overshot y) (overshot x) ≡ overshot (cond b y x)
either true x y = refl
either false x y = refl

pub worse_is : (a b : trials.End) (x y r : Overshoot) → x ≡ overshot a → y ≡ overshot b → r ≡ cond (lt_z x.over y.over) y x → r ≡ overshot (worse a b)
worse_is a b x y r p q e =
    let f : r ≡ cond (lt_z a.over b.over) (overshot b) (overshot a) = rw (p, q) at e in
    f ∙ either (lt_z a.over b.over) a b

pub worst_none : (Y V : ℕ → Interval) (x y r : Overshoot) → x ≡ overshot (low_end Y V 0) → y ≡ overshot (high_end Y V 0) → r ≡ cond (lt_z x.over y.over) y x → r ≡ overshot (worst Y V 0)
unfolding worst
worst_none Y V x y r p q e = worse_is (low_end Y V 0) (high_end Y V 0) x y r p q e

pub worst_more : (Y V : ℕ → Interval) (i : ℕ) → 1 ≤ i → (w x m y r : Overshoot) → w ≡ overshot (worst Y V (pred i)) → x ≡ overshot (low_end Y V i) → m ≡ cond (lt_z w.over x.over) x w → y ≡ overshot (high_end Y V i) → r ≡ cond (lt_z m.over y.over) y m → r ≡ overshot (worst Y V (pred (i + 1)))
unfolding worst
worst_more Y V zero l w x m y r p q e s f = elim l [ ]
worst_more Y V (suc i) l w x m y r p q e s f =
    rw add-one (worse_is (worse (worst Y V i) (low_end Y V (suc i))) (high_end Y V (suc i)) m y r (worse_is (worst Y V i) (low_end Y V (suc i)) w x m p q e) s f)

-- the code's test of a row
pub inside_read : (s t : Span) (y v : Interval) (b : Bool) → ends s ≡ y → ends t ≡ v → b ≡ (lt_z s.low t.low && lt_z t.high s.high) → (lt_z y.low v.low && lt_z v.high y.high) ≡ b
inside_read s t y v b p q e = rw (← p, ← q) (sym e)
