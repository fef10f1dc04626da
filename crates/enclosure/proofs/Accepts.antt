-- ranges that a step keeps inside: within the box's limits, and kept by the next step too
use Rattle.std.proofs.Common.{◌≡◌, ℕ, ◌*◌, ◌^◌, ◌<◌, ◌≤◌, true, List, ℤ, ◌≤ℤ◌, ◌<ℤ◌, None, sym, ap, subst, inl, inr, arith}
use lib.Signed.{lt_z}
use Rattle.std.proofs.lemmas.Bool.{and_parts, cases_lt}
use Rattle.span.specs.declared.span.Span.{Span}
use Rattle.span.specs.Intervals.{Interval}
use Rattle.span.specs.Questions.{first_no}
use Rattle.span.proofs.Integers.{lin}
use Rattle.method.specs.Method.{size}
use Rattle.method.specs.Sound.{Inside}
use Rattle.method.specs.Trials.{is_inside}
use Rattle.method.proofs.Narrows.{Ordered}
use Rattle.method.proofs.Sizes.{size_within, within_size}
use Rattle.system.specs.Figures.{spans, Narrow}
use Rattle.prepare.specs.declared.prepared.Prepared.{Prepared}
use Rattle.enclosure.specs.Boxed.{Holds, Reaches, next, reach_questions}
use Rattle.enclosure.specs.Stepped.{Shrinks}
use Rattle.enclosure.proofs.Asked.{each_yes}
use Rattle.enclosure.proofs.Reach.{next_size, next_ordered, next_inside}
use Rattle.enclosure.proofs.Verdict.{known_near, every_yes}

pub reached : (S n : ℕ) (y : List Span) → first_no (reach_questions S n (spans y)) ≡ None → Reaches n (100 * S) y
reached S n y h = record { within = λ i l. known_near S (spans y i) (each_yes n _ h i l) }

pub reaches_more : (n u : ℕ) (y : List Span) → u ≤ 1048576 → Reaches n (100 * u) y → Reaches n (2 ^ 59) y
reaches_more n u y m h = record { within = λ i l. omega (arith, h.within i l) }

pub step_reaches : (p : Prepared) (y v : List Span) → Reaches p.states (100 * p.units) y → Holds p.states v (next p (spans y)) → Reaches p.states (2 ^ 59) v
step_reaches p y v hy hv = record {
  within = λ i l. let e : size (spans v i) ≡ size (next p (spans y) i) = ap size (hv.rows i l) in omega (arith, p.scale.1, next_size p (spans y) hy.within i);
}

less : (a b : ℤ) → lt_z a b ≡ true → a <ℤ b
less a b e = omega (arith, lin)

pub row_inside : (n : ℕ) (Y V : ℕ → Interval) → is_inside n Y V ≡ true → (i : ℕ) → i < n → ((Y i).low <ℤ (V i).low) × ((V i).high <ℤ (Y i).high)
row_inside n Y V h i l =
    let q = and_parts (lt_z (Y i).low (V i).low) (lt_z (V i).high (Y i).high) (every_yes n _ h i l) in
    (less (Y i).low (V i).low q.0, less (V i).high (Y i).high q.1)

pub strictly : (n : ℕ) (Y V : ℕ → Interval) → is_inside n Y V ≡ true → (i : ℕ) → i < n → Inside (V i) (Y i)
strictly n Y V h i l =
    let q = row_inside n Y V h i l in
    record { low = omega (arith, lin, q.0); high = omega (arith, lin, q.1) }

inside_size : (w : ℕ) (s t : Interval) → Ordered s → Inside s t → size t ≤ w → size s ≤ w
inside_size w s t o i h =
    let b = size_within w t h in
    within_size w s (omega (arith, lin, i.low, b.2)) (omega (arith, lin, i.high, b.5, o)) (omega (arith, lin, i.low, b.2, o)) (omega (arith, lin, i.high, b.5))

module _ (p : Prepared) (w : ℕ) (X : ℕ → Interval) (v : List Span) (hv : Holds p.states v (next p X)) (into : (i : ℕ) → i < p.states → Inside (spans v i) (X i)) where
  ordered_row : (i : ℕ) → i < p.states → Ordered (spans v i)
  ordered_row i l = subst Ordered (sym (hv.rows i l)) (next_ordered p X i)

  pub kept_within : ((i : ℕ) → i < p.states → size (X i) ≤ w) → Narrow w v
  kept_within h i = elim (cases_lt i p.states) [ inl l ↦ inside_size w (spans v i) (X i) (ordered_row i l) (into i l) (h i l) | inr l ↦ rw (hv.rest i l) (omega arith) ]

  pub kept_shrinks : Shrinks p.units p.states p.residual p.iteration v
  kept_shrinks i l =
      let k : Inside (next p (spans v) i) (next p X i) = next_inside p (spans v) X ordered_row into i in
      (subst (λ s. s.low ≤ℤ (next p (spans v) i).low) (sym (hv.rows i l)) k.low, subst (λ s. (next p (spans v) i).high ≤ℤ s.high) (sym (hv.rows i l)) k.high)
