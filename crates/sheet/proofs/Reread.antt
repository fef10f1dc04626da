-- what was written, read again: it is framed, and says what is held
use Rattle.std.proofs.Common.{◌≡◌, ℕ, zero, suc, ◌+◌, ◌-◌, ◌*◌, ◌<◌, ◌≤◌, true, ◌&&◌, List, [], ◌∷◌, length, get_or, take, nat_abs, None, Ok, sym, refl, ap, ◌∙◌, subst, arith}
use lib.Signed.{le_z}
use Rattle.std.proofs.lemmas.List.{get_or-take, length-take-le}
use Rattle.std.proofs.lemmas.Bool.{and_from, le-leb}
use Rattle.span.specs.declared.span.Span.{Span}
use Rattle.span.specs.Intervals.{Interval}
use Rattle.span.specs.Questions.{within}
use Rattle.method.specs.Method.{size}
use Rattle.system.specs.Figures.{spans}
use Rattle.system.proofs.Ranges.{ends_ordered}
use Rattle.enclosure.specs.declared.enclosure.Enclosure.{Enclosure}
use Rattle.source.specs.Meaning.{Meaning}
use Rattle.law.specs.Calls.{Given}
use Rattle.law.specs.History.{Basis, holds, settings_of, states_of}
use Rattle.docket.specs.declared.desk.Desk.{Desk}
use Rattle.docket.specs.declared.desk.Stage.{Stage}
use Rattle.docket.specs.declared.desk.Stage.TheVariants.{Drafting, Prepared, Holding}
use Rattle.docket.specs.Reflects.{Holds, Reflects, Staged}
use Rattle.sheet.specs.Again.{WrittenRechecks}
use Rattle.sheet.specs.Bytes.{unsigned_at}
use Rattle.sheet.specs.Framing.{framed_sheet, k_at, m_at, n_at}
use Rattle.sheet.specs.Layout.{at_trailer, distance, sheet_length}
use Rattle.sheet.specs.Sheets.{sheet_of}
use Rattle.sheet.specs.Writing.{Writing, WrittenAs, Wrote, written_of}
use Rattle.sheet.proofs.Backing.{Backs}
use Rattle.sheet.proofs.Marks.{same_number, same_unsigned}
use Rattle.sheet.proofs.Reheld.{rechecks_held, rows_again}
use Rattle.sheet.proofs.Retold.{narrows}
use Rattle.sheet.proofs.Shaped.{Shaped, framed_by}

-- ---- spans are ordered, and ranges of a limited size within it
spans_ordered : (xs : List Span) (i : ℕ) → le_z (spans xs i).low (spans xs i).high ≡ true
spans_ordered [] i = refl
spans_ordered (x ∷ xs) zero = ends_ordered x _ _ refl
spans_ordered (x ∷ xs) (suc i) = spans_ordered xs i

size_within : (S : ℕ) (s : Interval) → size s ≤ S → (within S 1 s.low && within S 1 s.high) ≡ true
size_within S s l = and_from _ _ (le-leb (nat_abs s.low) (1 * S) (omega arith)) (le-leb (nat_abs s.high) (1 * S) (omega arith))

module _ (S : ℕ) (M : Meaning) (h : List Given) (N : Meaning) (P : Type 0) (d : Desk) (r : Reflects S M h N P d) (b : Basis) (e : Enclosure) (s : Holds S h b e)
    (before after : List ℕ) (l : ℕ) (room : sheet_length (states_of h) (settings_of h) ≤ length before) (long : l ≡ sheet_length (states_of h) (settings_of h)) (x : Wrote (sheet_of S h b) before after) where
  abbrev n : ℕ
  n = states_of h

  abbrev k : ℕ
  k = settings_of h

  abbrev bs : List ℕ
  bs = take l after

  length_is : length bs ≡ sheet_length n k
  length_is = length-take-le l after (omega (arith, room, long, x.long)) ∙ long

  byte_is : (i : ℕ) → i < sheet_length n k → get_or bs i 0 ≡ get_or after i 0
  byte_is i m = get_or-take l after i 0 (omega (arith, long, m))

  from_end : (i : ℕ) → 1 ≤ i → i ≤ 28 → get_or bs (length bs - i) 0 ≡ get_or after (sheet_length n k - i) 0
  from_end i a c = ap (λ z. get_or bs (z - i) 0) length_is ∙ byte_is (sheet_length n k - i) (omega arith)

  unsigned_is : (i : ℕ) → i + 4 ≤ sheet_length n k → unsigned_at bs i ≡ unsigned_at after i
  unsigned_is i a = same_unsigned bs after i (λ j p o. byte_is j (omega arith))

  states_read : n_at S bs ≡ n
  states_read = from_end 4 (omega arith) (omega arith) ∙ x.states

  settings_read : k_at S bs ≡ k
  settings_read = from_end 3 (omega arith) (omega arith) ∙ x.settings

  narrowings_read : m_at S bs ≡ b.narrowings
  narrowings_read = from_end 2 (omega arith) (omega arith) ∙ x.narrowings

  sized : (f : ℕ → ℕ → ℕ) → f n k ≡ f (n_at S bs) (k_at S bs)
  sized f = ap (λ z. f z k) (sym states_read) ∙ ap (f (n_at S bs)) (sym settings_read)

  few : b.narrowings ≤ 16
  few = omega (arith, s.enclosure_is.held.count, e.few)

  shape : Shaped S bs
  shape = record {
    long = omega (arith, length_is);
    scale = ap (λ z. unsigned_at bs (z - 8)) length_is ∙ unsigned_is (sheet_length n k - 8) (omega arith) ∙ x.scale;
    some = omega (arith, states_read, r.states_is, d.figures.size.0);
    states = omega (arith, states_read, r.states_is, d.figures.size.1);
    settings = omega (arith, settings_read, r.settings_is, d.figures.size.2);
    narrowings = omega (arith, narrowings_read, few);
    zero = from_end 1 (omega arith) (omega arith) ∙ x.zero;
    whole = length_is ∙ sized sheet_length;
    distances = λ i m.
        let a : length bs - 28 + 4 * i ≡ 4 * at_trailer n k + 4 * i = omega (arith, length_is) in
        ap (unsigned_at bs) a ∙ unsigned_is (4 * at_trailer n k + 4 * i) (omega arith) ∙ x.distances i m ∙ sized (λ y z. distance y z i);
  }

  backs : Backs S h b (framed_sheet S bs)
  backs = record {
    scale = refl;
    states = sym states_read;
    settings = sym settings_read;
    narrowings = sym narrowings_read;
    some = shape.some;
    states_few = shape.states;
    settings_few = shape.settings;
    few = shape.narrowings;
    numbers = λ t m.
        let a : t < at_trailer n k = omega (arith, sized at_trailer, m) in
        same_number bs after (4 * t) (λ j p o. byte_is j (omega arith)) ∙ x.numbers t a;
    limited = r.limited;
    ordered = λ v. subst (λ y. le_z y.low y.high ≡ true) (r.ranges_are v) (spans_ordered d.figures.ranges v);
    narrow = λ v. subst (λ y. (within S 1 y.low && within S 1 y.high) ≡ true) (r.ranges_are v) (size_within S (spans d.figures.ranges v) (omega (arith, d.figures.reach v, r.units_is)));
    held = s.holds_is;
    asked = s.asked_was;
    fits = s.fits_was;
    accepted = s.enclosure_is.held.accepted;
    box_ordered = λ i m. subst (λ y. le_z y.low y.high ≡ true) (s.enclosure_is.held.trial_is i m) (spans_ordered e.trial i);
  }

  read_again : WrittenRechecks S h (take l after)
  read_again = record {
    framed = framed_by S bs shape;
    rechecked = λ M' g takes. (narrows (framed_sheet S bs) g (m_at S bs), rechecks_held S h b (framed_sheet S bs) backs M' g takes, rows_again S h b (framed_sheet S bs) backs M' g);
  }

-- ---- of what a docket wrote
none_written : (S : ℕ) (h : List Given) (before after : List ℕ) (l : ℕ) (A : Type 0) → holds S h ≡ None → Writing S h before after (Ok l) → A
none_written S h before after l A e x =
    let y = (subst (λ o. WrittenAs (written_of S h o) before after (Ok l)) e x).0 in
    let z : ◌≡◌ {A = ℕ} 0 1 = cc in
    absurd (omega arith)

pub written_rechecks : (S : ℕ) (M : Meaning) (h : List Given) (N : Meaning) (P : Type 0) (d : Desk) (before after : List ℕ) (l : ℕ) → Reflects S M h N P d → Writing S h before after (Ok l) → WrittenRechecks S h (take l after)
written_rechecks S M h N P d before after l r x = at_stage d.stage r.stage_is
  where
    at_stage : (st : Stage) → Staged S h st → WrittenRechecks S h (take l after)
    at_stage Drafting s = none_written S h before after l _ s.1 x
    at_stage (Prepared p) s = none_written S h before after l _ s.2 x
    at_stage (Holding e) s =
        let y = subst (λ o. WrittenAs (written_of S h o) before after (Ok l)) s.1.holds_is x in
        read_again S M h N P d r s.0 e s.1 before after l y.0 y.1 y.2
