-- the code's test of the scale, and a held row's size
use Rattle.std.proofs.Common.{◌≡◌, ℕ, suc, ◌+◌, ◌*◌, ◌<◌, ◌≤◌, List, get_or, ℤ, pos, ◌≤ℤ◌, sym, ap, ◌∙◌, subst, add-one, arith, w64, of_z}
use Rattle.span.specs.declared.span.Span.{Span}
use Rattle.span.specs.Intervals.{Interval, point, ◌+ᵢ◌}
use Rattle.method.specs.Method.{Game, Proposal, size, narrowed}
use Rattle.method.specs.Sound.{Inside}
use Rattle.method.proofs.Sizes.{size-+}
use Rattle.system.specs.Figures.{spans}
use Rattle.prepare.specs.Proposals.{PreparedFor}
use Rattle.enclosure.specs.declared.enclosure.Enclosure.{Enclosure}
use Rattle.enclosure.specs.Boxed.{Holds, next}
use Rattle.enclosure.specs.Enclosures.{Held, Narrower}
use Rattle.enclosure.proofs.Meant.{next_is}

pub same_scale : (x y : ℤ) (S u v : ℕ) → x ≡ pos S → y ≡ pos u → u ≡ v → of_z w64 x ≡ of_z w64 y → S ≡ v
same_scale x y S u v p q r e =
    let h : S ≡ u = sym (ap (of_z w64) p) ∙ e ∙ ap (of_z w64) q in
    h ∙ r

pub other_scale : (x y : ℤ) (S u v : ℕ) → x ≡ pos S → y ≡ pos u → u ≡ v → (of_z w64 x ≡ of_z w64 y → ⊥) → S ≡ v → ⊥
other_scale x y S u v p q r n e =
    let h : S ≡ u = e ∙ sym r in
    n (ap (of_z w64) p ∙ h ∙ sym (ap (of_z w64) q))

pub row_size : (e : Enclosure) (i : ℕ) → size (point (get_or e.prepared.guesses i (pos 0)) +ᵢ spans e.correction i) ≤ 200 * e.prepared.units
row_size e i = omega (arith, size-+ (point (get_or e.prepared.guesses i (pos 0))) (spans e.correction i), e.prepared.guessed i, e.within i)

-- one narrowing more
pub into : (e : Enclosure) (v : List Span) → Holds e.prepared.states v (next e.prepared (spans e.correction)) → (i : ℕ) → i < e.prepared.states → Inside (spans v i) (spans e.correction i)
into e v hv i l = record {
  low = subst (λ s. (spans e.correction i).low ≤ℤ s.low) (sym (hv.rows i l)) (e.shrinking i l).0;
  high = subst (λ s. s.high ≤ℤ (spans e.correction i).high) (sym (hv.rows i l)) (e.shrinking i l).1;
}

pub narrower : (S : ℕ) (G : Game) (H : Proposal) (Y : ℕ → Interval) (m : ℕ) (e f : Enclosure) → Held S G H Y m e → Holds e.prepared.states f.correction (next e.prepared (spans e.correction)) → PreparedFor S G H f.prepared → ((i : ℕ) → spans f.trial i ≡ spans e.trial i) → f.narrowings ≡ e.narrowings + 1 → Narrower S G H Y m e f
unfolding narrowed
narrower S G H Y m e f h hv q same z = record {
  held = record {
    of = q;
    accepted = h.accepted;
    trial_is = λ i l. same i ∙ h.trial_is i l;
    correction_is = λ i l. hv.rows i (omega (arith, h.of.states)) ∙ next_is S G H e.prepared h.of (spans e.correction) (narrowed S G H Y m) h.correction_is i l;
    trial_rest = λ i l. same i ∙ h.trial_rest i l;
    correction_rest = λ i l. hv.rest i (omega (arith, h.of.states));
    count = z ∙ add-one e.narrowings ∙ ap suc h.count;
  };
  inside = λ i l. into e f.correction hv i (omega (arith, h.of.states));
}
