use Rattle.std.proofs.Common.{◌+◌, ◌*◌, ◌≤◌, refl, arith}
use Rattle.std.proofs.lemmas.Bool.{le-ltb, lt-ltb}
use Rattle.span.proofs.Verdicts.{no_none, no_here, no_after}
use Rattle.system.specs.Figures.{spans}
use Rattle.enclosure.proofs.Accepts.{kept_within, kept_shrinks}
use Rattle.enclosure.proofs.Scales.{into, narrower}
use Rattle.enclosure.proofs.enclosure.Enclosure.narrow.Goals as goal

pub returns-then-self-ge16-clause-narrowed : goal.returns-then-self-ge16-clause-narrowed
returns-then-self-ge16-clause-narrowed g c G H Y m h = (no_here _ _ _ (le-ltb m 16 (omega (arith, h.count, c.if-self-ge16.true))), refl)

pub invariant_of-self : goal.invariant_of-self
invariant_of-self g c =
    let e = c.args.self.now in
    let v = c.step-self.result in
    let few : e.narrowings + 1 ≤ 16 = omega (arith, c.if-self-ge16.false) in
    record {
      few = few;
      within = kept_within e.prepared (100 * e.prepared.units) (spans e.correction) v c.step-self.ensures (into e v c.step-self.ensures) (λ i l. e.within i);
      shrinking = kept_shrinks e.prepared (100 * e.prepared.units) (spans e.correction) v c.step-self.ensures (into e v c.step-self.ensures);
    }

pub returns-clause-narrowed : goal.returns-clause-narrowed
returns-clause-narrowed g c G H Y m h = (no_after _ _ _ _ (lt-ltb m 16 (omega (arith, h.count, c.if-self-ge16.false))) no_none, narrower g.T.Scale.unit G H Y m c.args.self.now _ h c.step-self.ensures h.of (λ i. refl) refl)
