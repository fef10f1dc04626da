use Rattle.std.proofs.Common.{sym, ◌∙◌, arith}
use Rattle.std.proofs.lemmas.Bool.{eq-eqb, ne_eqb}
use Rattle.prepare.proofs.Firsts.{all_yes, first_at}
use Rattle.sheet.proofs.framed.framing.distances.Goals as goal

pub returns-then-unsigned_at-distance : goal.returns-then-unsigned_at-distance
returns-then-unsigned_at-distance c =
    first_at 5 c.loop-section.section _ c.loop-section-test.true (λ s l. eq-eqb _ _ (c.loop-section.invariant s l)) (ne_eqb _ _ (λ e. c.if-unsigned_at-distance.true (c.unsigned_at.ensures ∙ e ∙ sym c.distance.ensures)))

pub returns : goal.returns
returns c = all_yes 5 _ (λ s l. eq-eqb _ _ (c.loop-section.invariant s (omega (arith, l, c.loop-section-test.false))))
