use Rattle.std.proofs.Common.{◌≡◌, ℕ, ◌<◌, length, take, sym, ap, ◌∙◌, arith}
use Rattle.std.proofs.lemmas.List.{length-set, length-take}
use Rattle.span.specs.Intervals.{brought}
use Rattle.span.specs.Spans.{ends}
use Rattle.method.specs.Method as method
use Rattle.prepare.specs.Numbers.{offered}
use Rattle.prepare.specs.Proposals.{game}
use Rattle.prepare.proofs.Additions.{within_as}
use Rattle.prepare.proofs.Bits.{spans_at, spans_front}
use Rattle.prepare.proofs.Filling.{limited_more}
use Rattle.prepare.proofs.Firsts.{first_at}
use Rattle.prepare.proofs.proposal.Proposal.residual.Goals as goal

pub returns-then-not-within : goal.returns-then-not-within
unfolding method.residual
returns-then-not-within g c =
    let S : ℕ = g.T.Scale.unit in
    let p = c.args.self.now in
    let row : ℕ = c.loop-row.row in
    let below : row < p.system.now.states = omega (arith, c.loop-row-test.true, length-take c.states.result c.row_sums-sums.result, c.states.ensures) in
    let sum = spans_at (take c.states.result c.row_sums-sums.result) row _ _ c.loop-row-test.true c.sum-item.is ∙ spans_front c.row_sums-sums.result c.states.result row (omega (arith, c.states.ensures)) ∙ c.row_sums-sums.ensures row below in
    let z : ends c.bring_back-z.result ≡ method.residual S (game p.system.now) (offered p) row = c.bring_back-z.ensures.value ∙ ap (brought S) sum in
    let asked = within_as 49 (c.units.ensures ∙ sym p.scaled) z c.if-not-within.ensures in
    first_at p.system.now.states row _ below c.loop-row.invariant.1.inside asked

pub loop-row-preserved : goal.loop-row-preserved
unfolding method.residual
loop-row-preserved g c =
    let S : ℕ = g.T.Scale.unit in
    let p = c.args.self.now in
    let row : ℕ = c.loop-row.row in
    let below : row < p.system.now.states = omega (arith, c.loop-row-test.true, length-take c.states.result c.row_sums-sums.result, c.states.ensures) in
    let sum = spans_at (take c.states.result c.row_sums-sums.result) row _ _ c.loop-row-test.true c.sum-item.is ∙ spans_front c.row_sums-sums.result c.states.result row (omega (arith, c.states.ensures)) ∙ c.row_sums-sums.ensures row below in
    let z : ends c.bring_back-z.result ≡ method.residual S (game p.system.now) (offered p) row = c.bring_back-z.ensures.value ∙ ap (brought S) sum in
    let asked = within_as 49 (c.units.ensures ∙ sym p.scaled) z c.if-not-within.ensures in
    let l : row < length c.loop-row.rows = omega (arith, c.loop-row.invariant.0, p.system.now.size.1) in
    (length-set c.loop-row.rows row _ ∙ c.loop-row.invariant.0, limited_more S 49 row _ c.loop-row.rows c.bring_back-z.result l c.loop-row.invariant.1 z asked)
