use Rattle.std.proofs.Common.{ℕ, suc, ◌+◌, ◌<◌, pos, sym, refl, ap, ◌∙◌, add-one, arith}
use Rattle.span.specs.Intervals.{Interval, point, ◌*ᵢ◌}
use Rattle.method.specs.Method as method
use Rattle.prepare.specs.Numbers.{offered}
use Rattle.prepare.specs.Proposals.{game}
use Rattle.prepare.proofs.Additions.{fits_same, plus_same, times_same, plus_more, plus_zero, zero_plus}
use Rattle.prepare.proofs.Bits.{spans_at}
use Rattle.prepare.proofs.Limits.{residual_fixed, residual_term, residual_whole}
use Rattle.prepare.proofs.proposal.Proposal.row_sums.Goals as goal

pub add_part-requires-clause-terms : goal.add_part-requires-clause-terms
add_part-requires-clause-terms g c i h = fits_same (times_same c.one_whole.ensures refl) (residual_fixed g.met.T.Scale.least g.met.T.Scale.most c.args.self.now i)

pub add_part-requires-clause-fits : goal.add_part-requires-clause-fits
add_part-requires-clause-fits g c i h = fits_same (plus_same (c.zeros-sums.ensures i) (times_same c.one_whole.ensures refl) ∙ zero_plus _) (residual_fixed g.met.T.Scale.least g.met.T.Scale.most c.args.self.now i)

pub loop-v-init : goal.loop-v-init
loop-v-init g c i h =
    let S : ℕ = g.T.Scale.unit in
    let p = c.args.self.now in
    let fixed : Interval = point (pos S) *ᵢ method.correction S (game p.system.now) (offered p) 0 i in
    c.add_part.ensures i h ∙ plus_same (c.zeros-sums.ensures i) (times_same c.one_whole.ensures refl) ∙ zero_plus fixed ∙ sym (plus_zero fixed)

pub add_part-requires-in-loop-v-clause-terms : goal.add_part-requires-in-loop-v-clause-terms
add_part-requires-in-loop-v-clause-terms g c i h =
    let p = c.args.self.now in
    let v : ℕ = c.loop-v.v in
    let below : v < p.system.now.settings = omega (arith, c.ranges-range-items.ensures.long) in
    let range = spans_at _ v _ _ c.loop-v-test.true c.range-item.is ∙ c.ranges-range-items.ensures.ranges v below in
    fits_same (times_same range (ap (λ n. method.correction g.T.Scale.unit (game p.system.now) (offered p) n i) (add-one v))) (residual_term g.met.T.Scale.least g.met.T.Scale.most p v i)

pub add_part-requires-in-loop-v-clause-fits : goal.add_part-requires-in-loop-v-clause-fits
add_part-requires-in-loop-v-clause-fits g c i h =
    let S : ℕ = g.T.Scale.unit in
    let p = c.args.self.now in
    let v : ℕ = c.loop-v.v in
    let below : v < p.system.now.settings = omega (arith, c.ranges-range-items.ensures.long) in
    let range = spans_at _ v _ _ c.loop-v-test.true c.range-item.is ∙ c.ranges-range-items.ensures.ranges v below in
    let term = times_same range (ap (λ n. method.correction S (game p.system.now) (offered p) n i) (add-one v)) in
    fits_same (plus_same (c.loop-v.invariant i h) term ∙ plus_more (point (pos S) *ᵢ method.correction S (game p.system.now) (offered p) 0 i) v (λ u. (game p.system.now).range (suc u) *ᵢ method.correction S (game p.system.now) (offered p) (suc u) i)) (residual_whole g.met.T.Scale.least g.met.T.Scale.most p i (v + 1) (omega arith))

pub loop-v-preserved : goal.loop-v-preserved
loop-v-preserved g c i h =
    let S : ℕ = g.T.Scale.unit in
    let p = c.args.self.now in
    let v : ℕ = c.loop-v.v in
    let below : v < p.system.now.settings = omega (arith, c.ranges-range-items.ensures.long) in
    let range = spans_at _ v _ _ c.loop-v-test.true c.range-item.is ∙ c.ranges-range-items.ensures.ranges v below in
    let term = times_same range (ap (λ n. method.correction S (game p.system.now) (offered p) n i) (add-one v)) in
    c.add_part-in-loop-v.ensures i h ∙ plus_same (c.loop-v.invariant i h) term ∙ plus_more (point (pos S) *ᵢ method.correction S (game p.system.now) (offered p) 0 i) v (λ u. (game p.system.now).range (suc u) *ᵢ method.correction S (game p.system.now) (offered p) (suc u) i)
