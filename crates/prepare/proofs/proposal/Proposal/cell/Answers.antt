use Rattle.std.proofs.Common.{◌≡◌, ℕ, suc, ◌+◌, ◌*◌, ◌<◌, cond, eqb, pos, sym, ap, ◌∙◌, add-one, arith}
use Rattle.span.specs.Intervals.{Interval, point, ◌*ᵢ◌, ◌-ᵢ◌, brought}
use Rattle.method.specs.Method as method
use Rattle.prepare.specs.Numbers.{offered}
use Rattle.prepare.specs.Partial.{iteration_sum}
use Rattle.prepare.specs.Proposals.{game}
use Rattle.prepare.proofs.Additions.{fits_same, minus_same, times_same, minus_more, minus_zero}
use Rattle.prepare.proofs.Bits.{spans_at}
use Rattle.prepare.proofs.Exact.{exact, fits_ok}
use Rattle.prepare.proofs.Limits.{iteration_fixed, iteration_term, iteration_difference, iteration_whole}
use Rattle.prepare.proofs.proposal.Proposal.cell.Goals as goal

pub unwrap-fixed-requires : goal.unwrap-fixed-requires
unwrap-fixed-requires g c =
    fits_ok _ _ _ c.multiply.ensures.value (fits_same (times_same c.one_whole.ensures c.product.ensures) (iteration_fixed g.met.T.Scale.least g.met.T.Scale.most c.args.self.now c.args.row c.args.column))

pub unwrap-sum-requires : goal.unwrap-sum-requires
unwrap-sum-requires g c =
    let fixed = exact _ _ _ _ c.multiply.ensures.value c.unwrap-fixed.ensures ∙ times_same c.one_whole.ensures c.product.ensures in
    fits_ok _ _ _ c.subtract.ensures.value (fits_same (minus_same c.whole.ensures fixed) (iteration_difference g.met.T.Scale.least g.met.T.Scale.most c.args.self.now c.args.row c.args.column))

pub loop-v-init : goal.loop-v-init
loop-v-init g c =
    let S : ℕ = g.T.Scale.unit in
    let p = c.args.self.now in
    let fixed = exact _ _ _ _ c.multiply.ensures.value c.unwrap-fixed.ensures ∙ times_same c.one_whole.ensures c.product.ensures in
    let start : Interval = point (cond (eqb c.args.row c.args.column) (pos (S * S)) (pos 0)) -ᵢ point (pos S) *ᵢ method.product S (game p.system.now) (offered p) 0 c.args.row c.args.column in
    exact _ _ _ _ c.subtract.ensures.value c.unwrap-sum.ensures ∙ minus_same c.whole.ensures fixed ∙ sym (minus_zero start)

pub unwrap-term-requires : goal.unwrap-term-requires
unwrap-term-requires g c =
    let p = c.args.self.now in
    let v : ℕ = c.loop-v.v in
    let below : v < p.system.now.settings = omega (arith, c.ranges-range-items.ensures.long) in
    let range = spans_at _ v _ _ c.loop-v-test.true c.range-item.is ∙ c.ranges-range-items.ensures.ranges v below in
    let product = c.product-in-loop-v.ensures ∙ ap (λ n. method.product g.T.Scale.unit (game p.system.now) (offered p) n c.args.row c.args.column) (add-one v) in
    fits_ok _ _ _ c.multiply-in-loop-v.ensures.value (fits_same (times_same range product) (iteration_term g.met.T.Scale.least g.met.T.Scale.most p v c.args.row c.args.column))

pub unwrap-sum-requires-in-loop-v : goal.unwrap-sum-requires-in-loop-v
unwrap-sum-requires-in-loop-v g c =
    let S : ℕ = g.T.Scale.unit in
    let p = c.args.self.now in
    let i : ℕ = c.args.row in
    let j : ℕ = c.args.column in
    let v : ℕ = c.loop-v.v in
    let below : v < p.system.now.settings = omega (arith, c.ranges-range-items.ensures.long) in
    let range = spans_at _ v _ _ c.loop-v-test.true c.range-item.is ∙ c.ranges-range-items.ensures.ranges v below in
    let product = c.product-in-loop-v.ensures ∙ ap (λ n. method.product S (game p.system.now) (offered p) n i j) (add-one v) in
    let term = exact _ _ _ _ c.multiply-in-loop-v.ensures.value c.unwrap-term.ensures ∙ times_same range product in
    let next = minus_same c.loop-v.invariant term ∙ minus_more (point (cond (eqb i j) (pos (S * S)) (pos 0)) -ᵢ point (pos S) *ᵢ method.product S (game p.system.now) (offered p) 0 i j) v (λ u. (game p.system.now).range (suc u) *ᵢ method.product S (game p.system.now) (offered p) (suc u) i j) in
    fits_ok _ _ _ c.subtract-in-loop-v.ensures.value (fits_same next (iteration_whole g.met.T.Scale.least g.met.T.Scale.most p i j (v + 1) (omega arith)))

pub loop-v-preserved : goal.loop-v-preserved
loop-v-preserved g c =
    let S : ℕ = g.T.Scale.unit in
    let p = c.args.self.now in
    let i : ℕ = c.args.row in
    let j : ℕ = c.args.column in
    let v : ℕ = c.loop-v.v in
    let below : v < p.system.now.settings = omega (arith, c.ranges-range-items.ensures.long) in
    let range = spans_at _ v _ _ c.loop-v-test.true c.range-item.is ∙ c.ranges-range-items.ensures.ranges v below in
    let product = c.product-in-loop-v.ensures ∙ ap (λ n. method.product S (game p.system.now) (offered p) n i j) (add-one v) in
    let term = exact _ _ _ _ c.multiply-in-loop-v.ensures.value c.unwrap-term.ensures ∙ times_same range product in
    exact _ _ _ _ c.subtract-in-loop-v.ensures.value c.unwrap-sum-in-loop-v.ensures ∙ minus_same c.loop-v.invariant term ∙ minus_more (point (cond (eqb i j) (pos (S * S)) (pos 0)) -ᵢ point (pos S) *ᵢ method.product S (game p.system.now) (offered p) 0 i j) v (λ u. (game p.system.now).range (suc u) *ᵢ method.product S (game p.system.now) (offered p) (suc u) i j)

pub returns : goal.returns
unfolding method.iteration
returns g c =
    let S : ℕ = g.T.Scale.unit in
    let p = c.args.self.now in
    let all : c.loop-v.v ≡ p.system.now.settings = omega (arith, c.ranges-range-items.ensures.long) in
    c.bring_back.ensures.value ∙ ap (brought S) (c.loop-v.invariant ∙ ap (λ m. iteration_sum S (game p.system.now) (offered p) c.args.row c.args.column m) all)
