use Rattle.std.proofs.Common.{ℕ, ◌<◌, refl, ◌∙◌, arith}
use Rattle.std.proofs.lemmas.List.{length-take}
use Rattle.span.specs.Intervals.{Interval, ◌+ᵢ◌, ◌*ᵢ◌}
use Rattle.span.specs.Spans.{ends}
use Rattle.method.specs.Method as method
use Rattle.system.specs.Figures.{spans}
use Rattle.system.proofs.Ranges.{spans_set_elsewhere}
use Rattle.prepare.specs.Numbers.{offered}
use Rattle.prepare.specs.Proposals.{game}
use Rattle.prepare.proofs.Additions.{fits_same, plus_same, times_same}
use Rattle.prepare.proofs.Bits.{spans_at, spans_front}
use Rattle.prepare.proofs.Exact.{exact, fits_ok}
use Rattle.prepare.proofs.Filling.{spans_more}
use Rattle.prepare.proofs.proposal.Proposal.add_part.Goals as goal

pub loop-row-init : goal.loop-row-init
loop-row-init g c = (λ i h. elim h [ ], λ i z h. spans_front c.args.sums.now c.states.result i (omega (arith, length-take c.states.result c.args.sums.now)))

pub unwrap-term-requires : goal.unwrap-term-requires
unwrap-term-requires g c =
    let S : ℕ = g.T.Scale.unit in
    let p = c.args.self.now in
    let row : ℕ = c.loop-row.row in
    let below : row < p.system.now.states = omega (arith, c.loop-row-test.true, length-take c.states.result c.args.sums.now, c.states.ensures) in
    fits_ok _ _ _ c.multiply.ensures.value (fits_same (times_same {s = ends c.args.weight} refl c.correction.ensures) (c.requires.terms row below))

pub unwrap-requires : goal.unwrap-requires
unwrap-requires g c =
    let S : ℕ = g.T.Scale.unit in
    let p = c.args.self.now in
    let row : ℕ = c.loop-row.row in
    let below : row < p.system.now.states = omega (arith, c.loop-row-test.true, length-take c.states.result c.args.sums.now, c.states.ensures) in
    let sum = spans_at c.loop-row.sum-items row _ _ (omega arith) refl ∙ c.loop-row.invariant.1 row (omega arith) (omega arith) in
    let term = exact _ _ _ _ c.multiply.ensures.value c.unwrap-term.ensures ∙ times_same {s = ends c.args.weight} refl c.correction.ensures in
    fits_ok _ _ _ c.add.ensures.value (fits_same (plus_same sum term) (c.requires.fits row below))

pub loop-row-preserved : goal.loop-row-preserved
loop-row-preserved g c =
    let S : ℕ = g.T.Scale.unit in
    let p = c.args.self.now in
    let row : ℕ = c.loop-row.row in
    let below : row < p.system.now.states = omega (arith, c.loop-row-test.true, length-take c.states.result c.args.sums.now, c.states.ensures) in
    let f : ℕ → Interval = λ i. spans c.args.sums.now i +ᵢ ends c.args.weight *ᵢ method.correction S (game p.system.now) (offered p) c.args.part i in
    let sum = spans_at c.loop-row.sum-items row _ _ (omega arith) refl ∙ c.loop-row.invariant.1 row (omega arith) (omega arith) in
    let term = exact _ _ _ _ c.multiply.ensures.value c.unwrap-term.ensures ∙ times_same {s = ends c.args.weight} refl c.correction.ensures in (
      spans_more f row c.loop-row.sum-items c.unwrap.result (omega arith) c.loop-row.invariant.0 (exact _ _ _ _ c.add.ensures.value c.unwrap.ensures ∙ plus_same sum term),
      λ i h l. spans_set_elsewhere c.loop-row.sum-items row c.unwrap.result i (omega arith) ∙ c.loop-row.invariant.1 i (omega arith) l,
    )
