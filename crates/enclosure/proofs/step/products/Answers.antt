use Rattle.std.proofs.Common.{◌≡◌, ℕ, ◌+◌, ◌*◌, ◌<◌, ◌≤◌, List, length, take, ap, ◌∙◌, mul-le-mul, arith}
use Rattle.std.proofs.lemmas.List.{length-take}
use Rattle.std.proofs.lemmas.Nat.{mul-add-lt}
use Rattle.span.specs.declared.span.Span.{Span}
use Rattle.span.specs.Intervals.{Interval, ◌*ᵢ◌}
use Rattle.system.specs.Figures.{spans}
use Rattle.prepare.proofs.Additions.{fits_same, plus_same, times_same, sum_more}
use Rattle.prepare.proofs.Bits.{spans_at, spans_front}
use Rattle.prepare.proofs.Exact.{exact, fits_ok}
use Rattle.enclosure.proofs.Reach.{term_fits, sum_fits}
use Rattle.enclosure.proofs.step.products.Goals as goal

pub unwrap-term-requires : goal.unwrap-term-requires
unwrap-term-requires c =
    let p = c.args.prepared.now in
    let row : ℕ = c.args.row in
    let j : ℕ = c.loop-j.j in
    let n : c.states-n.result ≡ p.states = c.states-n.ensures in
    let few : p.states ≤ 12 = p.size.1 in
    let below : j < p.states = omega (arith, c.loop-j-test.true, length-take c.states-n.result c.args.y.now) in
    let there : row * c.states-n.result + j < length c.iteration.result.now = omega (arith, mul-add-lt row p.states j p.states c.requires.below below, mul-le-mul few few, c.iteration.ensures.long, ap (λ k. row * k) n) in
    let coefficient = spans_at c.iteration.result.now (row * c.states-n.result + j) _ _ there c.index-iteration-row.is ∙ ap (λ (xs : List Span). spans xs (row * c.states-n.result + j)) c.iteration.ensures.value ∙ ap (λ k. spans p.iteration (row * k + j)) n in
    let y = spans_at (take c.states-n.result c.args.y.now) j _ _ c.loop-j-test.true c.s-item.is ∙ spans_front c.args.y.now c.states-n.result j (omega arith) in
    let product = times_same coefficient y in
    fits_ok _ _ _ c.multiply.ensures.value (fits_same product (term_fits p (spans c.args.y.now) c.requires.near.within row j below))

pub unwrap-sum-requires : goal.unwrap-sum-requires
unwrap-sum-requires c =
    let p = c.args.prepared.now in
    let row : ℕ = c.args.row in
    let j : ℕ = c.loop-j.j in
    let n : c.states-n.result ≡ p.states = c.states-n.ensures in
    let few : p.states ≤ 12 = p.size.1 in
    let below : j < p.states = omega (arith, c.loop-j-test.true, length-take c.states-n.result c.args.y.now) in
    let there : row * c.states-n.result + j < length c.iteration.result.now = omega (arith, mul-add-lt row p.states j p.states c.requires.below below, mul-le-mul few few, c.iteration.ensures.long, ap (λ k. row * k) n) in
    let coefficient = spans_at c.iteration.result.now (row * c.states-n.result + j) _ _ there c.index-iteration-row.is ∙ ap (λ (xs : List Span). spans xs (row * c.states-n.result + j)) c.iteration.ensures.value ∙ ap (λ k. spans p.iteration (row * k + j)) n in
    let y = spans_at (take c.states-n.result c.args.y.now) j _ _ c.loop-j-test.true c.s-item.is ∙ spans_front c.args.y.now c.states-n.result j (omega arith) in
    let product = times_same coefficient y in
    let f : ℕ → Interval = λ j. spans p.iteration (row * p.states + j) *ᵢ spans c.args.y.now j in
    let term = exact _ _ _ _ c.multiply.ensures.value c.unwrap-term.ensures ∙ product in
    fits_ok _ _ _ c.add.ensures.value (fits_same (plus_same c.loop-j.invariant term ∙ sum_more j f) (sum_fits p (spans c.args.y.now) c.requires.near.within row (j + 1) (omega arith)))

pub loop-j-preserved : goal.loop-j-preserved
loop-j-preserved c =
    let p = c.args.prepared.now in
    let row : ℕ = c.args.row in
    let j : ℕ = c.loop-j.j in
    let n : c.states-n.result ≡ p.states = c.states-n.ensures in
    let few : p.states ≤ 12 = p.size.1 in
    let below : j < p.states = omega (arith, c.loop-j-test.true, length-take c.states-n.result c.args.y.now) in
    let there : row * c.states-n.result + j < length c.iteration.result.now = omega (arith, mul-add-lt row p.states j p.states c.requires.below below, mul-le-mul few few, c.iteration.ensures.long, ap (λ k. row * k) n) in
    let coefficient = spans_at c.iteration.result.now (row * c.states-n.result + j) _ _ there c.index-iteration-row.is ∙ ap (λ (xs : List Span). spans xs (row * c.states-n.result + j)) c.iteration.ensures.value ∙ ap (λ k. spans p.iteration (row * k + j)) n in
    let y = spans_at (take c.states-n.result c.args.y.now) j _ _ c.loop-j-test.true c.s-item.is ∙ spans_front c.args.y.now c.states-n.result j (omega arith) in
    let product = times_same coefficient y in
    let f : ℕ → Interval = λ j. spans p.iteration (row * p.states + j) *ᵢ spans c.args.y.now j in
    let term = exact _ _ _ _ c.multiply.ensures.value c.unwrap-term.ensures ∙ product in
    exact _ _ _ _ c.add.ensures.value c.unwrap-sum.ensures ∙ plus_same c.loop-j.invariant term ∙ sum_more j f
