use Rattle.std.proofs.Common.{ℕ, ◌^◌, ◌<◌, ◌≤◌, take, sym, ap, ◌∙◌, subst, arith}
use Rattle.std.proofs.lemmas.List.{length-take}
use Rattle.method.specs.Method.{size}
use Rattle.method.specs.Trials.{grown}
use Rattle.system.specs.Figures.{spans}
use Rattle.prepare.proofs.Bits.{spans_at, spans_front}
use Rattle.enclosure.proofs.Accepts.{step_reaches}
use Rattle.enclosure.proofs.Rows.{holds_more}
use Rattle.enclosure.proofs.trial.Trial.grown.Goals as goal

pub grown_row-requires : goal.grown_row-requires
grown_row-requires c =
    let t = c.args.self.now in
    let p = t.prepared.now in
    let row : ℕ = c.loop-row.row in
    let below : row < p.states = omega (arith, c.loop-row-test.true, length-take c.states.result t.v, c.states.ensures) in
    let v = spans_at (take c.states.result t.v) row _ _ c.loop-row-test.true c.v-item.is ∙ spans_front t.v c.states.result row (omega (arith, c.states.ensures)) in
    let near : size (spans t.v row) ≤ 2 ^ 59 = (step_reaches p t.y t.v t.near t.stepped).within row below in
    subst (λ s. size s ≤ 2 ^ 59) (sym v) near

pub loop-row-preserved : goal.loop-row-preserved
loop-row-preserved c =
    let t = c.args.self.now in
    let p = t.prepared.now in
    let row : ℕ = c.loop-row.row in
    let below : row < p.states = omega (arith, c.loop-row-test.true, length-take c.states.result t.v, c.states.ensures) in
    let v = spans_at (take c.states.result t.v) row _ _ c.loop-row-test.true c.v-item.is ∙ spans_front t.v c.states.result row (omega (arith, c.states.ensures)) in
    let few : row < 12 = omega (arith, p.size.1) in
    holds_more row c.loop-row.rows c.grown_row.result (λ i. grown (spans t.v i)) c.loop-row.invariant few (c.grown_row.ensures ∙ ap grown v)
