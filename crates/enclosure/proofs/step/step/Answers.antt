use Rattle.std.proofs.Common.{◌≡◌, ◌≤◌, List, ◌++◌, length, replicate, take, drop, ◌∙◌, subst, arith}
use Rattle.std.proofs.lemmas.List.{length-take, length-replicate}
use Rattle.span.specs.declared.span.Span.{Span}
use Rattle.system.specs.Figures.{spans}
use Rattle.prepare.proofs.Filling.{spans_more}
use Rattle.enclosure.specs.Boxed.{Holds, next}
use Rattle.enclosure.proofs.Rows.{holds_front}
use Rattle.enclosure.proofs.step.step.Goals as goal

pub loop-row-preserved : goal.loop-row-preserved
loop-row-preserved g c = spans_more _ c.loop-row.row c.loop-row.s-items c.step_row.result (omega arith) c.loop-row.invariant c.step_row.ensures

pub returns : goal.returns
returns g c =
    let p = c.args.prepared.now in
    let n : c.states.result ≡ p.states = c.states.ensures in
    let few : c.states.result ≤ 12 = omega (arith, p.size.1) in
    let front : length (take c.states.result (replicate 12 c.default-v.result)) ≡ c.states.result = omega (arith, length-take c.states.result (replicate 12 c.default-v.result), length-replicate 12 c.default-v.result) in
    let long : length c.loop-row.s-items ≡ c.states.result = c.loop-row.auto.s-items ∙ front in
    let all : c.states.result ≤ c.loop-row.row = omega (arith, c.loop-row-test.false, front) in
    let held = holds_front c.states.result c.default-v.result c.loop-row.s-items (next p (spans c.args.y.now)) c.default-v.ensures few long (λ i h. c.loop-row.invariant i (omega arith)) in
    let rows : List Span = c.loop-row.s-items ++ drop c.states.result (replicate 12 c.default-v.result) in
    subst (λ m. Holds m rows (next p (spans c.args.y.now))) n held
