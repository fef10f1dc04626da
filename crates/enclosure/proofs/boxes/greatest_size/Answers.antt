use Rattle.std.proofs.Common.{◌≡◌, ℕ, ◌<◌, suc, List, take, sym, ap, ◌∙◌, add-one, arith}
use Rattle.std.proofs.lemmas.List.{length-take}
use Rattle.span.specs.declared.span.Span.{Span}
use Rattle.span.specs.Spans.{ends}
use Rattle.method.specs.Method.{size}
use Rattle.system.specs.Figures.{spans}
use Rattle.prepare.proofs.Bits.{spans_at, spans_front}
use Rattle.enclosure.specs.Boxed.{greatest_size}
use Rattle.enclosure.proofs.Reach.{greatest_within}
use Rattle.enclosure.proofs.boxes.greatest_size.Goals as goal

pub loop-z-preserved : goal.loop-z-preserved
loop-z-preserved c =
    let p = c.args.prepared.now in
    let i : ℕ = c.loop-z.z-index in
    let below : i < c.states.result = omega (arith, c.loop-z-test.true, length-take c.states.result c.residual.result.now) in
    let z : ends c.z-item.result ≡ spans p.residual i = spans_at (take c.states.result c.residual.result.now) i _ _ c.loop-z-test.true c.z-item.is ∙ spans_front c.residual.result.now c.states.result i below ∙ ap (λ (xs : List Span). spans xs i) c.residual.ensures.value in
    let s : c.greater_end.result ≡ size (spans p.residual i) = c.greater_end.ensures ∙ ap size z in
    let so_far : c.loop-z.greatest ≡ greatest_size p i = c.loop-z.invariant in
    let m : c.max-greatest.result ≡ greatest_size p (suc i) = omega (arith, c.max-greatest.ensures) in
    m ∙ ap (greatest_size p) (sym (add-one i))

pub returns : goal.returns
returns c =
    let p = c.args.prepared.now in
    let e : c.loop-z.z-index ≡ p.states = omega (arith, c.states.ensures, c.loop-z-test.false, length-take c.states.result c.residual.result.now, c.residual.ensures.long, p.size.1) in
    let so_far : c.loop-z.greatest ≡ greatest_size p c.loop-z.z-index = c.loop-z.invariant in
    let m : c.loop-z.greatest ≡ greatest_size p p.states = so_far ∙ ap (greatest_size p) e in
    record { is = m; small = omega (arith, p.scale.1, greatest_within p p.states) }
