use Rattle.std.proofs.Common.{◌≡◌, ℕ, ◌<◌, ◌≤◌, List, length, replicate, take, drop, ◌++◌, ap, ◌∙◌, subst, arith, rules}
use Rattle.std.proofs.lemmas.List.{length-take, length-replicate, get_or-replicate}
use Rattle.span.specs.declared.span.Span.{Span}
use Rattle.span.specs.Spans.{ends}
use Rattle.system.specs.Figures.{spans}
use Rattle.enclosure.specs.Boxed.{Holds, about_zero, greatest_size}
use Rattle.enclosure.proofs.Rows.{holds_front, spans_read}
use Rattle.enclosure.proofs.boxes.first_box.Goals as goal

pub returns : goal.returns
returns c =
    let p = c.args.prepared.now in
    let m : ℕ = c.states.result in
    let few : m ≤ 12 = omega (arith, p.size.1, c.states.ensures) in
    let front : length (take m (replicate 12 c.default-rows.result)) ≡ m = omega (arith, length-take m (replicate 12 c.default-rows.result), length-replicate 12 c.default-rows.result) in
    let filled : c.fill.new.self ≡ replicate m c.about_zero.result = search rules in
    let z = c.about_zero.result in
    let long : length c.fill.new.self ≡ m = ap length filled ∙ length-replicate m z in
    let rows : List Span = c.fill.new.self ++ drop m (replicate 12 c.default-rows.result) in
    let held = holds_front m c.default-rows.result c.fill.new.self (λ i. about_zero (greatest_size p p.states)) c.default-rows.ensures few long (λ i h.
    let l : i < length (replicate m z) = rw length-replicate h in
    ap (λ (xs : List Span). spans xs i) filled ∙ spans_read (replicate m z) i z l ∙ ap ends (get_or-replicate m i z z h) ∙ c.about_zero.ensures ∙ ap about_zero c.greatest_size.ensures.is) in
    subst (λ k. Holds k rows (λ i. about_zero (greatest_size p p.states))) c.states.ensures held
