use Rattle.std.proofs.Common.{◌≡◌, ℕ, ◌*◌, ◌/◌, ◌%◌, ◌<◌, ◌≤◌, true, length, take, Some, sym, ap, ◌∙◌, mul-le-mul, below_more, arith}
use Rattle.std.proofs.lemmas.List.{length-take}
use Rattle.span.specs.Intervals.{Interval}
use Rattle.span.specs.Questions.{ends_within}
use Rattle.span.specs.Spans.{ends}
use Rattle.method.specs.Method as method
use Rattle.prepare.specs.declared.fault.Fault.TheVariants.{IterationTooLarge}
use Rattle.prepare.specs.Numbers.{offered}
use Rattle.prepare.specs.Proposals.{game}
use Rattle.prepare.proofs.Additions.{within_as}
use Rattle.prepare.proofs.Bits.{spans_before, spans_behind}
use Rattle.prepare.proofs.Filling.{spans_more}
use Rattle.prepare.proofs.Firsts.{first_at}
use Rattle.prepare.proofs.proposal.Proposal.iteration.Goals as goal

below : (t m n : ℕ) → m ≡ n → t < m * m → t < n * n
below t m n e h = rw (← e) h

pub returns-then-not-within : goal.returns-then-not-within
returns-then-not-within g c =
    let S : ℕ = g.T.Scale.unit in
    let p = c.args.self.now in
    let s = p.system.now in
    let t : ℕ = c.loop-t.t in
    let n : c.states-n.result ≡ s.states = c.states-n.ensures in
    let few : c.states-n.result ≤ 12 = omega (arith, s.size.1) in
    let long : length (take (c.states-n.result * c.states-n.result) c.zeros-cells.result) ≡ c.states-n.result * c.states-n.result = omega (arith, mul-le-mul few few, length-take (c.states-n.result * c.states-n.result) c.zeros-cells.result) in
    let z : ends c.cell.result ≡ method.iteration S (game s) (offered p) (t / s.states) (t % s.states) = c.cell.ensures ∙ ap (λ k. method.iteration S (game s) (offered p) (t / k) (t % k)) n in
    let asked = within_as 1 (c.units.ensures ∙ sym p.scaled) z c.if-not-within.ensures in
    first_at (s.states * s.states) t _ (below t _ _ n (omega (arith, c.loop-t-test.true))) c.loop-t.invariant.1 asked ∙ ap (λ k. Some (IterationTooLarge (t / k) (t % k))) (sym n)

pub loop-t-preserved : goal.loop-t-preserved
loop-t-preserved g c =
    let S : ℕ = g.T.Scale.unit in
    let p = c.args.self.now in
    let s = p.system.now in
    let t : ℕ = c.loop-t.t in
    let n : c.states-n.result ≡ s.states = c.states-n.ensures in
    let few : c.states-n.result ≤ 12 = omega (arith, s.size.1) in
    let long : length (take (c.states-n.result * c.states-n.result) c.zeros-cells.result) ≡ c.states-n.result * c.states-n.result = omega (arith, mul-le-mul few few, length-take (c.states-n.result * c.states-n.result) c.zeros-cells.result) in
    let z : ends c.cell.result ≡ method.iteration S (game s) (offered p) (t / s.states) (t % s.states) = c.cell.ensures ∙ ap (λ k. method.iteration S (game s) (offered p) (t / k) (t % k)) n in
    let asked = within_as 1 (c.units.ensures ∙ sym p.scaled) z c.if-not-within.ensures in
    let f : ℕ → Interval = λ t. method.iteration S (game s) (offered p) (t / s.states) (t % s.states) in
    (spans_more f t c.loop-t.c-items c.cell.result (omega arith) c.loop-t.invariant.0 z, below_more (λ i. ends_within S 1 (f i) ≡ true) t c.loop-t.invariant.1 asked)

pub returns : goal.returns
returns g c =
    let p = c.args.self.now in
    let s = p.system.now in
    let n : c.states-n.result ≡ s.states = c.states-n.ensures in
    let few : c.states-n.result ≤ 12 = omega (arith, s.size.1) in
    let long : length (take (c.states-n.result * c.states-n.result) c.zeros-cells.result) ≡ c.states-n.result * c.states-n.result = omega (arith, mul-le-mul few few, length-take (c.states-n.result * c.states-n.result) c.zeros-cells.result) in
    let square : c.states-n.result * c.states-n.result ≡ s.states * s.states = ap (λ k. k * k) n in
    let items : length c.loop-t.c-items ≡ c.states-n.result * c.states-n.result = omega arith in
    let all : s.states * s.states ≤ c.loop-t.t = omega (arith, c.loop-t-test.false) in
    record {
      before = λ i h. spans_before c.loop-t.c-items _ i (omega arith) ∙ c.loop-t.invariant.0 i (omega arith);
      after = λ i h. spans_behind c.loop-t.c-items c.zeros-cells.result (c.states-n.result * c.states-n.result) i items (omega arith) ∙ c.zeros-cells.ensures i;
      inside = λ i h. c.loop-t.invariant.1 i (omega arith);
    }
