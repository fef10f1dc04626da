use Rattle.std.proofs.Common.{◌≡◌, ◌*◌, ◌<◌, ◌≤◌, length, ap, ◌∙◌, arith, rules}
use Rattle.method.specs.Method.{size}
use Rattle.system.specs.Figures.{spans}
use Rattle.prepare.proofs.Bits.{spans_at}
use Rattle.enclosure.proofs.Asked.{each_none, each_more, each_first}
use Rattle.enclosure.proofs.Verdict.{too_far, near_enough}
use Rattle.enclosure.proofs.boxes.limited.Goals as goal

pub loop-row-init : goal.loop-row-init
loop-row-init g c = each_none _

pub returns-then-greater_end-limit : goal.returns-then-greater_end-limit
returns-then-greater_end-limit g c =
    let u : c.unsigned_abs-limit.result ≡ g.T.Scale.unit = search rules in
    let e : c.greater_end.result ≡ size (spans c.args.y.now c.loop-row.row) = c.greater_end.ensures ∙ ap size (spans_at c.args.y.now c.loop-row.row _ _ c.loop-row-test.true c.index-y-row.is) in
    let far : 100 * g.T.Scale.unit < size (spans c.args.y.now c.loop-row.row) = omega (arith, c.if-greater_end-limit.true) in
    each_first (length c.args.y.now) c.loop-row.row _ c.loop-row-test.true c.loop-row.invariant (too_far g.T.Scale.unit (spans c.args.y.now c.loop-row.row) far)

pub loop-row-preserved : goal.loop-row-preserved
loop-row-preserved g c =
    let u : c.unsigned_abs-limit.result ≡ g.T.Scale.unit = search rules in
    let e : c.greater_end.result ≡ size (spans c.args.y.now c.loop-row.row) = c.greater_end.ensures ∙ ap size (spans_at c.args.y.now c.loop-row.row _ _ c.loop-row-test.true c.index-y-row.is) in
    let near : size (spans c.args.y.now c.loop-row.row) ≤ 100 * g.T.Scale.unit = omega (arith, c.if-greater_end-limit.false) in
    each_more c.loop-row.row _ c.loop-row.invariant (near_enough g.T.Scale.unit (spans c.args.y.now c.loop-row.row) near)
