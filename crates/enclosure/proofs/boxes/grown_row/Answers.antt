use Rattle.std.proofs.Common.{◌≡◌, ◌≤ℤ◌, ◌∙◌, rules, w64, to_z, of_z}
use Rattle.span.specs.Spans.{ends}
use Rattle.method.specs.Trials.{grown}
use Rattle.enclosure.proofs.Grows.{grown_from, grown_ordered, same_ends}
use Rattle.enclosure.proofs.boxes.grown_row.Goals as goal

pub unwrap-requires : goal.unwrap-requires
unwrap-requires c =
    let q = grown_from (ends c.args.v) c.low.result c.high.result c.grown_low.result c.grown_high.result (search rules) (search rules) (search rules) (search rules) c.low.ensures c.high.ensures c.grown_low.ensures c.grown_high.ensures in
    let o : to_z w64 (of_z w64 c.grown_low.result) ≤ℤ to_z w64 (of_z w64 c.grown_high.result) = rw (q.0, q.1) (grown_ordered (ends c.args.v) c.args.v.ordered) in
    search rules

pub returns : goal.returns
returns c =
    let q = grown_from (ends c.args.v) c.low.result c.high.result c.grown_low.result c.grown_high.result (search rules) (search rules) (search rules) (search rules) c.low.ensures c.high.ensures c.grown_low.ensures c.grown_high.ensures in
    let e : ends c.unwrap.result ≡ record { low = to_z w64 (of_z w64 c.grown_low.result); high = to_z w64 (of_z w64 c.grown_high.result) } = search rules in
    e ∙ same_ends (grown (ends c.args.v)) _ _ q.0 q.1
