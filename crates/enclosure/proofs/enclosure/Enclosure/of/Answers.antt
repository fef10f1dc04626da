use Rattle.std.proofs.Common.{◌*◌, ◌≤◌, arith}
use Rattle.system.specs.Figures.{spans}
use Rattle.enclosure.proofs.Accepts.{strictly, kept_within, kept_shrinks}
use Rattle.enclosure.proofs.enclosure.Enclosure.of.Goals as goal

pub invariant_of-result : goal.invariant_of-result
invariant_of-result c =
    let t = c.args.trial.now in
    let p = t.prepared.now in
    let into = strictly p.states (spans t.y) (spans t.v) c.requires in
    let few : 0 ≤ 16 = omega arith in
    record { few = few; within = kept_within p (100 * p.units) (spans t.y) t.v t.stepped into t.near.within; shrinking = kept_shrinks p (100 * p.units) (spans t.y) t.v t.stepped into }
