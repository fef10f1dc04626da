use Rattle.system.specs.Figures.{spans}
use Rattle.enclosure.proofs.Verdict.{worst_none, worst_more}
use Rattle.enclosure.proofs.trial.Trial.worst.Goals as goal

pub loop-row-init : goal.loop-row-init
loop-row-init c = worst_none (spans c.args.self.now.y) (spans c.args.self.now.v) c.low_end.result c.high_end.result c.worse-worst.result c.low_end.ensures c.high_end.ensures c.worse-worst.ensures

pub loop-row-preserved : goal.loop-row-preserved
loop-row-preserved c =
    worst_more (spans c.args.self.now.y) (spans c.args.self.now.v) c.loop-row.row c.loop-row.auto.row c.loop-row.worst c.low_end-in-loop-row.result c.worse.result c.high_end-in-loop-row.result c.worse-worst-in-loop-row.result
    c.loop-row.invariant c.low_end-in-loop-row.ensures c.worse.ensures c.high_end-in-loop-row.ensures c.worse-worst-in-loop-row.ensures
