use Rattle.std.proofs.Common.{◌≡◌, pred}
use Rattle.method.specs.Trials.{worst}
use Rattle.system.specs.Figures.{spans}
use Rattle.enclosure.specs.Ends.{overshot}
use Rattle.enclosure.proofs.trial.Trial.worst.Given as goal

abbrev pub invariant-loop-row : goal.invariant-loop-row
invariant-loop-row l = l.worst ≡ overshot (worst (spans l.self.y) (spans l.self.v) (pred l.row))
