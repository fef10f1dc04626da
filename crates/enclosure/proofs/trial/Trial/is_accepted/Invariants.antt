use Rattle.std.proofs.Common.{◌≡◌, true, length}
use Rattle.method.specs.Trials.{is_inside}
use Rattle.system.specs.Figures.{spans}
use Rattle.enclosure.proofs.trial.Trial.is_accepted.Given as goal

abbrev pub invariant-loop-y : goal.invariant-loop-y
invariant-loop-y l = is_inside (length l.yielded) (spans l.self.y) (spans l.self.v) ≡ true
