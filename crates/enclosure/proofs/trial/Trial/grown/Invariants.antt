use Rattle.method.specs.Trials.{grown}
use Rattle.system.specs.Figures.{spans}
use Rattle.enclosure.specs.Boxed.{Holds}
use Rattle.enclosure.proofs.trial.Trial.grown.Given as goal

abbrev pub invariant-loop-row : goal.invariant-loop-row
invariant-loop-row l = Holds l.row l.rows (λ i. grown (spans l.fn.self.v i))
