use Rattle.std.proofs.Common.{◌≡◌, ℕ, ◌<◌}
use Rattle.system.specs.Figures.{spans}
use Rattle.enclosure.specs.Boxed.{next}
use Rattle.enclosure.proofs.step.step.Given as goal

abbrev pub invariant-loop-row : goal.invariant-loop-row
invariant-loop-row g l = (i : ℕ) → i < l.row → spans l.s-items i ≡ next l.prepared (spans l.y) i
