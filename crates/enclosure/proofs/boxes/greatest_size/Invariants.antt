use Rattle.std.proofs.Common.{◌≡◌}
use Rattle.enclosure.specs.Boxed.{greatest_size}
use Rattle.enclosure.proofs.boxes.greatest_size.Given as goal

abbrev pub invariant-loop-z : goal.invariant-loop-z
invariant-loop-z l = l.greatest ≡ greatest_size l.prepared l.z-index
