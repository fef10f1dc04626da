use Rattle.std.proofs.Common.{◌≡◌}
use Rattle.prepare.specs.Dots.{dotted}
use Rattle.prepare.proofs.sums.dot.Given as goal

abbrev pub invariant-loop-j : goal.invariant-loop-j
invariant-loop-j l = l.sum ≡ dotted l.a l.b l.stride l.j
