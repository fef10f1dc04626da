use Rattle.std.proofs.Common.{length, string_bytes}
use Rattle.wording.proofs.Commas.{Sofar}
use Rattle.wording.proofs.grouping.with_commas.Given as goal

abbrev pub invariant-loop-digit : goal.invariant-loop-digit
invariant-loop-digit l = Sofar (string_bytes l.text) l.left l.digits

abbrev pub decreases-loop-digit : goal.decreases-loop-digit
decreases-loop-digit l = length l.left
