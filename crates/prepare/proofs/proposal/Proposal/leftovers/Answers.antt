use Rattle.std.proofs.Common.{arith}
use Rattle.prepare.proofs.Filling.{spans_more}
use Rattle.prepare.proofs.proposal.Proposal.leftovers.Goals as goal

pub loop-row-preserved : goal.loop-row-preserved
loop-row-preserved g c = spans_more _ c.loop-row.row c.loop-row.e-items c.leftover.result (omega arith) c.loop-row.invariant c.leftover.ensures
