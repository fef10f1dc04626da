use Rattle.std.proofs.Common.{◌≡◌}
use Rattle.span.specs.Spans.{ends}
use Rattle.prepare.specs.Numbers.{offered}
use Rattle.prepare.specs.Partial.{iteration_sum}
use Rattle.prepare.specs.Proposals.{game}
use Rattle.prepare.proofs.proposal.Proposal.cell.Given as goal

abbrev pub invariant-loop-v : goal.invariant-loop-v
invariant-loop-v g l = ends l.sum ≡ iteration_sum g.T.Scale.unit (game l.self.system.now) (offered l.self) l.row l.column l.v
