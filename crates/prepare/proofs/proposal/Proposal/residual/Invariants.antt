use Rattle.std.proofs.Common.{◌≡◌, length}
use Rattle.method.specs.Method as method
use Rattle.prepare.specs.Numbers.{offered}
use Rattle.prepare.specs.Proposals.{game}
use Rattle.prepare.specs.Rows.{Limited}
use Rattle.prepare.proofs.proposal.Proposal.residual.Given as goal

abbrev pub invariant-loop-row : goal.invariant-loop-row
invariant-loop-row g l = (length l.rows ≡ 12) × Limited g.T.Scale.unit 49 l.row (method.residual g.T.Scale.unit (game l.self.system.now) (offered l.self)) l.rows
