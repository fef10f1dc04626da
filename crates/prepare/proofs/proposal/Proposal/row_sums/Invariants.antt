use Rattle.std.proofs.Common.{◌≡◌, ℕ, ◌<◌}
use Rattle.system.specs.Figures.{spans}
use Rattle.prepare.specs.Numbers.{offered}
use Rattle.prepare.specs.Partial.{residual_sum}
use Rattle.prepare.specs.Proposals.{game}
use Rattle.prepare.proofs.proposal.Proposal.row_sums.Given as goal

abbrev pub invariant-loop-v : goal.invariant-loop-v
invariant-loop-v g l = (i : ℕ) → i < l.self.system.now.states → spans l.sums i ≡ residual_sum g.T.Scale.unit (game l.self.system.now) (offered l.self) i l.v
