use Rattle.std.proofs.Common.{◌≡◌, ℕ, ◌<◌}
use Rattle.method.specs.Method.{leftover}
use Rattle.system.specs.Figures.{spans}
use Rattle.prepare.specs.Numbers.{offered}
use Rattle.prepare.specs.Proposals.{game}
use Rattle.prepare.proofs.proposal.Proposal.leftovers.Given as goal

abbrev pub invariant-loop-row : goal.invariant-loop-row
invariant-loop-row g l = (i : ℕ) → i < l.row → spans l.e-items i ≡ leftover g.T.Scale.unit (game l.self.system.now) (offered l.self) l.part i
