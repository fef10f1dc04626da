use Rattle.std.proofs.Common.{◌≡◌, ℕ, ◌<◌, ◌≤◌}
use Rattle.span.specs.Intervals.{◌+ᵢ◌, ◌*ᵢ◌}
use Rattle.span.specs.Spans.{ends}
use Rattle.method.specs.Method.{correction}
use Rattle.system.specs.Figures.{spans}
use Rattle.prepare.specs.Numbers.{offered}
use Rattle.prepare.specs.Proposals.{game}
use Rattle.prepare.proofs.proposal.Proposal.add_part.Given as goal

abbrev pub invariant-loop-row : goal.invariant-loop-row
invariant-loop-row g l =
    ((i : ℕ) → i < l.row → spans l.sum-items i ≡ spans l.fn.sums i +ᵢ ends l.weight *ᵢ correction g.T.Scale.unit (game l.self.system.now) (offered l.self) l.part i)
    × ((i : ℕ) → l.row ≤ i → i < l.row-end → spans l.sum-items i ≡ spans l.fn.sums i)
