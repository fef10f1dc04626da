use Rattle.std.proofs.Common.{◌≡◌, ◌-◌, ◌≤◌, length}
use Rattle.method.specs.Method.{Game, Proposal}
use Rattle.prepare.specs.Proposals.{PreparedFor}
use Rattle.enclosure.specs.Enclosures.{Going}
use Rattle.enclosure.proofs.enclosure.Enclosure.first_accepted.Given as goal

abbrev pub invariant-trials : goal.invariant-trials
invariant-trials g l = (1 ≤ l.number) × (l.number ≤ l.trials) × (length l.y ≡ 12) × ((G : Game) (H : Proposal) → PreparedFor g.T.Scale.unit G H l.prepared → Going g.T.Scale.unit G H l.trials l.number l.y)

abbrev pub decreases-trials : goal.decreases-trials
decreases-trials g l = l.trials - l.number
