use Rattle.std.proofs.Common.{◌≡◌, ℕ, ◌/◌, ◌%◌, ◌<◌, true}
use Rattle.span.specs.Intervals.{Interval}
use Rattle.span.specs.Questions.{ends_within}
use Rattle.method.specs.Method as method
use Rattle.system.specs.Figures.{spans}
use Rattle.prepare.specs.Numbers.{offered}
use Rattle.prepare.specs.Proposals.{game}
use Rattle.prepare.proofs.proposal.Proposal.iteration.Given as goal

abbrev pub invariant-loop-t : goal.invariant-loop-t
invariant-loop-t g l =
    let f : ℕ → Interval = λ t. method.iteration g.T.Scale.unit (game l.self.system.now) (offered l.self) (t / l.self.system.now.states) (t % l.self.system.now.states) in
    ((i : ℕ) → i < l.t → spans l.c-items i ≡ f i) × ((i : ℕ) → i < l.t → ends_within g.T.Scale.unit 1 (f i) ≡ true)
