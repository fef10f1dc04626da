use Rattle.std.proofs.Common.{◌≡◌, ◌++◌, drop, vec_items}
use Rattle.pages.specs.Replied.{replied}
use Rattle.pages.proofs.replied.replies.Given as goal

abbrev pub invariant-loop-outcome : goal.invariant-loop-outcome
invariant-loop-outcome l = vec_items l.replies ++ replied (drop l.outcome-index l.outcomes) ≡ replied l.outcomes
