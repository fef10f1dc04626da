use Rattle.std.proofs.Common.{◌≡◌, length}
use Rattle.span.specs.Spans.{ends}
use Rattle.prepare.specs.Numbers.{offered}
use Rattle.prepare.specs.Partial.{weighed}
use Rattle.prepare.proofs.proposal.Proposal.correction.Given as goal

abbrev pub invariant-loop-r : goal.invariant-loop-r
invariant-loop-r g l =
    (goal.iterator-loop-r g).can_next l.r-iterator
    × (goal.iterator-loop-r g).is_finite l.r-iterator
    × (ends l.sum ≡ weighed (offered l.self) l.leftovers l.row (length l.yielded))
