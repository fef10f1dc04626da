use Rattle.std.proofs.Common.{◌≡◌, suc, ◌+◌, ◌-◌, ◌<◌, List, ap, ◌∙◌, arith}
use Rattle.span.specs.declared.span.Span.{Span}
use Rattle.system.specs.Figures.{spans}
use Rattle.prepare.proofs.Bits.{spans_part}
use Rattle.prepare.proofs.proposal.Proposal.ranges.Goals as goal

pub returns-clause-ranges : goal.returns-clause-ranges
returns-clause-ranges g c v h =
    let below : v < c.settings.result + 1 - 1 = omega arith in
    let next : 1 + v ≡ suc v = omega arith in
    spans_part c.ranges-2.result.now 1 (c.settings.result + 1 - 1) v below ∙ ap (spans c.ranges-2.result.now) next ∙ ap (λ (xs : List Span). spans xs (suc v)) c.ranges-2.ensures.value
