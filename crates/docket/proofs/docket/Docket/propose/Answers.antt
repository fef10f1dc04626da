use Rattle.std.proofs.Common.{◌≡◌, Err, rules}
use Rattle.law.specs.declared.fault.Fault.TheVariants as fault
use Rattle.docket.proofs.Proposals.{never_unfilled, proposal_accepted, proposal_refused}
use Rattle.docket.proofs.docket.Docket.propose.Goals as goal

pub returns-in_err-figures-clause-replied : goal.returns-in_err-figures-clause-replied
returns-in_err-figures-clause-replied g c M h q = absurd (never_unfilled _ M h _ _ _ q c.in_err-figures.field-0.0 c.in_err-figures.ensures)

pub returns-in_err-prepared-clause-replied : goal.returns-in_err-prepared-clause-replied
returns-in_err-prepared-clause-replied g c M h q =
    let is : c.from_residual-in_err-prepared.result ≡ Err (fault.Proposal c.in_err-prepared.field-0.0) = search rules in
    let f = c.in_ok-figures.ensures in
    rw is (proposal_refused _ M h _ _ _ q c.in_ok-figures.figures _ _ f.0 f.1 f.4 f.5 f.6 c.in_err-prepared.field-0.0 c.in_err-prepared.ensures.proposed)

pub returns-clause-replied : goal.returns-clause-replied
returns-clause-replied g c M h q =
    let f = c.in_ok-figures.ensures in
    proposal_accepted _ M h _ _ _ q c.in_ok-figures.figures _ _ f.0 f.1 f.4 f.5 f.6 c.in_ok-prepared.prepared c.in_ok-prepared.ensures.proposed c.in_ok-prepared.ensures.table
