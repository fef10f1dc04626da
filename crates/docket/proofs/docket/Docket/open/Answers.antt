use Rattle.std.proofs.Common.{◌≡◌, Err, rules}
use Rattle.law.specs.declared.fault.Fault.TheVariants as fault
use Rattle.docket.proofs.Drafts.{opened, not_opened}
use Rattle.docket.proofs.docket.Docket.open.Goals as goal

pub returns-in_err-figures-clause-replied : goal.returns-in_err-figures-clause-replied
returns-in_err-figures-clause-replied g c M h q =
    let is : c.from_residual.result ≡ Err (fault.Figures c.in_err-figures.field-0.0) = search rules in
    rw is (not_opened _ M h _ _ _ q c.args.states c.args.settings c.in_err-figures.field-0.0 (c.in_err-figures.ensures))

pub returns-clause-replied : goal.returns-clause-replied
returns-clause-replied g c M h q =
    rw c.drafting-self.ensures (opened _ M h _ _ _ q c.args.states c.args.settings _ _ _ c.in_ok-figures.ensures.0 c.in_ok-figures.ensures.1 c.empty.ensures.0 c.empty.ensures.1)
