use Rattle.std.proofs.Common.{◌≡◌, Err, rules}
use Rattle.law.specs.declared.fault.Fault.TheVariants as fault
use Rattle.docket.proofs.Trials.{try_accepted, try_refused}
use Rattle.docket.proofs.docket.Docket.attempt.Goals as goal

pub returns-in_err-held-clause-replied : goal.returns-in_err-held-clause-replied
returns-in_err-held-clause-replied g c M h o q s =
    let is : c.from_residual.result ≡ Err (fault.Trial c.in_err-held.field-0.0) = search rules in
    rw is (try_refused _ M h _ _ _ q o _ s _ c.in_err-held.field-0.0 (c.in_err-held.ensures.tried _ _ s.prepared_is))

pub returns-clause-replied : goal.returns-clause-replied
returns-clause-replied g c M h o q s =
    try_accepted _ M h _ _ _ q o _ s _ c.in_ok-held.held c.in_ok-held.ensures.kept (c.in_ok-held.ensures.tried _ _ s.prepared_is)
