use Rattle.std.proofs.Common.{◌≡◌, Err, rules}
use Rattle.law.specs.declared.fault.Fault.TheVariants as fault
use Rattle.docket.proofs.Trials.{narrow_accepted, narrow_refused}
use Rattle.docket.proofs.docket.Docket.narrow.Goals as goal

pub returns-in_err-narrow-clause-replied : goal.returns-in_err-narrow-clause-replied
returns-in_err-narrow-clause-replied g c M h b q s =
    let is : c.from_residual.result ≡ Err (fault.Trial c.in_err-narrow.field-0.0) = search rules in
    let n = c.in_err-narrow.ensures.narrowed _ _ _ _ s.enclosure_is.held in
    rw is (narrow_refused _ M h _ _ _ q b _ s c.in_err-narrow.field-0.0 n.0)

pub returns-clause-replied : goal.returns-clause-replied
returns-clause-replied g c M h b q s =
    let n = c.in_ok-narrow.ensures.narrowed _ _ _ _ s.enclosure_is.held in
    narrow_accepted _ M h _ _ _ q b _ s _ c.in_ok-narrow.ensures.kept n.0 n.1
