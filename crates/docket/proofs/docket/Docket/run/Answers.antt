use Rattle.std.proofs.Common.{◌≡◌, Err, rules}
use Rattle.law.specs.declared.fault.Fault.TheVariants as fault
use Rattle.docket.proofs.Trials.{run_accepted, run_refused}
use Rattle.docket.proofs.docket.Docket.run.Goals as goal

pub returns-in_err-trial-clause-replied : goal.returns-in_err-trial-clause-replied
returns-in_err-trial-clause-replied g c M h o q s =
    let is : c.from_residual.result ≡ Err (fault.Trial c.in_err-trial.field-0.0) = search rules in
    rw is (run_refused _ M h _ _ _ q o _ s c.args.trials c.in_err-trial.field-0.0 (c.in_err-trial.ensures.ran _ _ s.prepared_is).answers)

pub returns-clause-replied : goal.returns-clause-replied
returns-clause-replied g c M h o q s =
    run_accepted _ M h _ _ _ q o _ s c.args.trials c.in_ok-trial.trial c.in_ok-trial.held c.in_ok-trial.ensures.kept (c.in_ok-trial.ensures.ran _ _ s.prepared_is).answers
