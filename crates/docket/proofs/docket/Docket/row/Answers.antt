use Rattle.std.proofs.Common.{◌≡◌, Err, subst, rules}
use Rattle.law.specs.declared.fault.Fault.TheVariants as fault
use Rattle.docket.specs.Reflects.{Staged}
use Rattle.docket.proofs.Trials.{row_told, row_outside}
use Rattle.docket.proofs.docket.Docket.row.Goals as goal

pub returns-in_err-row-in-Holding : goal.returns-in_err-row-in-Holding
returns-in_err-row-in-Holding g c M h q =
    let is : c.from_residual.result ≡ Err (fault.Trial c.in_err-row-in-Holding.field-0.0) = search rules in
    let s = subst (Staged g.T.Scale.unit h) c.in-Holding.is q.stage_is in
    rw is (row_outside _ M h _ _ _ q s.0 c.in-Holding.held s.1 c.args.row c.in_err-row-in-Holding.field-0.0 c.in_err-row-in-Holding.ensures)

pub returns-in_ok-row-in-Holding : goal.returns-in_ok-row-in-Holding
returns-in_ok-row-in-Holding g c M h q =
    let s = subst (Staged g.T.Scale.unit h) c.in-Holding.is q.stage_is in
    row_told _ M h _ _ _ q s.0 c.in-Holding.held s.1 c.args.row c.in_ok-row-in-Holding.field-0 c.in_ok-row-in-Holding.ensures
