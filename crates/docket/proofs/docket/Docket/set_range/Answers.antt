use Rattle.std.proofs.Common.{◌≡◌, Err, w32, SFits, rules}
use Rattle.std.proofs.lemmas.Int.{to_z-of_z}
use Rattle.law.specs.declared.fault.Fault.TheVariants as fault
use Rattle.docket.proofs.Drafts.{range_set, range_refused}
use Rattle.docket.proofs.docket.Docket.set_range.Goals as goal

pub returns-in_err-set_range-clause-replied : goal.returns-in_err-set_range-clause-replied
returns-in_err-set_range-clause-replied g c M h q =
    let is : c.from_residual.result ≡ Err (fault.Figures c.in_err-set_range.field-0.0) = search rules in
    let f : SFits w32 c.args.low = search rules in
    let k : SFits w32 c.args.high = search rules in
    let e = simp to_z-of_z at c.in_err-set_range.ensures in
    rw is (range_refused _ M h _ _ _ q c.args.part c.args.low c.args.high c.in_err-set_range.field-0.0 e.0)

pub returns-clause-replied : goal.returns-clause-replied
returns-clause-replied g c M h q =
    let f : SFits w32 c.args.low = search rules in
    let k : SFits w32 c.args.high = search rules in
    let e = simp to_z-of_z at c.in_ok-set_range.ensures in
    rw c.drafting-self.ensures (range_set _ M h _ _ _ q c.args.part c.args.low c.args.high _ e.0 e.1)
