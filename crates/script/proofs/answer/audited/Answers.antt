use Rattle.std.proofs.Common.{◌≡◌, w64, SFits, rules}
use Rattle.std.proofs.lemmas.Int.{to_z-of_z}
use Rattle.span.specs.Spans.{ends}
use Rattle.script.specs.Pairs.{from_to}
use Rattle.script.proofs.Standing.{stands, unheld}
use Rattle.script.proofs.answer.audited.Goals as goal

pub returns : goal.returns
returns g c =
    let guess : SFits w64 c.args.guess = search rules in
    let sums : ends c.in_ok-new.field-0 ≡ from_to c.args.low c.args.high = unheld c.args.low c.args.high (ends c.in_ok-new.field-0) (search rules) (search rules) c.in_ok-new.ensures in
    stands c.args.low c.args.high c.in_ok-new.field-0 c.audit.result sums (c.in_ok-new.field-0, sums, simp to_z-of_z at c.audit.ensures)
