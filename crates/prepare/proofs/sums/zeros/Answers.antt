use Rattle.prepare.proofs.Bits.{zero_spans}
use Rattle.prepare.proofs.sums.zeros.Goals as goal

pub returns : goal.returns
returns g c = zero_spans g.row.N c.default.result c.default.ensures
