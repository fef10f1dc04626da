use Rattle.source.proofs.Listings.{matrix_ask, payout_ask}
use Rattle.source.proofs.list.kept.ListSource.ask.Goals as goal

pub returns-in-Matrix : goal.returns-in-Matrix
returns-in-Matrix c =
    let list = c.args.self.now in
    matrix_ask list.matrix.entries.now list.matrix.used list.payouts.entries.now list.payouts.used c.args.place record { part = c.in-Matrix.part; row = c.in-Matrix.row; column = c.in-Matrix.column } c.sum.result c.in-Matrix.is c.sum.ensures

pub returns-in-Payout : goal.returns-in-Payout
returns-in-Payout c =
    let list = c.args.self.now in
    payout_ask list.matrix.entries.now list.matrix.used list.payouts.entries.now list.payouts.used c.args.place record { part = c.in-Payout.part; row = c.in-Payout.row } c.sum-in-Payout.result c.in-Payout.is c.sum-in-Payout.ensures
