use Rattle.source.proofs.Grids.{matrix_answer, payout_answer}
use Rattle.source.proofs.grid.kept.GridSource.post.Goals as goal

pub returns-in-Matrix : goal.returns-in-Matrix
returns-in-Matrix c sound =
    let grid = c.args.self.now in
    (matrix_answer grid.matrix.now grid.payouts.now c.post_run.new.run c.args.place c.in-Matrix.part c.in-Matrix.row c.in-Matrix.column c.args.amount c.post_run.result c.in-Matrix.is c.ranges.amount c.post_run.ensures, tt)

pub returns-in-Payout : goal.returns-in-Payout
returns-in-Payout c sound =
    let grid = c.args.self.now in
    (payout_answer grid.matrix.now grid.payouts.now c.post_run-in-Payout.new.run c.args.place c.in-Payout.part c.in-Payout.row c.args.amount c.post_run-in-Payout.result c.in-Payout.is c.ranges.amount c.post_run-in-Payout.ensures, tt)
