use Rattle.system.specs.Posts.Beyond.{in_matrix, in_payouts}
use Rattle.system.proofs.system.System.filled.Goals as goal

pub returns-in-Some : goal.returns-in-Some
returns-in-Some c = rw c.matrix_spot.ensures (in_matrix c.in-Some.at c.in-Some.ensures)

pub returns-in-Some-beyond : goal.returns-in-Some-beyond
returns-in-Some-beyond c = rw c.payout_spot.ensures (in_payouts c.in-Some-beyond.at c.in_default.ensures c.in-Some-beyond.ensures)
