use Rattle.std.proofs.Common.{cond, ap}
use Rattle.filing.specs.Law.Turn.{checked}
use Rattle.filing.proofs.Turning.{turned_as}
use Rattle.filing.proofs.running.checked_for.Goals as goal

pub returns-then-own : goal.returns-then-own
returns-then-own g c M h q = turned_as _ M h _ _ _ _ _ (ap (λ b. checked (cond b g.T.Scale.unit g.F.Scale.unit) c.args.bytes.now c.rechecked.result) c.if-own.true) (c.rechecked.ensures M h q)

pub returns-else-own : goal.returns-else-own
returns-else-own g c M h q = turned_as _ M h _ _ _ _ _ (ap (λ b. checked (cond b g.T.Scale.unit g.F.Scale.unit) c.args.bytes.now c.rechecked-else-own.result) c.if-own.false) (c.rechecked-else-own.ensures M h q)
