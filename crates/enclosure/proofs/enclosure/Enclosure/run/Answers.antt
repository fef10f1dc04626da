use Rattle.enclosure.proofs.Runs.{ran, ran_not}
use Rattle.enclosure.proofs.enclosure.Enclosure.run.Goals as goal

pub returns-then-trials-lt1-clause-ran : goal.returns-then-trials-lt1-clause-ran
returns-then-trials-lt1-clause-ran g c G H q = ran_not g.T.Scale.unit G H c.args.trials c.then-trials-lt1.either

pub returns-clause-ran : goal.returns-clause-ran
returns-clause-ran g c G H q = ran g.T.Scale.unit G H c.args.prepared.now c.args.trials c.first_accepted.result q c.if-trials-lt1.false c.if-trials-gt10.false (c.first_accepted.ensures.found G H q)
