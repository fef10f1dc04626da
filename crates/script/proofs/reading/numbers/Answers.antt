use Rattle.std.proofs.Common.{arith, rules}
use Rattle.script.proofs.Places.{as_many, bad_here, one_more}
use Rattle.script.proofs.reading.numbers.Goals as goal

pub returns-in_default : goal.returns-in_default
returns-in_default c = bad_here c.args.words.now c.loop-i.read c.loop-i.i _ c.loop-i-test.true c.loop-i.invariant.1 c.in_default.ensures

pub loop-i-preserved : goal.loop-i-preserved
loop-i-preserved c = one_more c.args.words.now c.loop-i.read c.loop-i.i _ c.in-Some.n c.loop-i.invariant.0 c.requires c.loop-i-test.true (search rules) c.loop-i.invariant.1 c.in-Some.ensures

pub returns : goal.returns
returns c = (c.loop-i.invariant.0, λ i h. c.loop-i.invariant.1 i (omega (arith, as_many c.args.words.now)))
