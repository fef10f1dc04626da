use Rattle.std.proofs.Common.{ap}
use Rattle.law.specs.declared.ask.Reply.TheVariants.{Made, Told}
use Rattle.filing.specs.Law.{asked}
use Rattle.filing.proofs.Turning.{turned_as}
use Rattle.filing.proofs.running.answered.Goals as goal

pub returns-in-Make : goal.returns-in-Make
returns-in-Make g c M h q =
    let r = c.call.ensures.replied M h q in
    turned_as _ M h _ _ _ _ _ (ap (λ a. asked a (Made c.call.result)) c.in-Make.is) (record { right = (r.said, c.call.ensures.at_once M h q); left = r.left })

pub returns-in-Row : goal.returns-in-Row
returns-in-Row g c M h q = turned_as _ M h _ _ _ _ _ (ap (λ a. asked a (Told c.row.result)) c.in-Row.is) (record { right = c.row.ensures M h q; left = q })
