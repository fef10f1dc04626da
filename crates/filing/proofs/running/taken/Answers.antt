use Rattle.std.proofs.Common.{ap}
use Rattle.filing.specs.declared.step.Outcome.TheVariants.{Checked, Replied, Wrote}
use Rattle.filing.specs.Law.{turn}
use Rattle.filing.proofs.Turning.{turned_as}
use Rattle.filing.proofs.running.taken.Goals as goal

pub returns-in-Asking : goal.returns-in-Asking
returns-in-Asking g c M h q = turned_as _ M h _ _ _ _ _ (ap (λ s. turn g.T.Scale.unit g.F.Scale.unit s (Replied c.answered.result)) c.in-Asking.is) (c.answered.ensures M h q)

pub returns-in-Check : goal.returns-in-Check
returns-in-Check g c M h q = turned_as _ M h _ _ _ _ _ (ap (λ s. turn g.T.Scale.unit g.F.Scale.unit s (Checked c.checked_for.result)) c.in-Check.is) (c.checked_for.ensures M h q)

pub returns-in_ok-wrote-in-Write : goal.returns-in_ok-wrote-in-Write
returns-in_ok-wrote-in-Write g c M h q = turned_as _ M h _ _ _ _ _ (ap (λ s. turn g.T.Scale.unit g.F.Scale.unit s (Wrote c.in_ok-wrote-in-Write.field-0)) c.in-Write.is) (record { right = c.in_ok-wrote-in-Write.ensures M h q; left = q })
