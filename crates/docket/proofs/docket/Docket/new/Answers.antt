use Rattle.docket.proofs.Drafts.{begins}
use Rattle.docket.proofs.docket.Docket.new.Goals as goal

pub returns : goal.returns
returns g c = rw c.drafting.ensures (begins _ _ _ _ _ c.smallest.ensures c.empty.ensures.0 c.empty.ensures.1)
