use Rattle.figures.proofs.Computed.{enclosed}
use Rattle.figures.proofs.enclosing.run.Goals as goal

pub returns-in_err-system : goal.returns-in_err-system
returns-in_err-system c = enclosed

pub returns-in_err-post : goal.returns-in_err-post
returns-in_err-post c = enclosed

pub returns : goal.returns
returns c = enclosed
