use Rattle.method.proofs.Halves.{first_accepted}
use Rattle.method.proofs.Narrows.{never_widens}
use Rattle.method.proofs.Soundness.{soundness}
use Rattle.method.proofs.stands.Goals as goal

pub returns : goal.returns
returns c = record { sound = soundness; first = first_accepted; narrows = never_widens }
