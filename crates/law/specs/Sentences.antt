-- why a call was turned down, in one sentence
use Rattle.std.specs.Prelude.{ℕ, List, codes}
use Rattle.system.specs.Sentences as system
use Rattle.prepare.specs.Sentences as prepare
use Rattle.enclosure.specs.Sentences as enclosure
use Rattle.source.specs.Sentences as source
use Rattle.law.specs.declared.fault.Fault.{Fault}
use Rattle.law.specs.declared.fault.Fault.TheVariants.{Figures, Proposal, Trial, Source, NoProposal, NotHeld}

abbrev pub sentence : Fault → List ℕ
sentence (Figures f) = system.sentence f
sentence (Proposal f) = prepare.sentence f
sentence (Trial f) = enclosure.sentence f
sentence (Source f) = source.sentence f
sentence NoProposal = codes "no proposal stands"
sentence NotHeld = codes "no ranges are held"
