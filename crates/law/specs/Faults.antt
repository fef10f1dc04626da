-- the number, the layer and the place of each refusal
use Rattle.std.specs.Prelude.{ℕ}
use Rattle.span.specs.declared.fault.Layer.{Layer}
use Rattle.span.specs.declared.fault.Layer.TheVariants as layers
use Rattle.span.specs.declared.fault.Spot.{Spot}
use Rattle.span.specs.Faults.{at}
use Rattle.system.specs.Faults as system
use Rattle.prepare.specs.Faults as prepare
use Rattle.enclosure.specs.Faults as enclosure
use Rattle.source.specs.Faults as source
use Rattle.law.specs.declared.fault.Fault.{Fault}
use Rattle.law.specs.declared.fault.Fault.TheVariants.{Figures, Proposal, Trial, Source, NoProposal, NotHeld}

abbrev pub number : Fault → ℕ
number (Figures f) = system.number f
number (Proposal f) = prepare.number f
number (Trial f) = enclosure.number f
number (Source f) = source.number f
number NoProposal = 10
number NotHeld = 14

abbrev pub layer : Fault → Layer
layer (Figures f) = layers.Docket
layer (Proposal f) = layers.Docket
layer (Trial f) = layers.Docket
layer (Source f) = layers.Source
layer NoProposal = layers.Docket
layer NotHeld = layers.Docket

abbrev pub place : Fault → Spot
place (Figures f) = system.place f
place (Proposal f) = prepare.place f
place (Trial f) = enclosure.place f
place (Source f) = source.place f
place NoProposal = at 0 0 0
place NotHeld = at 0 0 0
