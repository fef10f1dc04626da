-- the number, the layer and the place of each refusal
use Rattle.std.specs.Prelude.{ℕ}
use Rattle.span.specs.declared.fault.Layer.{Layer}
use Rattle.span.specs.declared.fault.Layer.TheVariants.{Source}
use Rattle.span.specs.declared.fault.Spot.{Spot}
use Rattle.span.specs.Faults.{at}
use Rattle.source.specs.declared.fault.Fault.{Fault}
use Rattle.source.specs.declared.fault.Fault.TheVariants.{OutOfRange, Full, SumTooLarge}
use Rattle.source.specs.declared.place.Place.{Place}
use Rattle.source.specs.declared.place.Place.TheVariants.{Matrix, Payout}

-- a payout has column 12
abbrev pub spot_of : Place → Spot
spot_of (Matrix v i j) = at v i j
spot_of (Payout v i) = at v i 12

abbrev pub number : Fault → ℕ
number (OutOfRange p) = 20
number (Full p) = 21
number (SumTooLarge p) = 22

abbrev pub layer : Fault → Layer
layer fault = Source

abbrev pub place : Fault → Spot
place (OutOfRange p) = spot_of p
place (Full p) = spot_of p
place (SumTooLarge p) = spot_of p
