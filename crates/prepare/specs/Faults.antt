-- the number, the layer and the place of each refusal
use Rattle.std.specs.Prelude.{ℕ}
use Rattle.span.specs.declared.fault.Layer.{Layer}
use Rattle.span.specs.declared.fault.Layer.TheVariants.{Docket}
use Rattle.span.specs.declared.fault.Spot.{Spot}
use Rattle.span.specs.Faults.{at}
use Rattle.prepare.specs.declared.fault.Fault.{Fault}
use Rattle.prepare.specs.declared.fault.Fault.TheVariants.{OtherScale, Count, TableTooLarge, GuessTooLarge, ResidualTooLarge, IterationTooLarge}

abbrev pub number : Fault → ℕ
number (OtherScale S) = 31
number (Count r g) = 6
number (TableTooLarge i j) = 7
number (GuessTooLarge i) = 7
number (ResidualTooLarge i) = 8
number (IterationTooLarge i j) = 9

abbrev pub layer : Fault → Layer
layer fault = Docket

abbrev pub place : Fault → Spot
place (OtherScale S) = at 0 0 0
place (Count r g) = at 0 0 0
place (TableTooLarge i j) = at 0 i j
place (GuessTooLarge i) = at 0 i 12
place (ResidualTooLarge i) = at 0 i 0
place (IterationTooLarge i j) = at 0 i j
