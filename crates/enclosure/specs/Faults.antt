-- the number, the layer and the place of each refusal
use Rattle.std.specs.Prelude.{ℕ}
use Rattle.span.specs.declared.fault.Layer.{Layer}
use Rattle.span.specs.declared.fault.Layer.TheVariants.{Docket}
use Rattle.span.specs.declared.fault.Spot.{Spot}
use Rattle.span.specs.Faults.{at}
use Rattle.enclosure.specs.declared.fault.End.{End}
use Rattle.enclosure.specs.declared.fault.End.TheVariants.{Low, High}
use Rattle.enclosure.specs.declared.fault.Fault.{Fault}
use Rattle.enclosure.specs.declared.fault.Fault.TheVariants.{OtherScale, Count, BoxReversed, BoxTooLarge, NotAccepted, Trials, Narrowed, NoRow}

abbrev pub number : Fault → ℕ
number (OtherScale S) = 31
number (Count given) = 6
number (BoxReversed i) = 3
number (BoxTooLarge i) = 11
number (NotAccepted i e) = 12
number (Trials t) = 13
number Narrowed = 15
number (NoRow i) = 1

abbrev pub layer : Fault → Layer
layer fault = Docket

-- 0 for low, 1 for high
abbrev pub side : End → ℕ
side Low = 0
side High = 1

abbrev pub place : Fault → Spot
place (OtherScale S) = at 0 0 0
place (Count given) = at 0 0 0
place (BoxReversed i) = at 0 i 0
place (BoxTooLarge i) = at 0 i 0
place (NotAccepted i e) = at (side e) i 0
place (Trials t) = at 0 0 0
place Narrowed = at 0 0 0
place (NoRow i) = at 0 i 0
