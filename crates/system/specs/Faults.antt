-- the number, the layer and the place of each refusal
use Rattle.std.specs.Prelude.{ℕ}
use Rattle.span.specs.declared.fault.Layer.{Layer}
use Rattle.span.specs.declared.fault.Layer.TheVariants.{Docket}
use Rattle.system.specs.declared.fault.Fault.{Fault}
use Rattle.system.specs.declared.fault.Fault.TheVariants.{Outside, SumTooLarge, NoSetting, RangeReversed, RangeTooWide, Size}
use Rattle.span.specs.declared.fault.Spot.{Spot}
use Rattle.span.specs.Faults.{at}

abbrev pub number : Fault → ℕ
number (Outside p) = 1
number (SumTooLarge p) = 2
number (NoSetting v) = 1
number (RangeReversed v) = 3
number (RangeTooWide v) = 4
number (Size n k) = 5

abbrev pub layer : Fault → Layer
layer fault = Docket

abbrev pub place : Fault → Spot
place (Outside p) = p
place (SumTooLarge p) = p
place (NoSetting v) = at v 0 0
place (RangeReversed v) = at v 0 0
place (RangeTooWide v) = at v 0 0
place (Size n k) = at 0 0 0
