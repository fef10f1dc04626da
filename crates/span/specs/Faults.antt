-- the number and the layer of each refusal
use Rattle.std.specs.Prelude.{ℕ}
use Rattle.span.specs.declared.fault.Fault.{Fault}
use Rattle.span.specs.declared.fault.Fault.TheVariants.{LowAboveHigh, TooLarge}
use Rattle.span.specs.declared.fault.Layer.{Layer}
use Rattle.span.specs.declared.fault.Layer.TheVariants.{Span}
use Rattle.span.specs.declared.fault.Spot.{Spot}

abbrev pub number : Fault → ℕ
number (LowAboveHigh low high) = 3
number (TooLarge operation) = 40

abbrev pub layer : Fault → Layer
layer fault = Span

abbrev pub at : ℕ → ℕ → ℕ → Spot
at v i j = record { part = v; row = i; column = j }
