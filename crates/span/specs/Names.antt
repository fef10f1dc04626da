-- what layers, operations and spots are called
use Rattle.std.specs.Prelude.{ℕ, List, ◌++◌, codes, decimal}
use Rattle.span.specs.declared.fault.Layer.{Layer}
use Rattle.span.specs.declared.fault.Layer.TheVariants.{Span, Source, Docket, Sheet}
use Rattle.span.specs.declared.fault.Spot.{Spot}
use Rattle.span.specs.declared.fault.Operation.{Operation}
use Rattle.span.specs.declared.fault.Operation.TheVariants.{Sum, Difference, Product}

abbrev pub layer_name : Layer → List ℕ
layer_name Span = codes "span"
layer_name Source = codes "source"
layer_name Docket = codes "docket"
layer_name Sheet = codes "sheet"

abbrev pub operation_name : Operation → List ℕ
operation_name Sum = codes "sum"
operation_name Difference = codes "difference"
operation_name Product = codes "product"

abbrev pub spot_name : Spot → List ℕ
spot_name s = codes "part " ++ (decimal s.part ++ (codes ", row " ++ (decimal s.row ++ (codes ", column " ++ decimal s.column))))
