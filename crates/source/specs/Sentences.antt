-- why a call was turned down, in one sentence
use Rattle.std.specs.Prelude.{ℕ, List, ◌++◌, codes}
use Rattle.span.specs.Names.{spot_name}
use Rattle.source.specs.Faults.{spot_of}
use Rattle.source.specs.declared.fault.Fault.{Fault}
use Rattle.source.specs.declared.fault.Fault.TheVariants.{OutOfRange, Full, SumTooLarge}

abbrev pub sentence : Fault → List ℕ
sentence (OutOfRange p) = codes "the source has no place " ++ spot_name (spot_of p)
sentence (Full p) = codes "the source has no room left for " ++ spot_name (spot_of p)
sentence (SumTooLarge p) = codes "the coefficient at " ++ (spot_name (spot_of p) ++ codes " would pass 1,073,741,824 in size")
