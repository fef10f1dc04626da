-- why a call was turned down, in one sentence
use Rattle.std.specs.Prelude.{ℕ, List, ◌++◌, codes, decimal}
use Rattle.span.specs.Names.{spot_name}
use Rattle.system.specs.declared.fault.Fault.{Fault}
use Rattle.system.specs.declared.fault.Fault.TheVariants.{Outside, SumTooLarge, NoSetting, RangeReversed, RangeTooWide, Size}

abbrev pub sentence : Fault → List ℕ
sentence (Outside p) = codes "the game has no place " ++ spot_name p
sentence (SumTooLarge p) = codes "the coefficient at " ++ (spot_name p ++ codes " would pass one whole, or 100 wholes for a payout")
sentence (NoSetting v) = codes "the game has no setting " ++ decimal v
sentence (RangeReversed v) = codes "the range of setting " ++ (decimal v ++ codes " has its low end above its high end")
sentence (RangeTooWide v) = codes "the range of setting " ++ (decimal v ++ codes " has an end that is not within one whole")
sentence (Size n k) = codes "a game has 1 to 12 states and 0 to 8 settings, not " ++ (decimal n ++ (codes " and " ++ decimal k))
