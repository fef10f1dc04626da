-- how each call is written
use Rattle.std.specs.Prelude.{ℕ, List, codes}
use Rattle.asking.specs.declared.kind.Kind.{Kind}
use Rattle.asking.specs.declared.kind.Kind.TheVariants.{Open, PostMatrix, PostPayout, Range, Propose, Try, Run, Narrow, Row, Table}

abbrev pub usage_text : Kind → List ℕ
usage_text Open = codes "open n k"
usage_text PostMatrix = codes "post-matrix part row column amount"
usage_text PostPayout = codes "post-payout part row amount"
usage_text Range = codes "range part low high"
usage_text Propose = codes "propose r.. / g.."
usage_text Try = codes "try low high .."
usage_text Run = codes "run t"
usage_text Narrow = codes "narrow alone"
usage_text Row = codes "row i"
usage_text Table = codes "table alone"
