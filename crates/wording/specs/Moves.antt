-- which ends of a row had moved inward, and the words for it
use Rattle.std.specs.Prelude.{ℕ, Bool, true, false, List, codes, int_lt}
use Rattle.audit.specs.declared.Finding.{Finding}
use Rattle.wording.specs.declared.moved.Moved.{Moved}
use Rattle.wording.specs.declared.moved.Moved.TheVariants.{Neither, Low, High, Both}

abbrev pub which : Bool → Bool → Moved
which false false = Neither
which true false = Low
which false true = High
which true true = Both

-- an end had moved inward where the dropped end lies inside the end that is due
abbrev pub moved : Finding → Moved
moved f = which (int_lt f.due.low f.dropped_low) (int_lt f.dropped_high f.due.high)

abbrev pub word_of : Moved → List ℕ
word_of Neither = codes "none"
word_of Low = codes "low"
word_of High = codes "high"
word_of Both = codes "both"

abbrev pub told_of : Moved → List ℕ
told_of Neither = codes "no end had moved"
told_of Low = codes "the low end had moved inward"
told_of High = codes "the high end had moved inward"
told_of Both = codes "both ends had moved inward"
