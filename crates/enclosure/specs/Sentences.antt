-- why a call was turned down, in one sentence
use Rattle.std.specs.Prelude.{ℕ, List, ◌++◌, codes, decimal}
use Rattle.enclosure.specs.declared.fault.End.{End}
use Rattle.enclosure.specs.declared.fault.End.TheVariants.{Low, High}
use Rattle.enclosure.specs.declared.fault.Fault.{Fault}
use Rattle.enclosure.specs.declared.fault.Fault.TheVariants.{OtherScale, Count, BoxReversed, BoxTooLarge, NotAccepted, Trials, Narrowed, NoRow}

abbrev pub end_name : End → List ℕ
end_name Low = codes "low"
end_name High = codes "high"

abbrev pub sentence : Fault → List ℕ
sentence (OtherScale units) = codes "the figures count " ++ (decimal units ++ codes " units to the whole, the scale another number")
sentence (Count given) = codes "the box has " ++ (decimal given ++ codes " numbers; two for each state are needed")
sentence (BoxReversed i) = codes "row " ++ (decimal i ++ codes " of the box has its low end above its high end")
sentence (BoxTooLarge i) = codes "row " ++ (decimal i ++ codes " of the box has an end that is not within 100 wholes")
sentence (NotAccepted i end) = codes "no trial was accepted; worst end row " ++ (decimal i ++ (codes ", " ++ end_name end))
sentence (Trials asked) = codes "a run has 1 to 10 trials, not " ++ decimal asked
sentence Narrowed = codes "16 narrowings are done already"
sentence (NoRow i) = codes "the game has no row " ++ decimal i
