-- why a call was turned down, in one sentence
use Rattle.std.specs.Prelude.{ℕ, List, ◌++◌, codes, decimal}
use Rattle.prepare.specs.declared.fault.Fault.{Fault}
use Rattle.prepare.specs.declared.fault.Fault.TheVariants.{OtherScale, Count, TableTooLarge, GuessTooLarge, ResidualTooLarge, IterationTooLarge}

abbrev pub sentence : Fault → List ℕ
sentence (OtherScale units) = codes "the figures count " ++ (decimal units ++ codes " units to the whole, the scale another number")
sentence (Count r g) = codes "the inverse has " ++ (decimal r ++ (codes " numbers with " ++ (decimal g ++ codes " guesses; n times n with n are needed")))
sentence (TableTooLarge i j) = codes "the inverse's number at row " ++ (decimal i ++ (codes ", column " ++ (decimal j ++ codes " is not within 50 wholes")))
sentence (GuessTooLarge i) = codes "the guess of row " ++ (decimal i ++ codes " is not within 100 wholes")
sentence (ResidualTooLarge i) = codes "the residual of row " ++ (decimal i ++ codes " is not within 49 wholes")
sentence (IterationTooLarge i j) = codes "the iteration at row " ++ (decimal i ++ (codes ", column " ++ (decimal j ++ codes " is not within one whole")))
