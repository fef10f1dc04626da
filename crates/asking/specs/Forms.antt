-- the numbers of each form, in words
use Rattle.std.specs.Prelude.{ℕ, List, codes}
use Rattle.asking.specs.declared.figure.Form.{Form}
use Rattle.asking.specs.declared.figure.Form.TheVariants.{Place, Trials, Amount}

abbrev pub width_text : Form → List ℕ
width_text Place = codes "0 to 4,294,967,295"
width_text Trials = codes "0 to 255"
width_text Amount = codes "-2,147,483,648 to 2,147,483,647"
