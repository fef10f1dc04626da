-- the scales by name
use Rattle.std.specs.Prelude.{◌≡◌, ℕ, List, Ok, Err, codes, Result, ◌≢◌}
use Rattle.span.specs.declared.measure.Measure.{Measure}
use Rattle.span.specs.declared.measure.Measure.TheVariants.{Millionths, Binary}
use Rattle.span.specs.declared.measure.NoMeasure.{NoMeasure}

abbrev pub name_of : Measure → List ℕ
name_of Millionths = codes "millionths"
name_of Binary = codes "binary"

-- a word is read as the scale that has this name, if one has
abbrev pub IsNamed : List ℕ → Result Measure NoMeasure → Type 0
IsNamed word (Ok m) = word ≡ name_of m
IsNamed word (Err e) = (m : Measure) → word ≢ name_of m
