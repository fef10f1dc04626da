-- the calls about a game by name
use Rattle.std.specs.Prelude.{◌≡◌, ℕ, List, Ok, Err, codes, Result, ◌≢◌}
use Rattle.asking.specs.declared.kind.Kind.{Kind}
use Rattle.asking.specs.declared.kind.NoKind.{NoKind}
use Rattle.asking.specs.declared.kind.Kind.TheVariants.{Open, PostMatrix, PostPayout, Range, Propose, Try, Run, Narrow, Row, Table}

abbrev pub name_of : Kind → List ℕ
name_of Open = codes "open"
name_of PostMatrix = codes "post-matrix"
name_of PostPayout = codes "post-payout"
name_of Range = codes "range"
name_of Propose = codes "propose"
name_of Try = codes "try"
name_of Run = codes "run"
name_of Narrow = codes "narrow"
name_of Row = codes "row"
name_of Table = codes "table"

-- a word is read as the kind that has this name, if one has
abbrev pub IsNamed : List ℕ → Result Kind NoKind → Type 0
IsNamed word (Ok k) = word ≡ name_of k
IsNamed word (Err e) = (k : Kind) → word ≢ name_of k
