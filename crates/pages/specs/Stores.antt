-- the sources by name, and the room that they may be given
use Rattle.std.specs.Prelude.{◌≡◌, ℕ, ◌≤◌, List, Ok, Err, codes, Result, ◌≢◌}
use Rattle.pages.specs.declared.store.Make.{Make}
use Rattle.pages.specs.declared.store.Make.TheVariants.{Grid, List as Entries}
use Rattle.pages.specs.declared.store.NoStore.{NoStore}
use Rattle.pages.specs.declared.store.Store.{Store}

abbrev pub make_name : Make → List ℕ
make_name Grid = codes "grid"
make_name Entries = codes "list"

abbrev pub ample : Make → Store
ample m = record { make = m; matrix = 1296; payout = 108 }

-- a word is read as the make that has this name, if one has
abbrev pub IsNamed : List ℕ → Result Make NoStore → Type 0
IsNamed word (Ok m) = word ≡ make_name m
IsNamed word (Err e) = (m : Make) → word ≢ make_name m

-- at most 4096 of each
abbrev pub Roomy : List ℕ → Result Store NoStore → Type 0
Roomy word (Ok s) = (s.matrix ≤ 4096) × (s.payout ≤ 4096)
Roomy word (Err e) = Unit {0}
