-- the figures of a game with the coefficients that a source tells
use Rattle.std.specs.Prelude.{◌≡◌, ℕ, ◌<◌, cond, List, length, ℤ, pos, Result, slice_index_or}
use Rattle.system.specs.declared.fault.Fault.{Fault}
use Rattle.system.specs.declared.system.System.{System}
use Rattle.system.specs.Posts.{Filled}
use Rattle.source.specs.declared.place.Place.{Place}
use Rattle.source.specs.Meaning.{Kind, Meaning, matrix, payout, place_at, told}
use Rattle.law.specs.Decides.{has_place}

-- what the source tells of a place of the game, else 0
abbrev pub read_at : System → Meaning → Place → ℤ
read_at s M p = cond (has_place s.states s.settings p) (told M p) (pos 0)

-- each of the first m numbers is that of the place which belongs to its index
abbrev pub Reads : System → Meaning → (ℕ → Place → Type 0) → ℕ → List ℤ → Type 0
Reads s M of m xs = (t : ℕ) → t < m → (p : Place) × of t p × (slice_index_or xs t (pos 0) ≡ read_at s M p)

-- the places of a kind in their order
abbrev pub in_order : Kind → ℕ → Place → Type 0
in_order kind t p = p ≡ place_at kind t

abbrev pub FilledFrom : System → Meaning → Result System Fault → Type 0
FilledFrom s M r = (xs : List ℤ) × (ys : List ℤ) × (length xs ≡ 1296) × (length ys ≡ 108) × Reads s M (in_order matrix) 1296 xs × Reads s M (in_order payout) 108 ys × Filled s xs ys r
