-- what the calls as they are counted say; h has the accepted ones, the newest first
use Rattle.std.specs.Prelude.{ℕ, suc, pred, Bool, cond, ◌||◌, List, [], ◌∷◌, ℤ, pos, ◌+ℤ◌, Some, None, Ok, Err, Option, Result, ◌==◌}
use Rattle.span.specs.Intervals.{Interval, point}
use Rattle.method.specs.Method.{Game, Proposal, narrowed, held}
use Rattle.method.specs.Trials.{boxes}
use Rattle.prepare.specs.Proposals.{offer}
use Rattle.enclosure.specs.Boxed.{box}
use Rattle.enclosure.specs.Enclosures.{trials}
use Rattle.source.specs.declared.place.Place.{Place}
use Rattle.source.specs.declared.place.Place.TheVariants.{Matrix, Payout}
use Rattle.source.specs.Meaning.{Meaning, same}
use Rattle.law.specs.Calls.{Given}
use Rattle.law.specs.Calls.Given.{opening, post, range, propose, attempt, run, narrow}

-- n and k of the last opening; a new docket has 1 and 0
abbrev pub states_of : List Given → ℕ
states_of [] = 1
states_of (opening n k ∷ h) = n
states_of (post p a ∷ h) = states_of h
states_of (range v low high ∷ h) = states_of h
states_of (propose r g ∷ h) = states_of h
states_of (attempt ys ∷ h) = states_of h
states_of (run t ∷ h) = states_of h
states_of (narrow ∷ h) = states_of h

abbrev pub settings_of : List Given → ℕ
settings_of [] = 0
settings_of (opening n k ∷ h) = k
settings_of (post p a ∷ h) = settings_of h
settings_of (range v low high ∷ h) = settings_of h
settings_of (propose r g ∷ h) = settings_of h
settings_of (attempt ys ∷ h) = settings_of h
settings_of (run t ∷ h) = settings_of h
settings_of (narrow ∷ h) = settings_of h

-- the sum of the amounts posted at a place since the docket was new or last opened
abbrev pub posted : List Given → Place → ℤ
posted [] q = pos 0
posted (opening n k ∷ h) q = pos 0
posted (post p a ∷ h) q = cond (same p q) (posted h q +ℤ a) (posted h q)
posted (range v low high ∷ h) q = posted h q
posted (propose r g ∷ h) q = posted h q
posted (attempt ys ∷ h) q = posted h q
posted (run t ∷ h) q = posted h q
posted (narrow ∷ h) q = posted h q

-- the places that the source M holds: the standing ones, and those posted at since then
abbrev pub held_of : Meaning → List Given → Place → Bool
held_of M [] q = M.standing q
held_of M (opening n k ∷ h) q = M.standing q
held_of M (post p a ∷ h) q = same p q || held_of M h q
held_of M (range v low high ∷ h) q = held_of M h q
held_of M (propose r g ∷ h) q = held_of M h q
held_of M (attempt ys ∷ h) q = held_of M h q
held_of M (run t ∷ h) q = held_of M h q
held_of M (narrow ∷ h) q = held_of M h q

-- what the source M means after the calls
abbrev pub source_of : Meaning → List Given → Meaning
source_of M h = record { coefficient = posted h; held = held_of M h; capacity = M.capacity; standing = M.standing }

-- the last range of a setting since then, else 0..0
abbrev pub range_of : List Given → ℕ → Interval
range_of [] v = point (pos 0)
range_of (opening n k ∷ h) v = point (pos 0)
range_of (post p a ∷ h) v = range_of h v
range_of (range w low high ∷ h) v = cond (w == v) (record { low = low; high = high }) (range_of h v)
range_of (propose r g ∷ h) v = range_of h v
range_of (attempt ys ∷ h) v = range_of h v
range_of (run t ∷ h) v = range_of h v
range_of (narrow ∷ h) v = range_of h v

-- the posted equations, with the settings' ranges
abbrev pub game_of : List Given → Game
game_of h = record {
  states = states_of h;
  settings = settings_of h;
  matrix = λ v i j. posted h (Matrix v i j);
  payout = λ v i. posted h (Payout v i);
  range = range_of h;
}

-- a proposal by its numbers: R by rows, and the guesses
pub record Offer : Type 0 where
  pub table : List ℤ
  pub guesses : List ℤ

-- the proposal that stands: the last accepted, unless an opening, a post or a range setting came after it
abbrev pub stands : List Given → Option Offer
stands [] = None
stands (opening n k ∷ h) = None
stands (post p a ∷ h) = None
stands (range v low high ∷ h) = None
stands (propose r g ∷ h) = Some (record { table = r; guesses = g })
stands (attempt ys ∷ h) = stands h
stands (run t ∷ h) = stands h
stands (narrow ∷ h) = stands h

abbrev pub offered : List Given → Offer → Proposal
offered h o = offer (states_of h) o.table o.guesses

-- what gives the held ranges: the proposal, the accepted box, and how many narrowings followed it
pub record Basis : Type 0 where
  pub offer : Offer
  pub box : ℕ → Interval
  pub narrowings : ℕ

-- an accepted try has the box that it was given
abbrev pub tried : Option Offer → List ℤ → Option Basis
tried None ys = None
tried (Some o) ys = Some (record { offer = o; box = box ys; narrowings = 0 })

-- an accepted run has the box of the trial whose number it answers
abbrev pub numbered : {F : Type 0} → Offer → (ℕ → ℕ → Interval) → Result ℕ F → Option Basis
numbered o bs (Ok a) = Some (record { offer = o; box = bs (pred a); narrowings = 0 })
numbered o bs (Err f) = None

abbrev pub ran : ℕ → List Given → Option Offer → ℕ → Option Basis
ran S h None t = None
ran S h (Some o) t = numbered o (boxes S (game_of h) (offered h o)) (trials S (game_of h) (offered h o) (pred t) 0)

abbrev pub narrower : Option Basis → Option Basis
narrower None = None
narrower (Some b) = Some (record { offer = b.offer; box = b.box; narrowings = suc b.narrowings })

-- ranges are held after a try or a run, and after the narrowings of what it gave
abbrev pub holds : ℕ → List Given → Option Basis
holds S [] = None
holds S (opening n k ∷ h) = None
holds S (post p a ∷ h) = None
holds S (range v low high ∷ h) = None
holds S (propose r g ∷ h) = None
holds S (attempt ys ∷ h) = tried (stands h) ys
holds S (run t ∷ h) = ran S h (stands h) t
holds S (narrow ∷ h) = narrower (holds S h)

-- the range of row i that the rules give
abbrev pub range_held : ℕ → List Given → Basis → ℕ → Interval
range_held S h b i = held S (game_of h) (offered h b.offer) (narrowed S (game_of h) (offered h b.offer) b.box b.narrowings) i
