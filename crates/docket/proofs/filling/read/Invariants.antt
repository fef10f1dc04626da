use Rattle.std.proofs.Common.{◌≡◌, ℕ, ◌<◌, get_or, pos}
use Rattle.source.specs.declared.place.Place.{Place}
use Rattle.docket.specs.Filling.{read_at}
use Rattle.docket.proofs.filling.read.Given as goal

abbrev pub invariant-loop-at : goal.invariant-loop-at
invariant-loop-at g l = (t : ℕ) → t < l.at → (p : Place) × goal.F-post g l.place_at t p × (get_or l.numbers t (pos 0) ≡ read_at l.figures (g.C.Source.meaning l.source) p)
