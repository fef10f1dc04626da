-- a call as plain data: what was asked, with the numbers that were given
use Rattle.std.specs.Prelude.{ℕ, List, ℤ}
use Rattle.source.specs.declared.place.Place.{Place}
use Rattle.law.specs.declared.call.Call.{Call}
use Rattle.law.specs.declared.call.Call.TheVariants.{Open, Post, Range, Propose, Try, Run, Narrow}

pub data Given : Type 0 where
  opening : ℕ → ℕ → Given
  post : Place → ℤ → Given
  range : ℕ → ℤ → ℤ → Given
  propose : List ℤ → List ℤ → Given
  attempt : List ℤ → Given
  run : ℕ → Given
  narrow : Given

abbrev pub given : Call → Given
given (Open n k) = opening n k
given (Post p a) = post p a
given (Range v low high) = range v low high
given (Propose r g) = propose r.now g.now
given (Try ys) = attempt ys.now
given (Run t) = run t
given Narrow = narrow
