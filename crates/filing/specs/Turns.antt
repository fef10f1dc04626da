-- one turn of a run of calls
use Rattle.std.specs.Prelude.{ℕ, List}
use Rattle.source.specs.Meaning.{Meaning}
use Rattle.law.specs.Calls.{Given}
use Rattle.filing.specs.Law.{Right, Turn, then_counted}
use Rattle.docket.specs.declared.desk.Desk.{Desk}
use Rattle.docket.specs.Reflects.{Reflects}

-- after the calls h the turn u was right, and the docket then reflects the calls that count
pub record Turned (S : ℕ) (M : Meaning) (h : List Given) (u : Turn) (N : Meaning) (P : Type 0) (d : Desk) : Type 0 where
  pub right : Right S M h u
  pub left : Reflects S M (then_counted u h) N P d
