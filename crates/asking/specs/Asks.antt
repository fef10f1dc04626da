-- what is asked of a docket, as plain data
use Rattle.std.specs.Prelude.{ℕ, vec_items}
use Rattle.law.specs.declared.ask.Ask.{Ask}
use Rattle.law.specs.declared.ask.Ask.TheVariants as ask
use Rattle.law.specs.Calls.{Given, given}
use Rattle.law.specs.Calls.Given.{opening, post, range, propose, attempt, run, narrow}
use Rattle.asking.specs.declared.asked.Asked.{Asked}
use Rattle.asking.specs.declared.asked.Asked.TheVariants.{Open, Post, Range, Propose, Try, Run, Narrow, Row, Table}

pub data Plain : Type 0 where
  call : Given → Plain
  row : ℕ → Plain

abbrev pub asked : Ask → Plain
asked (ask.Make c) = call (given c)
asked (ask.Row i) = row i

abbrev pub count_of : Asked → ℕ
count_of (Open n k) = 1
count_of (Post p a) = 1
count_of (Range v low high) = 1
count_of (Propose r g) = 1
count_of (Try ys) = 1
count_of (Run t) = 1
count_of Narrow = 1
count_of (Row i) = 1
count_of Table = 12

-- the ask of number i; only a table has more than one
abbrev pub asks : Asked → ℕ → Plain
asks (Open n k) i = call (opening n k)
asks (Post p a) i = call (post p a)
asks (Range v low high) i = call (range v low high)
asks (Propose r g) i = call (propose (vec_items r) (vec_items g))
asks (Try ys) i = call (attempt (vec_items ys))
asks (Run t) i = call (run t)
asks Narrow i = call narrow
asks (Row j) i = row j
asks Table i = row i
