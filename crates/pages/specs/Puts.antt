-- what is put to a run, as plain data
use Rattle.std.specs.Prelude.{ℕ, zero, suc, Bool, List, [], ◌∷◌, ◌++◌, Some, None, vec_items, Option}
use Rattle.asking.specs.Asks.{Plain, asked, asks, count_of}
use Rattle.filing.specs.declared.step.Step as filing
use Rattle.filing.specs.declared.step.Step.TheVariants.{Asking, Check as Checking, Write as Writing}
use Rattle.pages.specs.declared.posed.Posed.{Posed}
use Rattle.pages.specs.declared.posed.Posed.TheVariants.{Game, Write, Check}

pub data Put : Type 0 where
  ask : Plain → Put
  check : List ℕ → Bool → Put
  write : ℕ → Put

abbrev pub put : filing.Step → Put
put (Asking a) = ask (asked a)
put (Checking bs own) = check bs.now own
put (Writing room) = write room

abbrev pub longest : ℕ
longest = 8340

abbrev pub room_of : Option ℕ → ℕ
room_of (Some l) = l
room_of None = longest

abbrev pub posed_count : Posed → ℕ
posed_count (Game a) = count_of a
posed_count (Write l) = 1
posed_count (Check bs own) = 1

-- the step of number i; only a table has more than one
abbrev pub posed_puts : Posed → ℕ → Put
posed_puts (Game a) i = ask (asks a i)
posed_puts (Write l) i = write (room_of l)
posed_puts (Check bs own) i = check (vec_items bs) own

abbrev pub first_puts : ℕ → (ℕ → Put) → List Put
first_puts zero f = []
first_puts (suc n) f = first_puts n f ++ (f n ∷ [])
