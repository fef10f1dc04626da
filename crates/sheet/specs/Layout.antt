-- where the sections of a sheet of n states and k settings begin, counted in numbers of four bytes
use Rattle.std.specs.Prelude.{ℕ, zero, suc, ◌+◌, ◌-◌, ◌*◌, ◌/◌, ◌%◌, cond, ◌==◌}
use Rattle.source.specs.declared.place.Place.{Place}
use Rattle.source.specs.declared.place.Place.TheVariants.{Matrix, Payout}

module _ (n k : ℕ) where
  -- the coefficients stand first
  abbrev pub at_ranges : ℕ
  at_ranges = (k + 1) * (n * (n + 1))

  abbrev pub at_table : ℕ
  at_table = at_ranges + 2 * k

  abbrev pub at_guesses : ℕ
  at_guesses = at_table + n * n

  abbrev pub at_box : ℕ
  at_box = at_guesses + n

  abbrev pub at_claims : ℕ
  at_claims = at_box + 2 * n

  abbrev pub at_trailer : ℕ
  at_trailer = at_claims + 2 * n

  -- the trailer has 28 bytes
  abbrev pub sheet_length : ℕ
  sheet_length = 4 * at_trailer + 28

  -- the first number of section s: coefficients, settings, R and the guesses, the trial box, the claims
  abbrev pub section : ℕ → ℕ
  section zero = 0
  section (suc zero) = at_ranges
  section (suc (suc zero)) = at_table
  section (suc (suc (suc zero))) = at_box
  section (suc (suc (suc (suc s)))) = at_claims

  -- how far its first byte is from the end
  abbrev pub distance : ℕ → ℕ
  distance s = sheet_length - 4 * section s

-- the place of coefficient t of n states: part by part, row by row, n of the matrix and then the payout
abbrev pub place_of : ℕ → ℕ → Place
place_of n t = cond (t % (n + 1) == n) (Payout (t / (n * (n + 1))) ((t / (n + 1)) % n)) (Matrix (t / (n * (n + 1))) ((t / (n + 1)) % n) (t % (n + 1)))
