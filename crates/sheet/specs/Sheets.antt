-- what a sheet says: its scale, n, k and narrowings, and its numbers in their order
use Rattle.std.specs.Prelude.{ℕ, suc, ◌-◌, ◌/◌, ◌%◌, cond, List, ℤ, pos, ◌==◌, nat_lt, slice_index_or}
use Rattle.span.specs.Intervals.{Interval}
use Rattle.law.specs.Calls.{Given}
use Rattle.law.specs.History.{Basis, posted, range_held, range_of, settings_of, states_of}
use Rattle.sheet.specs.Layout.{at_box, at_claims, at_guesses, at_ranges, at_table, place_of}

pub record Sheet : Type 0 where
  pub scale : ℕ
  pub states : ℕ
  pub settings : ℕ
  pub narrowings : ℕ
  pub number : ℕ → ℤ

-- the low end, then the high end
abbrev pub end : Interval → ℕ → ℤ
end s u = cond (u == 0) s.low s.high

-- number t of what is written after the calls h while ranges are held on the basis b
module _ (S : ℕ) (h : List Given) (b : Basis) where
  abbrev pub n_of : ℕ
  n_of = states_of h

  abbrev pub k_of : ℕ
  k_of = settings_of h

  unfoldable pub number_of : ℕ → ℤ
  number_of t =
      cond (nat_lt t (at_ranges n_of k_of)) (posted h (place_of n_of t))
      (cond (nat_lt t (at_table n_of k_of)) (end (range_of h (suc ((t - at_ranges n_of k_of) / 2))) ((t - at_ranges n_of k_of) % 2))
      (cond (nat_lt t (at_guesses n_of k_of)) (slice_index_or b.offer.table (t - at_table n_of k_of) (pos 0))
      (cond (nat_lt t (at_box n_of k_of)) (slice_index_or b.offer.guesses (t - at_guesses n_of k_of) (pos 0))
      (cond (nat_lt t (at_claims n_of k_of)) (end (b.box ((t - at_box n_of k_of) / 2)) ((t - at_box n_of k_of) % 2))
      (end (range_held S h b ((t - at_claims n_of k_of) / 2)) ((t - at_claims n_of k_of) % 2))))))

  abbrev pub sheet_of : Sheet
  sheet_of = record { scale = S; states = n_of; settings = k_of; narrowings = b.narrowings; number = number_of }
