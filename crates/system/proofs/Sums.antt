-- when a figure with an amount added is within its limit
use Rattle.std.proofs.Common.{◌≡◌, ℕ, ◌*◌, ◌<◌, ◌≤◌, true, false, List, get_or, set, ℤ, pos, ◌+ℤ◌, nat_abs, ap, w32, SFits, to_z, of_z}
use Rattle.std.proofs.lemmas.Int.{to_z-of_z}
use Rattle.std.proofs.lemmas.Bool.{le-leb, lt-leb}
use Rattle.span.specs.Questions.{within}

-- the code's sum of what stands at a place and an amount: beyond L units, within them, and stored
module _ (xs : List ℤ) (at place : ℕ) (a : ℤ) (here : at ≡ place) (held : SFits w32 (get_or xs at (pos 0))) (amount : SFits w32 a) where
  pub sum_beyond : (S w L : ℕ) → L ≡ w * S → L < nat_abs (to_z w32 (of_z w32 (get_or xs at (pos 0))) +ℤ to_z w32 (of_z w32 a)) → within S w (get_or xs place (pos 0) +ℤ a) ≡ false
  sum_beyond S w L e h =
      let k : L < nat_abs (get_or xs at (pos 0) +ℤ a) = simp to_z-of_z at h in
      rw (← here) (lt-leb (nat_abs (get_or xs at (pos 0) +ℤ a)) (w * S) (rw e at k))

  pub sum_within : (S w L : ℕ) → L ≡ w * S → nat_abs (to_z w32 (of_z w32 (get_or xs at (pos 0))) +ℤ to_z w32 (of_z w32 a)) ≤ L → within S w (get_or xs place (pos 0) +ℤ a) ≡ true
  sum_within S w L e h =
      let k : nat_abs (get_or xs at (pos 0) +ℤ a) ≤ L = simp to_z-of_z at h in
      rw (← here) (le-leb (nat_abs (get_or xs at (pos 0) +ℤ a)) (w * S) (rw e at k))

  pub sum_stored : (sum : ℤ) → SFits w32 sum → sum ≡ to_z w32 (of_z w32 (get_or xs at (pos 0))) +ℤ to_z w32 (of_z w32 a) → set xs at (to_z w32 (of_z w32 sum)) ≡ set xs place (get_or xs place (pos 0) +ℤ a)
  sum_stored sum f e =
      let k : sum ≡ get_or xs at (pos 0) +ℤ a = simp to_z-of_z at e in
      rw (← here, to_z-of_z w32 sum f) (ap (set xs at) k)
