-- questions with the fault of each no; the first no decides
use Rattle.std.specs.Prelude.{ℕ, zero, suc, ◌*◌, Bool, cond, ◌&&◌, List, [], ◌∷◌, ◌++◌, ℤ, Some, None, Option, nat_le, unsigned_abs}
use Rattle.span.specs.Intervals.{Interval}

pub record Question (F : Type 0) : Type 0 where
  pub is_yes : Bool
  pub fault : F

abbrev pub ask : {F : Type 0} → Bool → F → Question F
ask b f = record { is_yes = b; fault = f }

unfoldable pub first_no : {F : Type 0} → List (Question F) → Option F
first_no [] = None
first_no (q ∷ qs) = cond q.is_yes (first_no qs) (Some q.fault)

-- a question for each number below n, in order
unfoldable pub each : {F : Type 0} → ℕ → (ℕ → Question F) → List (Question F)
each zero q = []
each (suc n) q = each n q ++ (q n ∷ [])

-- is the figure within w wholes of S units?
abbrev pub within : ℕ → ℕ → ℤ → Bool
within S w z = nat_le (unsigned_abs z) (w * S)

-- are both ends?
abbrev pub ends_within : ℕ → ℕ → Interval → Bool
ends_within S w s = within S w s.low && within S w s.high
