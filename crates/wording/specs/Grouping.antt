-- a figure with a comma between groups of three digits
use Rattle.std.specs.Prelude.{ℕ, suc, ◌%◌, Bool, cond, ◌&&◌, List, [], ◌∷◌, length, ℤ, pos, negsuc, decimal, ◌==◌, nat_lt}

-- three digits, or six, or nine.. are left
abbrev pub whole_groups : ℕ → Bool
whole_groups left = nat_lt 0 left && left % 3 == 0

abbrev pub commas : List ℕ → List ℕ
commas [] = []
commas (d ∷ ds) = d ∷ cond (whole_groups (length ds)) (44 ∷ commas ds) (commas ds)

abbrev pub grouped_text : ℤ → List ℕ
grouped_text (pos n) = commas (decimal n)
grouped_text (negsuc n) = 45 ∷ commas (decimal (suc n))
