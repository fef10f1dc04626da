-- a sum of products of numbers in two lists, the second read with a stride
use Rattle.std.specs.Prelude.{ℕ, ◌*◌, List, ℤ, pos, ◌*ℤ◌, slice_index_or}
use Rattle.method.specs.Sums.{int_sum}

-- the first m products
abbrev pub dotted : List ℤ → List ℤ → ℕ → ℕ → ℤ
dotted a b stride m = int_sum m (λ j. slice_index_or a j (pos 0) *ℤ slice_index_or b (j * stride) (pos 0))
