-- little-endian numbers of 32 bits in bytes
use Rattle.std.specs.Prelude.{ℕ, ◌+◌, ◌-◌, ◌*◌, cond, List, ℤ, pos, negsuc, nat_lt, slice_index}

-- four bytes, the least first; 0 past the last byte
abbrev pub unsigned_at : List ℕ → ℕ → ℕ
unsigned_at bs b = slice_index bs b + 256 * slice_index bs (b + 1) + 65536 * slice_index bs (b + 2) + 16777216 * slice_index bs (b + 3)

-- the signed number of 32 unsigned bits
abbrev pub signed_of : ℕ → ℤ
signed_of u = cond (nat_lt u 2147483648) (pos u) (negsuc (4294967295 - u))

abbrev pub number_at : List ℕ → ℕ → ℤ
number_at bs b = signed_of (unsigned_at bs b)
