-- numbers in bytes that are as they were, and four bytes set
use Rattle.std.proofs.Common.{◌≡◌, ℕ, ◌+◌, ◌<◌, ◌≤◌, ◌≢◌, List, length, get_or, set, ap, arith}
use Rattle.std.proofs.lemmas.List.{get_or-set_other, get_or-set_same, length-set}
use Rattle.sheet.specs.Bytes.{number_at, signed_of, unsigned_at}

-- the four bytes from b on are alike in two lists
abbrev pub AlikeAt : List ℕ → List ℕ → ℕ → Type 0
AlikeAt xs ys b = (i : ℕ) → b ≤ i → i < b + 4 → get_or xs i 0 ≡ get_or ys i 0

pub same_unsigned : (xs ys : List ℕ) (b : ℕ) → AlikeAt xs ys b → unsigned_at xs b ≡ unsigned_at ys b
same_unsigned xs ys b s = omega (arith, s b (omega arith) (omega arith), s (b + 1) (omega arith) (omega arith), s (b + 2) (omega arith) (omega arith), s (b + 3) (omega arith) (omega arith))

pub same_number : (xs ys : List ℕ) (b : ℕ) → AlikeAt xs ys b → number_at xs b ≡ number_at ys b
same_number xs ys b s = ap signed_of (same_unsigned xs ys b s)

module _ (xs : List ℕ) (a w x y z : ℕ) where
  -- the second four bytes from a on replaced by others
  abbrev pub four_set : List ℕ
  four_set = set (set (set (set xs (a + 4) w) (a + 5) x) (a + 6) y) (a + 7) z

  pub four_long : length four_set ≡ length xs
  four_long = simp length-set

  pub four_before : (i : ℕ) → i < a + 4 → get_or four_set i 0 ≡ get_or xs i 0
  four_before i h =
      let k : i ≢ a + 4 = omega arith in
      let l : i ≢ a + 5 = omega arith in
      let m : i ≢ a + 6 = omega arith in
      let n : i ≢ a + 7 = omega arith in
      rw (get_or-set_other, get_or-set_other, get_or-set_other, get_or-set_other)

  pub four_after : (i : ℕ) → a + 8 ≤ i → get_or four_set i 0 ≡ get_or xs i 0
  four_after i h =
      let k : i ≢ a + 4 = omega arith in
      let l : i ≢ a + 5 = omega arith in
      let m : i ≢ a + 6 = omega arith in
      let n : i ≢ a + 7 = omega arith in
      rw (get_or-set_other, get_or-set_other, get_or-set_other, get_or-set_other)

  module _ (room : a + 8 ≤ length xs) where
    pub four_first : get_or four_set (a + 4) 0 ≡ w
    four_first =
        let k : a + 4 ≢ a + 5 = omega arith in
        let l : a + 4 ≢ a + 6 = omega arith in
        let m : a + 4 ≢ a + 7 = omega arith in
        let n : a + 4 < length xs = omega arith in
        rw (get_or-set_other, get_or-set_other, get_or-set_other, get_or-set_same)

    pub four_second : get_or four_set (a + 5) 0 ≡ x
    four_second =
        let l : a + 5 ≢ a + 6 = omega arith in
        let m : a + 5 ≢ a + 7 = omega arith in
        let n : a + 5 < length (set xs (a + 4) w) = simp length-set (omega arith) in
        rw (get_or-set_other, get_or-set_other, get_or-set_same)

    pub four_third : get_or four_set (a + 6) 0 ≡ y
    four_third =
        let m : a + 6 ≢ a + 7 = omega arith in
        let n : a + 6 < length (set (set xs (a + 4) w) (a + 5) x) = simp length-set (omega arith) in
        rw (get_or-set_other, get_or-set_same)

    pub four_fourth : get_or four_set (a + 7) 0 ≡ z
    four_fourth =
        let n : a + 7 < length (set (set (set xs (a + 4) w) (a + 5) x) (a + 6) y) = simp length-set (omega arith) in
        rw get_or-set_same
