-- each coefficient of a sheet has a place of its own
use Rattle.std.proofs.Common.{◌≡◌, ℕ, ◌+◌, ◌*◌, ◌/◌, ◌%◌, ◌<◌, ◌≤◌, Bool, true, false, cond, eqb, ◌≢◌, sym, refl, ap, ◌∙◌, subst, mod-lt, mod-eq_of_lt, mul_assoc, mul_comm, div-lt_iff_lt-mul, mul-pos, arith}
use native.Mathlib.Nat.{div-add-mod, div-div-eq-div-mul, div-eq_of_lt, mul-add-div_right, mul-add-mod_self_right}
use Rattle.std.proofs.lemmas.Nat.{mul-add-lt}
use Rattle.std.proofs.lemmas.Bool.{and_from, cond-false, cond-true, eq-eqb, eqb-false, eqb-true, le-leb, lt-ltb, ne_eqb}
use Rattle.source.specs.declared.place.Place.{Place}
use Rattle.source.specs.declared.place.Place.TheVariants.{Matrix, Payout}
use Rattle.source.specs.Meaning.{same}
use Rattle.law.specs.Decides.{has_place}
use Rattle.source.proofs.Places.{same_true}
use Rattle.sheet.specs.Layout.{at_ranges, place_of}

pub same_self : (p : Place) → same p p ≡ true
same_self (Matrix v i j) = and_from _ _ (and_from _ _ (eq-eqb v v refl) (eq-eqb i i refl)) (eq-eqb j j refl)
same_self (Payout v i) = and_from _ _ (eq-eqb v v refl) (eq-eqb i i refl)

-- a payout stands in column n
part : Place → ℕ
part (Matrix v i j) = v
part (Payout v i) = v

row : Place → ℕ
row (Matrix v i j) = i
row (Payout v i) = i

column : ℕ → Place → ℕ
column n (Matrix v i j) = j
column n (Payout v i) = n

part_of : (b : Bool) (v i j : ℕ) → part (cond b (Payout v i) (Matrix v i j)) ≡ v
unfolding part
part_of true v i j = refl
part_of false v i j = refl

row_of : (b : Bool) (v i j : ℕ) → row (cond b (Payout v i) (Matrix v i j)) ≡ i
unfolding row
row_of true v i j = refl
row_of false v i j = refl

column_of : (b : Bool) (n v i j : ℕ) → (b ≡ true → j ≡ n) → column n (cond b (Payout v i) (Matrix v i j)) ≡ j
unfolding column
column_of true n v i j e = sym (e refl)
column_of false n v i j e = refl

module _ (n : ℕ) where
  at_part : (t : ℕ) → part (place_of n t) ≡ t / (n * (n + 1))
  at_part t = part_of (eqb (t % (n + 1)) n) _ _ _

  at_row : (t : ℕ) → row (place_of n t) ≡ (t / (n + 1)) % n
  at_row t = row_of (eqb (t % (n + 1)) n) _ _ _

  at_column : (t : ℕ) → column n (place_of n t) ≡ t % (n + 1)
  at_column t = column_of (eqb (t % (n + 1)) n) n _ _ _ (eqb-true (t % (n + 1)) n)

  -- t is told by its three numbers
  whole : (t : ℕ) → (n + 1) * (n * (t / (n * (n + 1))) + (t / (n + 1)) % n) + t % (n + 1) ≡ t
  whole t =
      let a = ap (λ d. t / d) (mul_comm n (n + 1)) ∙ sym (div-div-eq-div-mul t (n + 1) n) in
      let b = ap (λ d. n * d + (t / (n + 1)) % n) a ∙ div-add-mod (t / (n + 1)) n in
      ap (λ d. (n + 1) * d + t % (n + 1)) b ∙ div-add-mod t (n + 1)

  pub own_place : (s t : ℕ) → place_of n s ≡ place_of n t → s ≡ t
  own_place s t e =
      let a = sym (at_part s) ∙ ap part e ∙ at_part t in
      let b = sym (at_row s) ∙ ap row e ∙ at_row t in
      let c = sym (at_column s) ∙ ap (column n) e ∙ at_column t in
      sym (whole s) ∙ ap (λ d. (n + 1) * (n * d + (s / (n + 1)) % n) + s % (n + 1)) a ∙ ap (λ d. (n + 1) * (n * (t / (n * (n + 1))) + d) + s % (n + 1)) b ∙ ap (λ d. (n + 1) * (n * (t / (n * (n + 1))) + (t / (n + 1)) % n) + d) c ∙ whole t

  pub same_coefficient : (s t : ℕ) → same (place_of n s) (place_of n t) ≡ true → s ≡ t
  same_coefficient s t e = own_place s t (same_true (place_of n s) (place_of n t) e)

-- ---- and every place of a game is that of a coefficient
module _ (n : ℕ) (some : 0 < n) where
  -- the coefficient of part v, row i and column j
  abbrev pub index : ℕ → ℕ → ℕ → ℕ
  index v i j = (v * n + i) * (n + 1) + j

  module _ (v i j : ℕ) (row : i < n) (column : j < n + 1) where
    one_more : 0 < n + 1
    one_more = omega arith

    over_row : index v i j / (n + 1) ≡ v * n + i
    over_row = mul-add-div_right one_more (v * n + i) j ∙ ap (λ z. v * n + i + z) (div-eq_of_lt column) ∙ omega arith

    index_column : index v i j % (n + 1) ≡ j
    index_column = mul-add-mod_self_right (v * n + i) (n + 1) j ∙ mod-eq_of_lt column

    index_row : (index v i j / (n + 1)) % n ≡ i
    index_row = ap (λ z. z % n) over_row ∙ mul-add-mod_self_right v n i ∙ mod-eq_of_lt row

    index_part : index v i j / (n * (n + 1)) ≡ v
    index_part =
        ap (λ d. index v i j / d) (mul_comm n (n + 1)) ∙ sym (div-div-eq-div-mul (index v i j) (n + 1) n) ∙ ap (λ z. z / n) over_row
        ∙ mul-add-div_right some v i ∙ ap (λ z. v + z) (div-eq_of_lt row) ∙ omega arith

  pub matrix_at : (v i j : ℕ) → i < n → j < n → place_of n (index v i j) ≡ Matrix v i j
  matrix_at v i j a b =
      let c : j < n + 1 = omega arith in
      let p = index_part v i j a c in
      let r = index_row v i j a c in
      let q = index_column v i j a c in
      cond-false _ _ _ (ap (λ z. eqb z n) q ∙ ne_eqb j n (λ z. omega arith)) ∙ ap (λ z. Matrix z ((index v i j / (n + 1)) % n) (index v i j % (n + 1))) p ∙ ap (λ z. Matrix v z (index v i j % (n + 1))) r ∙ ap (Matrix v i) q

  pub payout_at : (v i : ℕ) → i < n → place_of n (index v i n) ≡ Payout v i
  payout_at v i a =
      let c : n < n + 1 = omega arith in
      let p = index_part v i n a c in
      let r = index_row v i n a c in
      let q = index_column v i n a c in
      cond-true _ _ _ (ap (λ z. eqb z n) q ∙ eq-eqb n n refl) ∙ ap (λ z. Payout z ((index v i n / (n + 1)) % n)) p ∙ ap (Payout v) r

  pub index_below : (k v i j : ℕ) → v ≤ k → i < n → j < n + 1 → index v i j < at_ranges n k
  index_below k v i j a b c =
      let row : v * n + i < n * (k + 1) = mul-add-lt v n i (k + 1) (omega arith) b in
      let all : index v i j < (n + 1) * (n * (k + 1)) = mul-add-lt (v * n + i) (n + 1) j (n * (k + 1)) row c in
      subst (λ z. index v i j < z) (mul_comm (n + 1) (n * (k + 1)) ∙ ap (λ z. z * (n + 1)) (mul_comm n (k + 1)) ∙ mul_assoc (k + 1) n (n + 1)) all

  has_either : (b : Bool) (k v i j : ℕ) → v ≤ k → i < n → (b ≡ false → j < n) → has_place n k (cond b (Payout v i) (Matrix v i j)) ≡ true
  has_either true k v i j a b c = and_from _ _ (le-leb v k a) (lt-ltb i n b)
  has_either false k v i j a b c = and_from _ _ (and_from _ _ (le-leb v k a) (lt-ltb i n b)) (lt-ltb j n (c refl))

  -- its part, row and column are those of the game
  pub placed : (k t : ℕ) → t < at_ranges n k → has_place n k (place_of n t) ≡ true
  placed k t l =
      let whole : 0 < n * (n + 1) = mul-pos some (omega arith) in
      let part : t / (n * (n + 1)) < k + 1 = (div-lt_iff_lt-mul whole).1 l in
      let column : t % (n + 1) < n + 1 = mod-lt t (omega arith) in
      has_either (eqb (t % (n + 1)) n) k _ _ _ (omega arith) (mod-lt (t / (n + 1)) some) (λ e. let z : t % (n + 1) ≢ n = eqb-false (t % (n + 1)) n e in omega arith)
