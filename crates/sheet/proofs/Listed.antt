-- the length and the numbers of what is listed
use Rattle.std.proofs.Common.{◌≡◌, ℕ, zero, suc, ◌+◌, ◌<◌, ◌≤◌, [], ◌∷◌, length, get_or, ℤ, pos, sym, refl, ap, ◌∙◌, inl, inr, eq-or-lt_of_le, add-one, arith, length-append}
use Rattle.std.proofs.lemmas.List.{get_or_append_left, get_or_push}
use Rattle.sheet.specs.Rechecks.{listed}

pub length_listed : (m : ℕ) (f : ℕ → ℤ) → length (listed m f) ≡ m
unfolding listed
length_listed zero f = refl
length_listed (suc m) f = length-append (listed m f) (f m ∷ []) ∙ ap (λ z. z + 1) (length_listed m f) ∙ add-one m

pub slice_index_listed : (m : ℕ) (f : ℕ → ℤ) (t : ℕ) → t < m → get_or (listed m f) t (pos 0) ≡ f t
unfolding listed
slice_index_listed zero f t l = elim l [ ]
slice_index_listed (suc m) f t l =
    let k : t ≤ m = omega arith in
    elim (eq-or-lt_of_le k) [
      | inl e ↦ get_or_push (listed m f) (f m) (pos 0) t (length_listed m f ∙ sym e) ∙ ap f (sym e)
      | inr j ↦ get_or_append_left (listed m f) (f m ∷ []) (pos 0) t (omega (arith, length_listed m f)) ∙ slice_index_listed m f t j
    ]
