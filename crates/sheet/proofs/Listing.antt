-- lists by their numbers
use Rattle.std.proofs.Common.{◌≡◌, ℕ, zero, suc, ◌+◌, ◌<◌, ◌≤◌, List, [], ◌∷◌, ◌++◌, length, get_or, take, ℤ, pos, sym, refl, ap, ◌∙◌, add-one, arith}
use Rattle.std.proofs.lemmas.List.{get_or-take, length-take-le, take_all, take_more}
use Rattle.sheet.specs.Rechecks.{listed}

taken_listed : (xs : List ℤ) (f : ℕ → ℤ) (m : ℕ) → ((t : ℕ) → t < length xs → get_or xs t (pos 0) ≡ f t) → m < length xs + 1 → take m xs ≡ listed m f
unfolding listed
taken_listed xs f zero e l = refl
taken_listed xs f (suc m) e l =
    let k : m < length xs = omega arith in
    ap (λ z. take z xs) (sym (add-one m)) ∙ take_more xs m (pos 0) k ∙ ap (λ z. take m xs ++ (z ∷ [])) (e m k) ∙ ap (λ z. z ++ (f m ∷ [])) (taken_listed xs f m e (omega arith))

-- a list is told by its length and its numbers
pub is_listed : (xs : List ℤ) (f : ℕ → ℤ) (m : ℕ) → length xs ≡ m → ((t : ℕ) → t < m → get_or xs t (pos 0) ≡ f t) → xs ≡ listed m f
is_listed xs f m n e =
    sym (take_all m xs (omega (arith, n))) ∙ taken_listed xs f m (λ t l. e t (omega (arith, n, l))) (omega (arith, n))

-- the first m of them
pub is_taken : (xs : List ℤ) (f : ℕ → ℤ) (m : ℕ) → m ≤ length xs → ((t : ℕ) → t < m → get_or xs t (pos 0) ≡ f t) → take m xs ≡ listed m f
is_taken xs f m l e = is_listed (take m xs) f m (length-take-le m xs l) (λ t k. get_or-take m xs t (pos 0) k ∙ e t k)
