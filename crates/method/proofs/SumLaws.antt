-- laws of the sums over the numbers below n
use Rattle.std.proofs.Common.{◌≡◌, ℕ, zero, suc, ◌*◌, ◌<◌, ◌≤◌, cond, eqb, ℤ, pos, ◌+ℤ◌, ◌-ℤ◌, ◌*ℤ◌, neg_ℤ, nat_abs, sym, refl, ap, ◌∙◌, inl, inr, eq-or-lt_of_le, mul-add, arith, eq-eqb, ne_eqb}
use lib.IntN.{*ℤ-zero, zero-*ℤ, *ℤ_comm}
use Rattle.method.specs.Sums.{int_sum, nat_sum}
use Rattle.span.proofs.Integers.{lin, *ℤ_add_right, *ℤ_neg_right, *ℤ_left_comm}

-- sums of equal terms are equal
pub sum_same : (n : ℕ) (f g : ℕ → ℤ) → ((j : ℕ) → j < n → f j ≡ g j) → int_sum n f ≡ int_sum n g
sum_same zero f g e = refl
sum_same (suc n) f g e = omega (arith, lin, sum_same n f g (λ j h. e j (omega arith)), e n (omega arith))

pub sum_add : (n : ℕ) (f g : ℕ → ℤ) → int_sum n (λ j. f j +ℤ g j) ≡ int_sum n f +ℤ int_sum n g
sum_add zero f g = refl
sum_add (suc n) f g = omega (arith, lin, sum_add n f g)

pub sum_sub : (n : ℕ) (f g : ℕ → ℤ) → int_sum n (λ j. f j -ℤ g j) ≡ int_sum n f -ℤ int_sum n g
sum_sub zero f g = refl
sum_sub (suc n) f g = omega (arith, lin, sum_sub n f g)

pub sum_scale : (n : ℕ) (z : ℤ) (f : ℕ → ℤ) → int_sum n (λ j. z *ℤ f j) ≡ z *ℤ int_sum n f
sum_scale zero z f = sym (*ℤ-zero z)
sum_scale (suc n) z f = omega (arith, lin, sum_scale n z f, *ℤ_add_right z (int_sum n f) (f n))

pub sum_zero : (n : ℕ) (f : ℕ → ℤ) → ((j : ℕ) → j < n → f j ≡ pos 0) → int_sum n f ≡ pos 0
sum_zero zero f e = refl
sum_zero (suc n) f e = omega (arith, lin, sum_zero n f (λ j h. e j (omega arith)), e n (omega arith))

-- the first term by itself
pub sum_front : (n : ℕ) (f : ℕ → ℤ) → int_sum (suc n) f ≡ f 0 +ℤ int_sum n (λ j. f (suc j))
sum_front zero f = omega (arith, lin)
sum_front (suc n) f = omega (arith, lin, sum_front n f)

-- the order of two sums does not matter
pub sum_swap : (n m : ℕ) (f : ℕ → ℕ → ℤ) → int_sum n (λ i. int_sum m (λ j. f i j)) ≡ int_sum m (λ j. int_sum n (λ i. f i j))
sum_swap zero m f = sym (sum_zero m (λ j. pos 0) (λ j h. refl))
sum_swap (suc n) m f = omega (arith, lin, sum_swap n m f, sum_add m (λ j. int_sum n (λ i. f i j)) (λ j. f n j))

-- a sum of multiples of sums of multiples, the other way round
pub exchanged : (k n : ℕ) (t r : ℕ → ℤ) (f : ℕ → ℕ → ℤ) → int_sum k (λ v. t v *ℤ int_sum n (λ l. r l *ℤ f v l)) ≡ int_sum n (λ l. r l *ℤ int_sum k (λ v. t v *ℤ f v l))
exchanged k n t r f =
    sum_same k (λ v. t v *ℤ int_sum n (λ l. r l *ℤ f v l)) (λ v. int_sum n (λ l. t v *ℤ (r l *ℤ f v l))) (λ v h. sym (sum_scale n (t v) (λ l. r l *ℤ f v l)))
    ∙ sum_swap k n (λ v l. t v *ℤ (r l *ℤ f v l))
    ∙ sum_same n (λ l. int_sum k (λ v. t v *ℤ (r l *ℤ f v l))) (λ l. r l *ℤ int_sum k (λ v. t v *ℤ f v l))
    (λ l h. sum_same k (λ v. t v *ℤ (r l *ℤ f v l)) (λ v. r l *ℤ (t v *ℤ f v l)) (λ v g. *ℤ_left_comm (t v) (r l) (f v l)) ∙ sum_scale k (r l) (λ v. t v *ℤ f v l))

pub exchanged_right : (k n : ℕ) (u r : ℕ → ℤ) (f : ℕ → ℕ → ℤ) → int_sum k (λ j. int_sum n (λ l. r l *ℤ f l j) *ℤ u j) ≡ int_sum n (λ l. r l *ℤ int_sum k (λ j. f l j *ℤ u j))
exchanged_right k n u r f =
    sum_same k (λ j. int_sum n (λ l. r l *ℤ f l j) *ℤ u j) (λ j. u j *ℤ int_sum n (λ l. r l *ℤ f l j)) (λ j h. *ℤ_comm (int_sum n (λ l. r l *ℤ f l j)) (u j))
    ∙ exchanged k n u r (λ j l. f l j)
    ∙ sum_same n (λ l. r l *ℤ int_sum k (λ j. u j *ℤ f l j)) (λ l. r l *ℤ int_sum k (λ j. f l j *ℤ u j))
    (λ l h. ap (λ z. r l *ℤ z) (sum_same k (λ j. u j *ℤ f l j) (λ j. f l j *ℤ u j) (λ j g. *ℤ_comm (u j) (f l j))))

-- the sum of a times a difference of multiples
pub sum_mixed : (n : ℕ) (x y : ℤ) (a f g : ℕ → ℤ) → int_sum n (λ j. a j *ℤ (x *ℤ f j -ℤ y *ℤ g j)) ≡ x *ℤ int_sum n (λ j. a j *ℤ f j) -ℤ y *ℤ int_sum n (λ j. a j *ℤ g j)
sum_mixed n x y a f g =
    let e : int_sum n (λ j. a j *ℤ (x *ℤ f j -ℤ y *ℤ g j)) ≡ int_sum n (λ j. x *ℤ (a j *ℤ f j) -ℤ y *ℤ (a j *ℤ g j)) = sum_same n (λ j. a j *ℤ (x *ℤ f j -ℤ y *ℤ g j)) (λ j. x *ℤ (a j *ℤ f j) -ℤ y *ℤ (a j *ℤ g j)) (λ j h. mixed (a j) (f j) (g j)) in
    omega (arith, lin, e, sum_sub n (λ j. x *ℤ (a j *ℤ f j)) (λ j. y *ℤ (a j *ℤ g j)), sum_scale n x (λ j. a j *ℤ f j), sum_scale n y (λ j. a j *ℤ g j))
  where
    mixed : (a b c : ℤ) → a *ℤ (x *ℤ b -ℤ y *ℤ c) ≡ x *ℤ (a *ℤ b) -ℤ y *ℤ (a *ℤ c)
    mixed a b c = omega (arith, lin, *ℤ_add_right a (x *ℤ b) (neg_ℤ (y *ℤ c)), *ℤ_neg_right a (y *ℤ c), *ℤ_left_comm a x b, *ℤ_left_comm a y c)

-- the size of a sum is at most the sum of the sizes
pub sum_size : (n : ℕ) (f : ℕ → ℤ) → nat_abs (int_sum n f) ≤ nat_sum n (λ j. nat_abs (f j))
sum_size zero f = omega arith
sum_size (suc n) f = omega (arith, lin, sum_size n f)

pub nat_sum_least : (n : ℕ) (f g : ℕ → ℕ) → ((j : ℕ) → j < n → f j ≤ g j) → nat_sum n f ≤ nat_sum n g
nat_sum_least zero f g h = omega arith
nat_sum_least (suc n) f g h = omega (arith, nat_sum_least n f g (λ j l. h j (omega arith)), h n (omega arith))

pub nat_sum_scale : (n z : ℕ) (f : ℕ → ℕ) → nat_sum n (λ j. z * f j) ≡ z * nat_sum n f
nat_sum_scale zero z f = omega arith
nat_sum_scale (suc n) z f = omega (arith, nat_sum_scale n z f, mul-add z (nat_sum n f) (f n))

-- a sum in which only the term at i is not nothing
pub sum_pick : (n i : ℕ) (a : ℤ) (u : ℕ → ℤ) → i < n → int_sum n (λ j. cond (eqb i j) a (pos 0) *ℤ u j) ≡ a *ℤ u i
sum_pick zero i a u h = elim h [ ]
sum_pick (suc n) i a u h = elim (eq-or-lt_of_le here) [ inl e ↦ last e | inr l ↦ earlier (sum_pick n i a u l) l ]
  where
    here : i ≤ n
    here = omega arith

    other : (j : ℕ) → (i ≡ j → ⊥) → cond (eqb i j) a (pos 0) *ℤ u j ≡ pos 0
    other j d = ap (λ b. cond b a (pos 0) *ℤ u j) (ne_eqb i j d) ∙ zero-*ℤ (u j)

    same : cond (eqb i i) a (pos 0) *ℤ u i ≡ a *ℤ u i
    same = ap (λ b. cond b a (pos 0) *ℤ u i) (eq-eqb i i refl)

    last : i ≡ n → int_sum (suc n) (λ j. cond (eqb i j) a (pos 0) *ℤ u j) ≡ a *ℤ u i
    last e = rw (← e) (omega (arith, lin, sum_zero i (λ j. cond (eqb i j) a (pos 0) *ℤ u j) (λ j l. other j (λ d. omega arith)), same))

    earlier : int_sum n (λ j. cond (eqb i j) a (pos 0) *ℤ u j) ≡ a *ℤ u i → i < n → int_sum (suc n) (λ j. cond (eqb i j) a (pos 0) *ℤ u j) ≡ a *ℤ u i
    earlier e l = omega (arith, lin, other n (λ d. omega arith))
