-- fractions over a common denominator, and what ≈ and ≤ᶠ say of their numerators
use Rattle.std.proofs.Common.{◌≡◌, ℕ, zero, suc, ◌*◌, ◌/◌, ◌<◌, ◌⊎◌, ℤ, pos, ◌+ℤ◌, ◌*ℤ◌, ◌≤ℤ◌, sym, refl, ap, ◌∙◌, inl, inr, mul_assoc, mul_comm, mul-pos, arith}
use native.Mathlib.Nat.{mul-div_cancel_left}
use lib.IntN.{zero-*ℤ}
use Rattle.span.proofs.Integers.{lin, expand, scaled}
use Rattle.method.specs.Sums.{int_sum}
use Rattle.method.specs.Fractions.{Frac, units, ◌+ᶠ◌, ◌*ᶠ◌, sumᶠ, ◌≈◌, ◌≤ᶠ◌}
use Rattle.method.proofs.Insides.{unscaled}

-- x is k / D
pub record Over (D : ℕ) (x : Frac) (k : ℤ) : Type 0 where
  pub same : x.num *ℤ pos D ≡ k *ℤ pos x.den

-- equal multiples of m are multiples of equals
pub cancelled : (m : ℕ) (a b : ℤ) → 0 < m → pos m *ℤ a ≡ pos m *ℤ b → a ≡ b
cancelled m a b p e = omega (arith, lin, unscaled m a b p (omega (arith, lin)), unscaled m b a p (omega (arith, lin)))

more : (M D a k d : ℤ) → a *ℤ D ≡ k *ℤ d → a *ℤ (M *ℤ D) ≡ M *ℤ k *ℤ d
more M D a k d e = simp expand (simp expand at (ap (λ z. M *ℤ z) e))

added : (D a b k l d e : ℤ) → a *ℤ D ≡ k *ℤ d → b *ℤ D ≡ l *ℤ e → (a *ℤ e +ℤ b *ℤ d) *ℤ D ≡ (k +ℤ l) *ℤ (d *ℤ e)
added D a b k l d e p q = simp expand (omega (arith, lin, simp expand at (ap (λ z. e *ℤ z) p), simp expand at (ap (λ z. d *ℤ z) q)))

multiplied : (D E a b k l d e : ℤ) → a *ℤ D ≡ k *ℤ d → b *ℤ E ≡ l *ℤ e → a *ℤ b *ℤ (D *ℤ E) ≡ k *ℤ l *ℤ (d *ℤ e)
multiplied D E a b k l d e p q = regroup a b D E ∙ ap (λ z. z *ℤ (b *ℤ E)) p ∙ ap (λ z. k *ℤ d *ℤ z) q ∙ regroup k d l e
  where
    regroup : (a b c d : ℤ) → a *ℤ b *ℤ (c *ℤ d) ≡ a *ℤ c *ℤ (b *ℤ d)
    regroup a b c d = simp expand

pub over_more : (m : ℕ) {D : ℕ} {x : Frac} {k : ℤ} → Over D x k → Over (m * D) x (pos m *ℤ k)
over_more m {D} {x} {k} p = record { same = more (pos m) (pos D) x.num k (pos x.den) p.same }

pub over_add : {D : ℕ} {x y : Frac} {k l : ℤ} → Over D x k → Over D y l → Over D (x +ᶠ y) (k +ℤ l)
over_add {D} {x} {y} {k} {l} p q = record { same = added (pos D) x.num y.num k l (pos x.den) (pos y.den) p.same q.same }

pub over_mul : {D E : ℕ} {x y : Frac} {k l : ℤ} → Over D x k → Over E y l → Over (D * E) (x *ᶠ y) (k *ℤ l)
over_mul {D} {E} {x} {y} {k} {l} p q = record { same = multiplied (pos D) (pos E) x.num y.num k l (pos x.den) (pos y.den) p.same q.same }

pub over_sum : (n D : ℕ) (f : ℕ → Frac) (k : ℕ → ℤ) → ((j : ℕ) → j < n → Over D (f j) (k j)) → Over D (sumᶠ n f) (int_sum n k)
over_sum zero D f k h = record { same = zero-*ℤ (pos D) }
over_sum (suc n) D f k h = over_add (over_sum n D f k (λ j l. h j (omega arith))) (h n (omega arith))

pub over_units : (S : ℕ) (p : 0 < S) (z : ℤ) → Over S (units S p z) z
over_units S p z = record { same = refl }

-- equal fractions over one denominator have equal numerators
pub over_same : {D : ℕ} {x y : Frac} {k l : ℤ} → Over D x k → Over D y l → x ≈ y → k ≡ l
over_same {D} {x} {y} {k} {l} p q e = cancelled (x.den * y.den) k l (mul-pos x.some y.some) (crossed (pos D) x.num y.num k l (pos x.den) (pos y.den) p.same q.same e.same)
  where
    crossed : (D a b k l d e : ℤ) → a *ℤ D ≡ k *ℤ d → b *ℤ D ≡ l *ℤ e → a *ℤ e ≡ b *ℤ d → d *ℤ e *ℤ k ≡ d *ℤ e *ℤ l
    crossed D a b k l d e p q h = simp expand (omega (arith, lin, simp expand at (ap (λ z. e *ℤ z) p), simp expand at (ap (λ z. d *ℤ z) q), ap (λ z. D *ℤ z) h))

-- and the other way round
pub same_over : {D : ℕ} {x y : Frac} {k : ℤ} → 0 < D → Over D x k → Over D y k → x ≈ y
same_over {D} {x} {y} {k} h p q = record { same = cancelled D (x.num *ℤ pos y.den) (y.num *ℤ pos x.den) h (crossed (pos D) x.num y.num k (pos x.den) (pos y.den) p.same q.same) }
  where
    crossed : (D a b k d e : ℤ) → a *ℤ D ≡ k *ℤ d → b *ℤ D ≡ k *ℤ e → D *ℤ (a *ℤ e) ≡ D *ℤ (b *ℤ d)
    crossed D a b k d e p q = omega (arith, lin, simp expand at (ap (λ z. e *ℤ z) p), simp expand at (ap (λ z. d *ℤ z) q))

-- cross products of x = k / D with the denominators D and E and its own and another's
crossed_left : (D E a k d e : ℤ) → a *ℤ D ≡ k *ℤ d → D *ℤ E *ℤ (a *ℤ e) ≡ d *ℤ e *ℤ (E *ℤ k)
crossed_left D E a k d e p = simp expand (simp expand at (ap (λ z. E *ℤ e *ℤ z) p))

crossed_right : (D E b l d e : ℤ) → b *ℤ E ≡ l *ℤ e → D *ℤ E *ℤ (b *ℤ d) ≡ d *ℤ e *ℤ (D *ℤ l)
crossed_right D E b l d e p = simp expand (simp expand at (ap (λ z. D *ℤ d *ℤ z) p))

-- an order of fractions, by their numerators
pub over_least : {D E : ℕ} {x y : Frac} {k l : ℤ} → Over D x k → Over E y l → x ≤ᶠ y → (pos E *ℤ k) ≤ℤ (pos D *ℤ l)
over_least {D} {E} {x} {y} {k} {l} p q h =
    unscaled (x.den * y.den) (pos E *ℤ k) (pos D *ℤ l) (mul-pos x.some y.some)
    (omega (arith, lin, scaled (D * E) h.least, crossed_left (pos D) (pos E) x.num k (pos x.den) (pos y.den) p.same, crossed_right (pos D) (pos E) y.num l (pos x.den) (pos y.den) q.same))

pub least_over : {D E : ℕ} {x y : Frac} {k l : ℤ} → 0 < D → 0 < E → Over D x k → Over E y l → (pos E *ℤ k) ≤ℤ (pos D *ℤ l) → x ≤ᶠ y
least_over {D} {E} {x} {y} {k} {l} r s p q h = record {
  least = unscaled (D * E) (x.num *ℤ pos y.den) (y.num *ℤ pos x.den) (mul-pos r s)
      (omega (arith, lin, scaled (x.den * y.den) h, crossed_left (pos D) (pos E) x.num k (pos x.den) (pos y.den) p.same, crossed_right (pos D) (pos E) y.num l (pos x.den) (pos y.den) q.same));
}

-- a common denominator of the fractions below n
abbrev pub common : ℕ → (ℕ → Frac) → ℕ
common zero f = 1
common (suc n) f = common n f * (f n).den

pub common_some : (n : ℕ) (f : ℕ → Frac) → 0 < common n f
common_some zero f = omega arith
common_some (suc n) f = mul-pos (common_some n f) (f n).some

factor : (n : ℕ) (f : ℕ → Frac) (j : ℕ) → j < n → (m : ℕ) × ((f j).den * m ≡ common n f)
factor zero f j h = elim h [ ]
factor (suc n) f j h = elim (split j h) [ inl e ↦ (common n f, rw e (mul_comm (f n).den (common n f))) | inr l ↦ earlier (factor n f j l) ]
  where
    split : (j : ℕ) → j < suc n → (j ≡ n) ⊎ (j < n)
    split j h = grind arith

    earlier : ((m : ℕ) × ((f j).den * m ≡ common n f)) → (m : ℕ) × ((f j).den * m ≡ common n f * (f n).den)
    earlier k = (k.0 * (f n).den, sym (mul_assoc (f j).den k.0 (f n).den) ∙ ap (λ z. z * (f n).den) k.1)

-- and the numerator over it
abbrev pub numerator : ℕ → Frac → ℤ
numerator D x = x.num *ℤ pos (D / x.den)

pub over_common : (n : ℕ) (f : ℕ → Frac) (j : ℕ) → j < n → Over (common n f) (f j) (numerator (common n f) (f j))
over_common n f j h =
    let k = factor n f j h in
    let e : (f j).den * (common n f / (f j).den) ≡ common n f = ap (λ z. (f j).den * (z / (f j).den)) (sym k.1) ∙ ap (λ z. (f j).den * z) (mul-div_cancel_left k.0 (f j).some) ∙ k.1 in
    record { same = ap (λ m. (f j).num *ℤ pos m) (sym e) ∙ reordered (f j).num (pos (f j).den) (pos (common n f / (f j).den)) }
  where
    reordered : (a b c : ℤ) → a *ℤ (b *ℤ c) ≡ a *ℤ c *ℤ b
    reordered a b c = simp expand
