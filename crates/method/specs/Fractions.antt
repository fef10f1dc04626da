-- a fraction is a whole number over a whole number above 0; they are compared by cross products
use Rattle.std.specs.Prelude.{◌≡◌, ℕ, zero, suc, ◌*◌, ◌<◌, ℤ, pos, ◌+ℤ◌, ◌*ℤ◌, ◌≤ℤ◌}
use Rattle.std.proofs.Common.{mul-pos, lit<}

infix 4 ◌≈◌ ◌≤ᶠ◌
infixl 6 ◌+ᶠ◌
infixl 7 ◌*ᶠ◌
pub record Frac : Type 0 where
  pub num : ℤ
  pub den : ℕ
  pub some : 0 < den

-- z units, S to a whole, as a fraction
abbrev pub units : (S : ℕ) → 0 < S → ℤ → Frac
units S p z = record { num = z; den = S; some = p }

abbrev pub ◌+ᶠ◌ : Frac → Frac → Frac
x +ᶠ y = record { num = x.num *ℤ pos y.den +ℤ y.num *ℤ pos x.den; den = x.den * y.den; some = mul-pos x.some y.some }

abbrev pub ◌*ᶠ◌ : Frac → Frac → Frac
x *ᶠ y = record { num = x.num *ℤ y.num; den = x.den * y.den; some = mul-pos x.some y.some }

abbrev pub sumᶠ : ℕ → (ℕ → Frac) → Frac
sumᶠ zero f = record { num = pos 0; den = 1; some = lit< tt }
sumᶠ (suc n) f = sumᶠ n f +ᶠ f n

pub record ◌≈◌ (x y : Frac) : Type 0 where
  pub same : x.num *ℤ pos y.den ≡ y.num *ℤ pos x.den

pub record ◌≤ᶠ◌ (x y : Frac) : Type 0 where
  pub least : (x.num *ℤ pos y.den) ≤ℤ (y.num *ℤ pos x.den)
