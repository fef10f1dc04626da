-- what lies in two intervals lies, combined, in what the intervals give
use Rattle.std.proofs.Common.{◌≡◌, ℕ, ◌*◌, ◌<◌, ◌⊎◌, ℤ, pos, negsuc, ◌+ℤ◌, ◌-ℤ◌, ◌*ℤ◌, ◌≤ℤ◌, inl, inr, arith, w64, SFits}
use lib.IntN.{*ℤ_comm}
use Rattle.std.proofs.lemmas.Int.{clamps}
use borrow.Author.Differences.{ints}
use Rattle.span.specs.Encloses.{Sums, Differences, Products, Quotients}
use Rattle.span.specs.Rounding.{floor, ceiling}
use Rattle.span.specs.Spans.{Fits}
use Rattle.span.specs.Intervals.{Interval, ◌+ᵢ◌, ◌-ᵢ◌, ◌*ᵢ◌, brought, least, greatest}
use Rattle.span.proofs.Integers.{lin, expand, scaled, turned, *ℤ_assoc}
use Rattle.span.proofs.Floors.{floor_greatest, ceiling_least}

-- orders of K × L × (a + b), each side given by its own denominator
sum_low : (K L a b x y : ℤ) → (L *ℤ (K *ℤ a)) ≤ℤ (L *ℤ x) → (K *ℤ (L *ℤ b)) ≤ℤ (K *ℤ y) → (K *ℤ L *ℤ (a +ℤ b)) ≤ℤ (L *ℤ x +ℤ K *ℤ y)
sum_low K L a b x y p q = simp expand (omega (arith, lin, simp expand at p, q))

sum_high : (K L a b x y : ℤ) → (L *ℤ x) ≤ℤ (L *ℤ (K *ℤ a)) → (K *ℤ y) ≤ℤ (K *ℤ (L *ℤ b)) → (L *ℤ x +ℤ K *ℤ y) ≤ℤ (K *ℤ L *ℤ (a +ℤ b))
sum_high K L a b x y p q = simp expand (omega (arith, lin, simp expand at p, q))

difference_low : (K L a b x y : ℤ) → (L *ℤ (K *ℤ a)) ≤ℤ (L *ℤ x) → (K *ℤ y) ≤ℤ (K *ℤ (L *ℤ b)) → (K *ℤ L *ℤ (a -ℤ b)) ≤ℤ (L *ℤ x -ℤ K *ℤ y)
difference_low K L a b x y p q = simp expand (omega (arith, lin, simp expand at p, q))

difference_high : (K L a b x y : ℤ) → (L *ℤ x) ≤ℤ (L *ℤ (K *ℤ a)) → (K *ℤ (L *ℤ b)) ≤ℤ (K *ℤ y) → (L *ℤ x -ℤ K *ℤ y) ≤ℤ (K *ℤ L *ℤ (a -ℤ b))
difference_high K L a b x y p q = simp expand (omega (arith, lin, simp expand at p, q))

-- x / k + y / l
pub in_sum : (s t : Interval) → Sums s t (s +ᵢ t)
in_sum s t k l x y p q = record {
  above = sum_low (pos k) (pos l) s.low t.low x y (scaled l p.above) (scaled k q.above);
  below = sum_high (pos k) (pos l) s.high t.high x y (scaled l p.below) (scaled k q.below);
}

-- x / k - y / l
pub in_difference : (s t : Interval) → Differences s t (s -ᵢ t)
in_difference s t k l x y p q = record {
  above = difference_low (pos k) (pos l) s.low t.high x y (scaled l p.above) (scaled k q.below);
  below = difference_high (pos k) (pos l) s.high t.low x y (scaled l p.below) (scaled k q.above);
}

-- x / k, brought back, is x / (k × S)
pub in_brought : (S : ℕ) (s : Interval) → 0 < S → Quotients S s (brought S s)
unfolding brought
in_brought S s h k x p = record {
  above = omega (arith, lin, p.above, scaled k (floor_greatest S s.low h).below, *ℤ_assoc (pos k) (pos S) (floor S s.low));
  below = omega (arith, lin, p.below, scaled k (ceiling_least S s.high h).above, *ℤ_assoc (pos k) (pos S) (ceiling S s.high));
}

-- a factor times what lies between two numbers is not below one of its products with them
over_end : (w a b y : ℤ) → a ≤ℤ y → y ≤ℤ b → ((w *ℤ a) ≤ℤ (w *ℤ y)) ⊎ ((w *ℤ b) ≤ℤ (w *ℤ y))
over_end (pos n) a b y p q = inl (scaled n p)
over_end (negsuc n) a b y p q = inr (turned n q)

under_end : (w a b y : ℤ) → a ≤ℤ y → y ≤ℤ b → ((w *ℤ y) ≤ℤ (w *ℤ a)) ⊎ ((w *ℤ y) ≤ℤ (w *ℤ b))
under_end (pos n) a b y p q = inr (scaled n q)
under_end (negsuc n) a b y p q = inl (turned n p)

-- a product lies between the least and the greatest product of the ends
product_low : (a b c d x y : ℤ) → a ≤ℤ x → x ≤ℤ b → c ≤ℤ y → y ≤ℤ d → least (a *ℤ c) (a *ℤ d) (b *ℤ c) (b *ℤ d) ≤ℤ (x *ℤ y)
product_low a b c d x y p q r s = omega (arith, lin, clamps, over_end y a b x p q, over_end a c d y r s, over_end b c d y r s, *ℤ_comm y a, *ℤ_comm y b, *ℤ_comm y x)

product_high : (a b c d x y : ℤ) → a ≤ℤ x → x ≤ℤ b → c ≤ℤ y → y ≤ℤ d → (x *ℤ y) ≤ℤ greatest (a *ℤ c) (a *ℤ d) (b *ℤ c) (b *ℤ d)
product_high a b c d x y p q r s = omega (arith, lin, clamps, under_end y a b x p q, under_end a c d y r s, under_end b c d y r s, *ℤ_comm y a, *ℤ_comm y b, *ℤ_comm y x)

regrouped : (K L a c : ℤ) → K *ℤ L *ℤ (a *ℤ c) ≡ K *ℤ a *ℤ (L *ℤ c)
regrouped K L a c = simp expand

-- what is at most an end product of s and t is, times k × l, at most that product of k × s and l × t
corner_low : (k l : ℕ) (m a c : ℤ) → m ≤ℤ (a *ℤ c) → (pos (k * l) *ℤ m) ≤ℤ (pos k *ℤ a *ℤ (pos l *ℤ c))
corner_low k l m a c h = omega (arith, lin, scaled (k * l) h, regrouped (pos k) (pos l) a c)

corner_high : (k l : ℕ) (m a c : ℤ) → (a *ℤ c) ≤ℤ m → (pos k *ℤ a *ℤ (pos l *ℤ c)) ≤ℤ (pos (k * l) *ℤ m)
corner_high k l m a c h = omega (arith, lin, scaled (k * l) h, regrouped (pos k) (pos l) a c)

below_least : (m a b c d z : ℤ) → m ≤ℤ a → m ≤ℤ b → m ≤ℤ c → m ≤ℤ d → least a b c d ≤ℤ z → m ≤ℤ z
below_least m a b c d z p q r s h = omega (arith, lin, clamps)

above_greatest : (m a b c d z : ℤ) → a ≤ℤ m → b ≤ℤ m → c ≤ℤ m → d ≤ℤ m → z ≤ℤ greatest a b c d → z ≤ℤ m
above_greatest m a b c d z p q r s h = omega (arith, lin, clamps)

least_is : (a b c d : ℤ) → (least a b c d ≤ℤ a) × (least a b c d ≤ℤ b) × (least a b c d ≤ℤ c) × (least a b c d ≤ℤ d)
least_is a b c d = omega (arith, lin, clamps)

greatest_is : (a b c d : ℤ) → (a ≤ℤ greatest a b c d) × (b ≤ℤ greatest a b c d) × (c ≤ℤ greatest a b c d) × (d ≤ℤ greatest a b c d)
greatest_is a b c d = omega (arith, lin, clamps)

-- (x / k) × (y / l)
pub in_product : (s t : Interval) → Products s t (s *ᵢ t)
unfolding ◌*ᵢ◌
in_product s t k l x y p q =
    let m : ℤ = least (s.low *ℤ t.low) (s.low *ℤ t.high) (s.high *ℤ t.low) (s.high *ℤ t.high) in
    let M : ℤ = greatest (s.low *ℤ t.low) (s.low *ℤ t.high) (s.high *ℤ t.low) (s.high *ℤ t.high) in
    let f = least_is (s.low *ℤ t.low) (s.low *ℤ t.high) (s.high *ℤ t.low) (s.high *ℤ t.high) in
    let g = greatest_is (s.low *ℤ t.low) (s.low *ℤ t.high) (s.high *ℤ t.low) (s.high *ℤ t.high) in
    record {
      above = below_least (pos (k * l) *ℤ m) _ _ _ _ (x *ℤ y) (corner_low k l m s.low t.low f.0) (corner_low k l m s.low t.high f.1) (corner_low k l m s.high t.low f.2) (corner_low k l m s.high t.high f.3) (product_low _ _ _ _ x y p.above p.below q.above q.below);
      below = above_greatest (pos (k * l) *ℤ M) _ _ _ _ (x *ℤ y) (corner_high k l M s.low t.low g.0) (corner_high k l M s.low t.high g.1) (corner_high k l M s.high t.low g.2) (corner_high k l M s.high t.high g.3) (product_high _ _ _ _ x y p.above p.below q.above q.below);
    }

-- what holds of an interval holds of the same ends under other names
pub moved : (P : Interval → Type 0) (a b l h : ℤ) → P (record { low = a; high = b }) → l ≡ a → h ≡ b → P (record { low = l; high = h })
moved P a b l h p e f = rw (e, f) p

-- where a product fits, so does every product of numbers in the two intervals
pub product_unfit : (s t : Interval) (x y : ℤ) → s.low ≤ℤ x → x ≤ℤ s.high → t.low ≤ℤ y → y ≤ℤ t.high → (SFits w64 (x *ℤ y) → ⊥) → Fits (s *ᵢ t) → ⊥
unfolding ◌*ᵢ◌
product_unfit s t x y p q r w n f =
    n (between (x *ℤ y) f.low f.high (product_low s.low s.high t.low t.high x y p q r w) (product_high s.low s.high t.low t.high x y p q r w))
  where
    between : {a b : ℤ} (z : ℤ) → SFits w64 a → SFits w64 b → a ≤ℤ z → z ≤ℤ b → SFits w64 z
    between z p q r s = omega (arith, ints)

-- the ends of a product come in order
pub product_ordered : (s t : Interval) → (s *ᵢ t).low ≤ℤ (s *ᵢ t).high
unfolding ◌*ᵢ◌
product_ordered s t = omega (arith, lin, clamps)
