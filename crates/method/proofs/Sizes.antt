-- how the size of an integer and of an interval behaves under sums, differences, products and bringing back
use Rattle.std.proofs.Common.{◌≡◌, ℕ, zero, suc, ◌+◌, ◌*◌, ◌<◌, ◌≤◌, max, ℤ, pos, negsuc, ◌+ℤ◌, ◌-ℤ◌, ◌*ℤ◌, neg_ℤ, nat_abs, ◌≤ℤ◌, refl, inl, inr, le_refl, mul-le-mul, eq-or-lt_of_le, arith}
use native.Mathlib.Nat.{max-le}
use Rattle.std.proofs.lemmas.Int.{clamps}
use Rattle.span.specs.Intervals.{Interval, point, ◌+ᵢ◌, ◌-ᵢ◌, ◌*ᵢ◌, brought, least, greatest}
use Rattle.span.specs.Rounding.{floor, ceiling}
use Rattle.span.proofs.Integers.{lin, *ℤ_neg_right}
use Rattle.span.proofs.Floors.{floor_greatest, ceiling_least, floor_ceiling}
use Rattle.method.specs.Sums.{nat_sum, int_sum, sumᵢ}
use Rattle.method.specs.Method.{size, greatest_of}

-- integers
pub unsigned_abs-+ : (a b : ℤ) → nat_abs (a +ℤ b) ≤ nat_abs a + nat_abs b
unsigned_abs-+ a b = omega (arith, lin)

pub unsigned_abs_neg : (a : ℤ) → nat_abs (neg_ℤ a) ≡ nat_abs a
unsigned_abs_neg a = omega (arith, lin)

pub natAbs-- : (a b : ℤ) → nat_abs (a -ℤ b) ≤ nat_abs a + nat_abs b
natAbs-- a b = omega (arith, lin)

pub unsigned_abs-* : (a b : ℤ) → nat_abs (a *ℤ b) ≡ nat_abs a * nat_abs b
unsigned_abs-* (pos a) (pos b) = refl
unsigned_abs-* (pos a) (negsuc b) = unsigned_abs_neg (pos (a * suc b))
unsigned_abs-* (negsuc a) (pos b) = unsigned_abs_neg (pos (suc a * b))
unsigned_abs-* (negsuc a) (negsuc b) = refl

-- a product of two integers within a and b is within a × b
pub unsigned_abs_product : {a b : ℕ} (x y : ℤ) → nat_abs x ≤ a → nat_abs y ≤ b → nat_abs (x *ℤ y) ≤ a * b
unsigned_abs_product x y h k = omega (arith, unsigned_abs-* x y, mul-le-mul h k)

pub unsigned_abs_sum : (n b : ℕ) (f : ℕ → ℤ) → ((i : ℕ) → i < n → nat_abs (f i) ≤ b) → nat_abs (int_sum n f) ≤ n * b
unsigned_abs_sum zero b f h = omega arith
unsigned_abs_sum (suc n) b f h = omega (arith, unsigned_abs-+ (int_sum n f) (f n), unsigned_abs_sum n b f (λ i k. h i (omega arith)), h n (omega arith))

-- intervals
pub size_within : (b : ℕ) (s : Interval) → size s ≤ b → (nat_abs s.low ≤ b) × (nat_abs s.high ≤ b) × (neg_ℤ (pos b) ≤ℤ s.low) × (s.low ≤ℤ pos b) × (neg_ℤ (pos b) ≤ℤ s.high) × (s.high ≤ℤ pos b)
size_within b s h = omega (arith, lin)

pub within_size : (b : ℕ) (s : Interval) → neg_ℤ (pos b) ≤ℤ s.low → s.low ≤ℤ pos b → neg_ℤ (pos b) ≤ℤ s.high → s.high ≤ℤ pos b → size s ≤ b
within_size b s p q r t = omega (arith, lin)

pub size_point : (x : ℤ) → size (point x) ≡ nat_abs x
size_point x = omega arith

pub size-+ : (s t : Interval) → size (s +ᵢ t) ≤ size s + size t
size-+ s t = omega (arith, unsigned_abs-+ s.low t.low, unsigned_abs-+ s.high t.high)

pub size-- : (s t : Interval) → size (s -ᵢ t) ≤ size s + size t
size-- s t = omega (arith, natAbs-- s.low t.high, natAbs-- s.high t.low)

least_greatest_within : (k : ℕ) (a b c d : ℤ) → nat_abs a ≤ k → nat_abs b ≤ k → nat_abs c ≤ k → nat_abs d ≤ k → max (nat_abs (least a b c d)) (nat_abs (greatest a b c d)) ≤ k
least_greatest_within k a b c d p q r s = max-le (omega (arith, lin, clamps)) (omega (arith, lin, clamps))

-- a product of two intervals within a and b is within a × b
pub size_product : {a b : ℕ} (s t : Interval) → size s ≤ a → size t ≤ b → size (s *ᵢ t) ≤ a * b
unfolding ◌*ᵢ◌
size_product {a} {b} s t h k =
    let p = size_within a s h in
    let q = size_within b t k in
    least_greatest_within (a * b) (s.low *ℤ t.low) (s.low *ℤ t.high) (s.high *ℤ t.low) (s.high *ℤ t.high)
    (unsigned_abs_product s.low t.low p.0 q.0) (unsigned_abs_product s.low t.high p.0 q.1)
    (unsigned_abs_product s.high t.low p.1 q.0) (unsigned_abs_product s.high t.high p.1 q.1)

pub size-* : (s t : Interval) → size (s *ᵢ t) ≤ size s * size t
size-* s t = size_product s t (le_refl (size s)) (le_refl (size t))

pub size_sum : (n b : ℕ) (f : ℕ → Interval) → ((i : ℕ) → i < n → size (f i) ≤ b) → size (sumᵢ n f) ≤ n * b
size_sum zero b f h = omega arith
size_sum (suc n) b f h = omega (arith, size-+ (sumᵢ n f) (f n), size_sum n b f (λ i k. h i (omega arith)), h n (omega arith))

-- a sum of products, the second factors within c
pub size_sum_product : (n c : ℕ) (f g : ℕ → Interval) → ((i : ℕ) → i < n → size (g i) ≤ c) → size (sumᵢ n (λ j. f j *ᵢ g j)) ≤ c * nat_sum n (λ j. size (f j))
size_sum_product zero c f g h = omega arith
size_sum_product (suc n) c f g h =
    omega (arith, size-+ (sumᵢ n (λ j. f j *ᵢ g j)) (f n *ᵢ g n), size_sum_product n c f g (λ i k. h i (omega arith)), size_product (f n) (g n) (le_refl (size (f n))) (h n (omega arith)))

-- the lower and the upper figure of what lies within b × S lie within b
floor_ceiling_within : (S b : ℕ) (v : ℤ) → 0 < S → nat_abs v ≤ b * S → (nat_abs (floor S v) ≤ b) × (nat_abs (ceiling S v) ≤ b)
floor_ceiling_within S b v h k =
    let l : neg_ℤ (pos b) ≤ℤ floor S v = (floor_greatest S v h).greatest (neg_ℤ (pos b)) (omega (arith, lin, *ℤ_neg_right (pos S) (pos b))) in
    let u : ceiling S v ≤ℤ pos b = (ceiling_least S v h).least (pos b) (omega (arith, lin)) in
    let m : floor S v ≤ℤ ceiling S v = floor_ceiling S v v h (omega (arith, lin)) in
    omega (arith, lin)

pub size_brought : (S b : ℕ) (s : Interval) → 0 < S → size s ≤ b * S → size (brought S s) ≤ b
unfolding brought
size_brought S b s h k =
    let p = size_within (b * S) s k in
    max-le (floor_ceiling_within S b s.low h p.0).0 (floor_ceiling_within S b s.high h p.1).1

-- the greatest of f below n is not below f i
pub greatest_of_above : (n : ℕ) (f : ℕ → ℕ) (i : ℕ) → i < n → f i ≤ greatest_of n f
greatest_of_above zero f i h = omega arith
greatest_of_above (suc n) f i h =
    let m : i ≤ n = omega arith in
    elim (eq-or-lt_of_le m) [ inl e ↦ rw e (omega arith) | inr k ↦ omega (arith, greatest_of_above n f i k) ]
