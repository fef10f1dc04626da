-- a smaller box has a smaller step, so a narrowing never widens
use Rattle.std.proofs.Common.{ℕ, zero, suc, ◌<◌, ◌⊎◌, ℤ, pos, negsuc, ◌*ℤ◌, ◌≤ℤ◌, inl, inr, arith}
use Rattle.std.proofs.lemmas.Int.{clamps}
use Rattle.span.specs.Intervals.{Interval, point, ◌*ᵢ◌, brought, least, greatest}
use Rattle.span.specs.Rounding.{floor, ceiling}
use Rattle.span.proofs.Integers.{lin, scaled, turned}
use Rattle.span.proofs.Floors.{floor_greatest, ceiling_least, floor_ceiling}
use Rattle.span.proofs.Contains.{product_ordered}
use Rattle.method.specs.Sums.{sumᵢ}
use Rattle.method.specs.Method.{Game, Proposal, residual, iteration, step, Accepted, narrowed}
use Rattle.method.specs.Sound.{Inside, NeverWidens}

-- the ends come in order
abbrev pub Ordered : Interval → Type 0
Ordered s = s.low ≤ℤ s.high

pub sum_ordered : (n : ℕ) (f : ℕ → Interval) → ((j : ℕ) → j < n → Ordered (f j)) → Ordered (sumᵢ n f)
sum_ordered zero f h = omega (arith, lin)
sum_ordered (suc n) f h = omega (arith, lin, sum_ordered n f (λ j k. h j (omega arith)), h n (omega arith))

pub brought_ordered : (S : ℕ) (s : Interval) → 0 < S → Ordered s → Ordered (brought S s)
unfolding brought
brought_ordered S s h k = floor_ceiling S s.low s.high h k

-- w times what lies between a and b lies between w times a and w times b, in some order
between : (w a b y : ℤ) → a ≤ℤ y → y ≤ℤ b → (((w *ℤ a) ≤ℤ (w *ℤ y)) × ((w *ℤ y) ≤ℤ (w *ℤ b))) ⊎ (((w *ℤ b) ≤ℤ (w *ℤ y)) × ((w *ℤ y) ≤ℤ (w *ℤ a)))
between (pos n) a b y p q = inl (scaled n p, scaled n q)
between (negsuc n) a b y p q = inr (turned n q, turned n p)

-- the products of l and of h with what lies between a and b
products_between : (l h a b y : ℤ) → a ≤ℤ y → y ≤ℤ b → (least (l *ℤ a) (l *ℤ b) (h *ℤ a) (h *ℤ b) ≤ℤ (l *ℤ y)) × (least (l *ℤ a) (l *ℤ b) (h *ℤ a) (h *ℤ b) ≤ℤ (h *ℤ y)) × ((l *ℤ y) ≤ℤ greatest (l *ℤ a) (l *ℤ b) (h *ℤ a) (h *ℤ b)) × ((h *ℤ y) ≤ℤ greatest (l *ℤ a) (l *ℤ b) (h *ℤ a) (h *ℤ b))
products_between l h a b y p q =
    let u = between l a b y p q in
    let v = between h a b y p q in
    omega (arith, lin, clamps)

not_above_least : (m a b c d : ℤ) → m ≤ℤ a → m ≤ℤ b → m ≤ℤ c → m ≤ℤ d → m ≤ℤ least a b c d
not_above_least m a b c d p q r s = omega (arith, lin, clamps)

not_below_greatest : (m a b c d : ℤ) → a ≤ℤ m → b ≤ℤ m → c ≤ℤ m → d ≤ℤ m → greatest a b c d ≤ℤ m
not_below_greatest m a b c d p q r s = omega (arith, lin, clamps)

pub product_inside : (c s t : Interval) → Ordered s → Inside s t → Inside (c *ᵢ s) (c *ᵢ t)
unfolding ◌*ᵢ◌
product_inside c s t o i =
    let u = products_between c.low c.high t.low t.high s.low i.low (omega (arith, lin, i)) in
    let v = products_between c.low c.high t.low t.high s.high (omega (arith, lin, i)) i.high in
    record {
      low = not_above_least _ (c.low *ℤ s.low) (c.low *ℤ s.high) (c.high *ℤ s.low) (c.high *ℤ s.high) u.0 v.0 u.1 v.1;
      high = not_below_greatest _ (c.low *ℤ s.low) (c.low *ℤ s.high) (c.high *ℤ s.low) (c.high *ℤ s.high) u.2 v.2 u.3 v.3;
    }

pub sum_inside : (n : ℕ) (f g : ℕ → Interval) → ((j : ℕ) → j < n → Inside (f j) (g j)) → Inside (sumᵢ n f) (sumᵢ n g)
sum_inside zero f g h = record { low = omega (arith, lin); high = omega (arith, lin) }
sum_inside (suc n) f g h =
    let p : Inside (sumᵢ n f) (sumᵢ n g) = sum_inside n f g (λ j k. h j (omega arith)) in
    let q : Inside (f n) (g n) = h n (omega arith) in
    record { low = omega (arith, lin, p.low, q.low); high = omega (arith, lin, p.high, q.high) }

pub brought_inside : (S : ℕ) (s t : Interval) → 0 < S → Inside s t → Inside (brought S s) (brought S t)
unfolding brought
brought_inside S s t h i = record {
  low = (floor_greatest S s.low h).greatest (floor S t.low) (omega (arith, lin, (floor_greatest S t.low h).below, i.low));
  high = (ceiling_least S s.high h).least (ceiling S t.high) (omega (arith, lin, (ceiling_least S t.high h).above, i.high));
}

module _ (S : ℕ) (some : 0 < S) (G : Game) (H : Proposal) where
  -- a step has its ends in order, whatever the box
  pub step_ordered : (Y : ℕ → Interval) (i : ℕ) → Ordered (step S G H Y i)
  unfolding step
  step_ordered Y i =
      brought_ordered S _ some (omega (arith, lin, product_ordered (point (pos S)) (residual S G H i), sum_ordered G.states (λ j. iteration S G H i j *ᵢ Y j) (λ j k. product_ordered (iteration S G H i j) (Y j))))

  -- a box inside another, its own ends in order, has its step inside the other's
  pub step_inside : (X Y : ℕ → Interval) → ((j : ℕ) → j < G.states → Ordered (X j)) → ((j : ℕ) → j < G.states → Inside (X j) (Y j)) → (i : ℕ) → Inside (step S G H X i) (step S G H Y i)
  unfolding step
  step_inside X Y o h i =
      let p : Inside (sumᵢ G.states (λ j. iteration S G H i j *ᵢ X j)) (sumᵢ G.states (λ j. iteration S G H i j *ᵢ Y j)) = sum_inside G.states _ _ (λ j k. product_inside (iteration S G H i j) (X j) (Y j) (o j k) (h j k)) in
      brought_inside S _ _ some (record { low = omega (arith, lin, p.low); high = omega (arith, lin, p.high) })

  -- the ranges after each narrowing have their ends in order
  pub narrowed_ordered : (Y : ℕ → Interval) (m i : ℕ) → Ordered (narrowed S G H Y m i)
  unfolding narrowed
  narrowed_ordered Y zero i = step_ordered Y i
  narrowed_ordered Y (suc m) i = step_ordered (narrowed S G H Y m) i

  narrows : (Y : ℕ → Interval) → Accepted S G H Y → (m i : ℕ) → i < G.states → Inside (narrowed S G H Y (suc m) i) (narrowed S G H Y m i)
  unfolding narrowed
  narrows Y a zero i h = step_inside (step S G H Y) Y (λ j k. step_ordered Y j) (λ j k. record { low = omega (arith, lin, a.above j k); high = omega (arith, lin, a.below j k) }) i
  narrows Y a (suc m) i h = step_inside (narrowed S G H Y (suc m)) (narrowed S G H Y m) (λ j k. narrowed_ordered Y (suc m) j) (narrows Y a m) i

pub never_widens : NeverWidens
never_widens S some G H Y a m i h = narrows S some G H Y a m i h
