-- how large a step gets, that its ends come in order, and that a smaller box has a smaller step
use Rattle.std.proofs.Common.{◌≡◌, ℕ, zero, suc, ◌+◌, ◌*◌, ◌<◌, ◌≤◌, ℤ, pos, ap, ◌∙◌, le_refl, mul-le-mul_right, arith, w64, SFits, to_z, of_z}
use Rattle.std.proofs.lemmas.Int.{ints, to_z-of_z}
use native.Mathlib.Nat.{max-le}
use Rattle.span.specs.Intervals.{Interval, point, ◌+ᵢ◌, ◌*ᵢ◌}
use Rattle.span.specs.Spans.{Fits}
use Rattle.span.proofs.Contains.{product_ordered}
use Rattle.span.proofs.Integers.{lin}
use Rattle.method.specs.Method.{size}
use Rattle.method.specs.Sound.{Inside}
use Rattle.method.proofs.Bounds.{interval_fits_by}
use Rattle.method.proofs.Narrows.{Ordered, sum_ordered, brought_ordered, product_inside, sum_inside, brought_inside}
use Rattle.method.proofs.Sizes.{size-+, size_product, size_sum, size_brought}
use Rattle.system.specs.Figures.{spans}
use Rattle.prepare.specs.declared.prepared.Prepared.{Prepared}
use Rattle.enclosure.specs.Boxed.{next, product_sum, greatest_size}
use Rattle.enclosure.specs.Stepped.{stepped}

-- S × Zi
pub fixed_size : (p : Prepared) (i : ℕ) → size (point (pos p.units) *ᵢ spans p.residual i) ≤ 49 * (p.units * p.units)
fixed_size p i = omega (arith, size_product {a = p.units} (point (pos p.units)) (spans p.residual i) (omega arith) (p.near i))

pub fixed_fits : (p : Prepared) (i : ℕ) → Fits (point (pos p.units) *ᵢ spans p.residual i)
fixed_fits p i = interval_fits_by 49 p.units _ p.scale.1 (omega arith) (fixed_size p i)

module _ (p : Prepared) (Y : ℕ → Interval) (y : (j : ℕ) → j < p.states → size (Y j) ≤ 100 * p.units) where
  pub term_size : (i j : ℕ) → j < p.states → size (spans p.iteration (i * p.states + j) *ᵢ Y j) ≤ 100 * (p.units * p.units)
  term_size i j h = omega (arith, size_product (spans p.iteration (i * p.states + j)) (Y j) (p.contracting (i * p.states + j)) (y j h))

  pub term_fits : (i j : ℕ) → j < p.states → Fits (spans p.iteration (i * p.states + j) *ᵢ Y j)
  term_fits i j h = interval_fits_by 100 p.units _ p.scale.1 (omega arith) (term_size i j h)

  pub sum_size : (i m : ℕ) → m ≤ p.states → size (product_sum p Y i m) ≤ 1200 * (p.units * p.units)
  sum_size i m h =
      let k : m ≤ 12 = omega (arith, p.size.1) in
      omega (arith, size_sum m (100 * (p.units * p.units)) (λ j. spans p.iteration (i * p.states + j) *ᵢ Y j) (λ j l. term_size i j (omega arith)), mul-le-mul_right (100 * (p.units * p.units)) k)

  pub sum_fits : (i m : ℕ) → m ≤ p.states → Fits (product_sum p Y i m)
  sum_fits i m h = interval_fits_by 1200 p.units _ p.scale.1 (omega arith) (sum_size i m h)

  pub whole_size : (i : ℕ) → size (point (pos p.units) *ᵢ spans p.residual i +ᵢ product_sum p Y i p.states) ≤ 1249 * (p.units * p.units)
  whole_size i = omega (arith, size-+ (point (pos p.units) *ᵢ spans p.residual i) (product_sum p Y i p.states), fixed_size p i, sum_size i p.states (le_refl p.states))

  pub whole_fits : (i : ℕ) → Fits (point (pos p.units) *ᵢ spans p.residual i +ᵢ product_sum p Y i p.states)
  whole_fits i = interval_fits_by 1249 p.units _ p.scale.1 (omega arith) (whole_size i)

  pub next_size : (i : ℕ) → size (next p Y i) ≤ 1249 * p.units
  unfolding stepped
  next_size i = size_brought p.units (1249 * p.units) _ (omega (arith, p.scale.0)) (omega (arith, whole_size i))

pub next_ordered : (p : Prepared) (Y : ℕ → Interval) (i : ℕ) → Ordered (next p Y i)
unfolding stepped
next_ordered p Y i =
    brought_ordered p.units _ (omega (arith, p.scale.0)) (omega (arith, lin, product_ordered (point (pos p.units)) (spans p.residual i), sum_ordered p.states (λ j. spans p.iteration (i * p.states + j) *ᵢ Y j) (λ j k. product_ordered (spans p.iteration (i * p.states + j)) (Y j))))

pub next_inside : (p : Prepared) (X Y : ℕ → Interval) → ((j : ℕ) → j < p.states → Ordered (X j)) → ((j : ℕ) → j < p.states → Inside (X j) (Y j)) → (i : ℕ) → Inside (next p X i) (next p Y i)
unfolding stepped
next_inside p X Y o h i =
    let q : Inside (product_sum p X i p.states) (product_sum p Y i p.states) = sum_inside p.states _ _ (λ j k. product_inside (spans p.iteration (i * p.states + j)) (X j) (Y j) (o j k) (h j k)) in
    brought_inside p.units _ _ (omega (arith, p.scale.0)) (record { low = omega (arith, lin, q.low); high = omega (arith, lin, q.high) })

-- the residual is within 49 wholes
pub greatest_within : (p : Prepared) (m : ℕ) → greatest_size p m ≤ 49 * p.units
greatest_within p zero = omega arith
greatest_within p (suc m) = max-le (greatest_within p m) (p.near m)

-- the scale's units, as the code passes them
pub scale_read : (x : ℤ) (S u : ℕ) → S ≤ 1048576 → x ≡ pos S → S ≡ u → to_z w64 (of_z w64 x) ≡ pos u
scale_read x S u h e k = let f : SFits w64 x = omega (arith, ints) in to_z-of_z w64 x f ∙ e ∙ ap pos k
