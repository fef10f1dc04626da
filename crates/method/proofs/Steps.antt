-- a rule that takes every point of a box strictly inside it has at most one fixed point, and that one lies in the box
use Rattle.std.proofs.Common.{◌≡◌, ℕ, zero, suc, ◌*◌, ◌<◌, ◌≤◌, ℤ, pos, negsuc, ◌+ℤ◌, ◌-ℤ◌, ◌*ℤ◌, neg_ℤ, nat_abs, ◌≤ℤ◌, ◌<ℤ◌, sym, refl, ap, ◌∙◌, subst, mul-one, arith}
use borrow.Author.Differences.{ints}
use lib.IntN.{negsuc-*ℤ-pos}
use Rattle.std.proofs.lemmas.Int.{clamps, by_lt_z}
use Rattle.std.specs.Int.{int_max, int_min}
use Rattle.span.specs.Intervals.{Interval, In}
use Rattle.span.proofs.Integers.{lin, scaled, *ℤ_add_right, *ℤ_neg_right, *ℤ_assoc}
use Rattle.method.specs.Sums.{int_sum, nat_sum}
use Rattle.method.proofs.Sizes.{unsigned_abs-*}
use Rattle.method.proofs.SumLaws.{sum_same, sum_sub, sum_size, nat_sum_least}
use Rattle.method.proofs.Contraction.{contraction}

-- u / D goes to r + c u / D, over N; every point of Y goes into V, which lies strictly inside Y
pub record Step (n N : ℕ) (c : ℕ → ℕ → ℤ) (r : ℕ → ℤ) (Y V : ℕ → Interval) : Type 0 where
  pub some : 0 < N
  pub above : (i : ℕ) → i < n → (Y i).low <ℤ (V i).low
  pub ordered : (i : ℕ) → i < n → (V i).low ≤ℤ (V i).high
  pub below : (i : ℕ) → i < n → (V i).high <ℤ (Y i).high
  pub into : (D : ℕ) (u : ℕ → ℤ) → ((j : ℕ) → j < n → In D (Y j) (u j)) → (i : ℕ) → i < n → In (N * D) (V i) (pos D *ℤ r i +ℤ int_sum n (λ j. c i j *ℤ u j))

-- u / D goes to itself
pub record Fixed (n N : ℕ) (c : ℕ → ℕ → ℤ) (r : ℕ → ℤ) (D : ℕ) (u : ℕ → ℤ) : Type 0 where
  pub stays : (i : ℕ) → i < n → pos N *ℤ u i ≡ pos D *ℤ r i +ℤ int_sum n (λ j. c i j *ℤ u j)

abbrev width : Interval → ℕ
width s = nat_abs (s.high -ℤ s.low)

-- the end of s at which c times it is greatest, and least
abbrev top : ℤ → Interval → ℤ
top (pos a) s = s.high
top (negsuc a) s = s.low

abbrev bottom : ℤ → Interval → ℤ
bottom (pos a) s = s.low
bottom (negsuc a) s = s.high

apart : (a b c : ℤ) → a *ℤ (b -ℤ c) ≡ a *ℤ b -ℤ a *ℤ c
apart a b c = omega (arith, lin, *ℤ_add_right a b (neg_ℤ c), *ℤ_neg_right a c)

-- c times the two ends are its size times the width apart
spread : (c : ℤ) (s : Interval) → s.low ≤ℤ s.high → c *ℤ top c s ≡ c *ℤ bottom c s +ℤ pos (nat_abs c * width s)
spread (pos a) s h =
    let e : s.high ≡ s.low +ℤ pos (width s) = omega (arith, lin) in
    omega (arith, lin, ap (λ z. pos a *ℤ z) e, *ℤ_add_right (pos a) s.low (pos (width s)))
spread (negsuc a) s h =
    let e : s.low ≡ s.high +ℤ neg_ℤ (pos (width s)) = omega (arith, lin) in
    omega (arith, lin, ap (λ z. negsuc a *ℤ z) e, *ℤ_add_right (negsuc a) s.high (neg_ℤ (pos (width s))), *ℤ_neg_right (negsuc a) (pos (width s)), negsuc-*ℤ-pos a (width s))

sum_spread : (n : ℕ) (f g : ℕ → ℤ) (d : ℕ → ℕ) → ((j : ℕ) → j < n → f j ≡ g j +ℤ pos (d j)) → int_sum n f ≡ int_sum n g +ℤ pos (nat_sum n d)
sum_spread zero f g d e = refl
sum_spread (suc n) f g d e = omega (arith, lin, sum_spread n f g d (λ j h. e j (omega arith)), e n (omega arith))

top_in : (c : ℤ) (s : Interval) → s.low ≤ℤ s.high → In 1 s (top c s)
top_in (pos a) s h = record { above = omega (arith, ints); below = omega (arith, ints) }
top_in (negsuc a) s h = record { above = omega (arith, ints); below = omega (arith, ints) }

bottom_in : (c : ℤ) (s : Interval) → s.low ≤ℤ s.high → In 1 s (bottom c s)
bottom_in (pos a) s h = record { above = omega (arith, ints); below = omega (arith, ints) }
bottom_in (negsuc a) s h = record { above = omega (arith, ints); below = omega (arith, ints) }

-- the size of a sum of products
sizes : (n : ℕ) (c d : ℕ → ℤ) → nat_abs (int_sum n (λ j. c j *ℤ d j)) ≤ nat_sum n (λ j. nat_abs (c j) * nat_abs (d j))
sizes n c d = omega (arith, sum_size n (λ j. c j *ℤ d j), nat_sum_least n (λ j. nat_abs (c j *ℤ d j)) (λ j. nat_abs (c j) * nat_abs (d j)) (λ j h. omega (arith, unsigned_abs-* (c j) (d j))))

sum_apart : (n : ℕ) (c u v : ℕ → ℤ) → int_sum n (λ j. c j *ℤ (u j -ℤ v j)) ≡ int_sum n (λ j. c j *ℤ u j) -ℤ int_sum n (λ j. c j *ℤ v j)
sum_apart n c u v = sum_same n (λ j. c j *ℤ (u j -ℤ v j)) (λ j. c j *ℤ u j -ℤ c j *ℤ v j) (λ j h. apart (c j) (u j) (v j)) ∙ sum_sub n (λ j. c j *ℤ u j) (λ j. c j *ℤ v j)

-- u brought into the box from L to H is no farther, N times, than N u is from any point of that box times N
abbrev clamped : ℤ → ℤ → ℤ → ℤ
clamped L H u = int_max L (int_min H u)

clamp_near : (N : ℕ) (L H u F : ℤ) → L ≤ℤ H → (pos N *ℤ L) ≤ℤ F → F ≤ℤ (pos N *ℤ H) → N * nat_abs (u -ℤ clamped L H u) ≤ nat_abs (pos N *ℤ u -ℤ F)
clamp_near N L H u F o p q = by_lt_z u L under (λ a. by_lt_z H u (over a) (between a))
  where
    size : nat_abs (pos N *ℤ u -ℤ pos N *ℤ clamped L H u) ≡ N * nat_abs (u -ℤ clamped L H u)
    size = ap nat_abs (sym (apart (pos N) u (clamped L H u))) ∙ unsigned_abs-* (pos N) (u -ℤ clamped L H u)

    under : u <ℤ L → N * nat_abs (u -ℤ clamped L H u) ≤ nat_abs (pos N *ℤ u -ℤ F)
    under h =
        let e : clamped L H u ≡ L = omega (arith, lin, clamps) in
        let k : u ≤ℤ L = omega (arith, lin) in
        omega (arith, lin, size, ap (λ z. pos N *ℤ z) e, scaled N k)

    over : L ≤ℤ u → H <ℤ u → N * nat_abs (u -ℤ clamped L H u) ≤ nat_abs (pos N *ℤ u -ℤ F)
    over a h =
        let e : clamped L H u ≡ H = omega (arith, lin, clamps) in
        let k : H ≤ℤ u = omega (arith, lin) in
        omega (arith, lin, size, ap (λ z. pos N *ℤ z) e, scaled N k)

    between : L ≤ℤ u → u ≤ℤ H → N * nat_abs (u -ℤ clamped L H u) ≤ nat_abs (pos N *ℤ u -ℤ F)
    between a b =
        let e : clamped L H u ≡ u = omega (arith, lin, clamps) in
        omega (arith, lin, size, ap (λ z. pos N *ℤ z) e)

module _ (n N : ℕ) (c : ℕ → ℕ → ℤ) (r : ℕ → ℤ) (Y V : ℕ → Interval) (s : Step n N c r Y V) where
  box_ordered : (i : ℕ) → i < n → (Y i).low ≤ℤ (Y i).high
  box_ordered i h = omega (arith, lin, s.above i h, s.ordered i h, s.below i h)

  -- the sizes of c, measured by the widths of Y, come to less than N: a step's ends are less than the box's apart
  shrinks : (i : ℕ) → i < n → nat_sum n (λ j. nat_abs (c i j) * width (Y j)) < N * width (Y i)
  shrinks i h =
      let a : In N (V i) (pos 1 *ℤ r i +ℤ int_sum n (λ j. c i j *ℤ top (c i j) (Y j))) = rw mul-one at (s.into 1 (λ j. top (c i j) (Y j)) (λ j l. top_in (c i j) (Y j) (box_ordered j l)) i h) in
      let b : In N (V i) (pos 1 *ℤ r i +ℤ int_sum n (λ j. c i j *ℤ bottom (c i j) (Y j))) = rw mul-one at (s.into 1 (λ j. bottom (c i j) (Y j)) (λ j l. bottom_in (c i j) (Y j) (box_ordered j l)) i h) in
      let w : (Y i).high ≡ (Y i).low +ℤ pos (width (Y i)) = omega (arith, lin, box_ordered i h) in
      let p : (Y i).low ≤ℤ (V i).low = omega (arith, lin, s.above i h) in
      let q : ((V i).high +ℤ pos 1) ≤ℤ (Y i).high = omega (arith, lin, s.below i h) in
      omega (
        arith,
        lin,
        a.below,
        b.above,
        s.some,
        sum_spread n (λ j. c i j *ℤ top (c i j) (Y j)) (λ j. c i j *ℤ bottom (c i j) (Y j)) (λ j. nat_abs (c i j) * width (Y j)) (λ j l. spread (c i j) (Y j) (box_ordered j l)),
        ap (λ z. pos N *ℤ z) w,
        *ℤ_add_right (pos N) (Y i).low (pos (width (Y i))),
        scaled N p,
        scaled N q,
        *ℤ_add_right (pos N) (V i).high (pos 1),
      )

  -- a fixed point u is any v of which u is no farther than N u is from where v goes
  near : (D : ℕ) (u v : ℕ → ℤ) → Fixed n N c r D u → ((i : ℕ) → i < n → N * nat_abs (u i -ℤ v i) ≤ nat_abs (pos N *ℤ u i -ℤ (pos D *ℤ r i +ℤ int_sum n (λ j. c i j *ℤ v j)))) → (i : ℕ) → i < n → u i ≡ v i
  near D u v f g i h = omega (arith, lin, contraction n N (λ i j. nat_abs (c i j)) (λ j. width (Y j)) (λ j. nat_abs (u j -ℤ v j)) shrinks grows i h)
    where
      grows : (i : ℕ) → i < n → N * nat_abs (u i -ℤ v i) ≤ nat_sum n (λ j. nat_abs (c i j) * nat_abs (u j -ℤ v j))
      grows i h =
          let e : pos N *ℤ u i -ℤ (pos D *ℤ r i +ℤ int_sum n (λ j. c i j *ℤ v j)) ≡ int_sum n (λ j. c i j *ℤ (u j -ℤ v j)) = omega (arith, lin, f.stays i h, sum_apart n (c i) u v) in
          omega (arith, g i h, ap nat_abs e, sizes n (c i) (λ j. u j -ℤ v j))

  -- at most one fixed point
  pub unique : (D : ℕ) (u v : ℕ → ℤ) → Fixed n N c r D u → Fixed n N c r D v → (i : ℕ) → i < n → u i ≡ v i
  unique D u v f g = near D u v f (λ i h. omega (arith, ap nat_abs (ap (λ z. pos N *ℤ u i -ℤ z) (sym (g.stays i h)) ∙ sym (apart (pos N) (u i) (v i))), unsigned_abs-* (pos N) (u i -ℤ v i)))

  -- u brought into the box, row by row
  abbrev clipped : ℕ → (ℕ → ℤ) → ℕ → ℤ
  clipped D u j = clamped (pos D *ℤ (Y j).low) (pos D *ℤ (Y j).high) (u j)

  clipped_in : (D : ℕ) (u : ℕ → ℤ) (j : ℕ) → j < n → In D (Y j) (clipped D u j)
  clipped_in D u j l = record {
    above = omega (arith, lin, clamps);
    below = omega (arith, lin, clamps, scaled D (box_ordered j l));
  }

  -- and that one lies in the box
  pub enclosed : (D : ℕ) (u : ℕ → ℤ) → Fixed n N c r D u → (i : ℕ) → i < n → In D (Y i) (u i)
  enclosed D u f i h = subst (In D (Y i)) (sym (near D u (clipped D u) f close i h)) (clipped_in D u i h)
    where
      close : (i : ℕ) → i < n → N * nat_abs (u i -ℤ clipped D u i) ≤ nat_abs (pos N *ℤ u i -ℤ (pos D *ℤ r i +ℤ int_sum n (λ j. c i j *ℤ clipped D u j)))
      close i h =
          let k = s.into D (clipped D u) (clipped_in D u) i h in
          let a : (Y i).low ≤ℤ (V i).low = omega (arith, lin, s.above i h) in
          let b : (V i).high ≤ℤ (Y i).high = omega (arith, lin, s.below i h) in
          clamp_near N (pos D *ℤ (Y i).low) (pos D *ℤ (Y i).high) (u i) (pos D *ℤ r i +ℤ int_sum n (λ j. c i j *ℤ clipped D u j)) (scaled D (box_ordered i h))
          (omega (arith, lin, k.above, scaled (N * D) a, *ℤ_assoc (pos N) (pos D) (Y i).low))
          (omega (arith, lin, k.below, scaled (N * D) b, *ℤ_assoc (pos N) (pos D) (Y i).high))
