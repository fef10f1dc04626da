-- a grown row fits, and its ends come in order
use Rattle.std.proofs.Common.{◌≡◌, ℕ, ◌*◌, ◌^◌, ◌≤◌, ℤ, pos, ◌+ℤ◌, ◌-ℤ◌, ◌*ℤ◌, nat_abs, ◌≤ℤ◌, refl, ◌∙◌, arith, lit<, w64, SFits, to_z, of_z}
use Rattle.std.proofs.lemmas.Int.{clamps, ints, to_z-of_z}
use Rattle.std.specs.Int.{int_max, int_min}
use Rattle.span.specs.Intervals.{Interval, point, brought}
use Rattle.span.specs.Rounding.{floor, ceiling}
use Rattle.span.proofs.Floors.{floor_ceiling}
use Rattle.span.proofs.Integers.{lin, scaled}
use Rattle.method.specs.Method.{size}
use Rattle.method.specs.Trials.{grown}
use Rattle.prepare.proofs.Bits.{is_difference}
use Rattle.method.proofs.Sizes.{unsigned_abs_product, size_brought}

-- up to 11 tenths of what is within 2 ^ 59
tenths : (k : ℕ) (x : ℤ) → k ≤ 11 → nat_abs x ≤ 2 ^ 59 → (nat_abs (floor 10 (pos k *ℤ x)) ≤ 2 ^ 60) × (nat_abs (ceiling 10 (pos k *ℤ x)) ≤ 2 ^ 60)
unfolding brought
tenths k x h l =
    let z : nat_abs (pos k *ℤ x) ≤ 11 * 2 ^ 59 = unsigned_abs_product (pos k) x h l in
    let s : size (brought 10 (point (pos k *ℤ x))) ≤ 2 ^ 60 = size_brought 10 (2 ^ 60) (point (pos k *ℤ x)) (lit< tt) (omega arith) in
    (omega arith, omega arith)

pub lesser : (x a b m : ℤ) → nat_abs x ≤ 2 ^ 59 → SFits w64 a → SFits w64 b → a ≡ floor 10 (to_z w64 (of_z w64 (pos 9 *ℤ to_z w64 (of_z w64 x)))) → b ≡ floor 10 (to_z w64 (of_z w64 (pos 11 *ℤ to_z w64 (of_z w64 x)))) → m ≡ int_min (to_z w64 (of_z w64 a)) (to_z w64 (of_z w64 b)) → (m ≡ int_min (floor 10 (pos 9 *ℤ x)) (floor 10 (pos 11 *ℤ x))) × (nat_abs m ≤ 2 ^ 60)
lesser x a b m h fa fb ea eb em =
    let fx : SFits w64 x = omega (arith, ints) in
    let f : SFits w64 (pos 9 *ℤ x) = omega (arith, ints) in
    let g : SFits w64 (pos 11 *ℤ x) = omega (arith, ints) in
    let p : a ≡ floor 10 (pos 9 *ℤ x) = simp to_z-of_z at ea in
    let q : b ≡ floor 10 (pos 11 *ℤ x) = simp to_z-of_z at eb in
    let r : m ≡ int_min a b = simp to_z-of_z at em in
    let s = (tenths 9 x (omega arith) h).0 in
    let t = (tenths 11 x (omega arith) h).0 in
    let u : nat_abs a ≤ 2 ^ 60 = rw p s in
    let v : nat_abs b ≤ 2 ^ 60 = rw q t in
    let w : nat_abs (int_min a b) ≤ 2 ^ 60 = omega (arith, lin, clamps) in
    (r ∙ rw (p, q) refl, rw r w)

pub greater : (x a b m : ℤ) → nat_abs x ≤ 2 ^ 59 → SFits w64 a → SFits w64 b → a ≡ ceiling 10 (to_z w64 (of_z w64 (pos 9 *ℤ to_z w64 (of_z w64 x)))) → b ≡ ceiling 10 (to_z w64 (of_z w64 (pos 11 *ℤ to_z w64 (of_z w64 x)))) → m ≡ int_max (to_z w64 (of_z w64 a)) (to_z w64 (of_z w64 b)) → (m ≡ int_max (ceiling 10 (pos 9 *ℤ x)) (ceiling 10 (pos 11 *ℤ x))) × (nat_abs m ≤ 2 ^ 60)
greater x a b m h fa fb ea eb em =
    let fx : SFits w64 x = omega (arith, ints) in
    let f : SFits w64 (pos 9 *ℤ x) = omega (arith, ints) in
    let g : SFits w64 (pos 11 *ℤ x) = omega (arith, ints) in
    let p : a ≡ ceiling 10 (pos 9 *ℤ x) = simp to_z-of_z at ea in
    let q : b ≡ ceiling 10 (pos 11 *ℤ x) = simp to_z-of_z at eb in
    let r : m ≡ int_max a b = simp to_z-of_z at em in
    let s = (tenths 9 x (omega arith) h).1 in
    let t = (tenths 11 x (omega arith) h).1 in
    let u : nat_abs a ≤ 2 ^ 60 = rw p s in
    let v : nat_abs b ≤ 2 ^ 60 = rw q t in
    let w : nat_abs (int_max a b) ≤ 2 ^ 60 = omega (arith, lin, clamps) in
    (r ∙ rw (p, q) refl, rw r w)

pub grown_ordered : (v : Interval) → v.low ≤ℤ v.high → (grown v).low ≤ℤ (grown v).high
unfolding grown
grown_ordered v h = omega (arith, lin, clamps, floor_ceiling 10 (pos 9 *ℤ v.low) (pos 9 *ℤ v.high) (lit< tt) (scaled 9 h))

pub grown_from : (v : Interval) (a b l h : ℤ) → SFits w64 a → SFits w64 b → SFits w64 l → SFits w64 h → a ≡ v.low → b ≡ v.high → l ≡ int_min (floor 10 (pos 9 *ℤ to_z w64 (of_z w64 a))) (floor 10 (pos 11 *ℤ to_z w64 (of_z w64 a))) -ℤ pos 1 → h ≡ int_max (ceiling 10 (pos 9 *ℤ to_z w64 (of_z w64 b))) (ceiling 10 (pos 11 *ℤ to_z w64 (of_z w64 b))) +ℤ pos 1 → (to_z w64 (of_z w64 l) ≡ (grown v).low) × (to_z w64 (of_z w64 h) ≡ (grown v).high)
unfolding grown
grown_from v a b l h fa fb fl fh ea eb el eh =
    let p : l ≡ int_min (floor 10 (pos 9 *ℤ a)) (floor 10 (pos 11 *ℤ a)) -ℤ pos 1 = simp to_z-of_z at el in
    let q : h ≡ int_max (ceiling 10 (pos 9 *ℤ b)) (ceiling 10 (pos 11 *ℤ b)) +ℤ pos 1 = simp to_z-of_z at eh in
    (to_z-of_z w64 l fl ∙ (rw ea at p), to_z-of_z w64 h fh ∙ (rw eb at q))

pub same_ends : (v : Interval) (l h : ℤ) → l ≡ v.low → h ≡ v.high → ◌≡◌ {A = Interval} (record { low = l; high = h }) v
same_ends v l h p q = rw (p, q) refl

-- how far one end passes another
pub overshoot_is : (x y X Y : ℤ) → x ≡ X → y ≡ Y → nat_abs X ≤ 2 ^ 59 → nat_abs Y ≤ 2 ^ 59 → (to_z w64 (of_z w64 x) -ℤ to_z w64 (of_z w64 y) ≡ X -ℤ Y) × SFits w64 (X -ℤ Y)
overshoot_is x y X Y e f a b =
    let fx : SFits w64 X = omega (arith, ints) in
    let fy : SFits w64 Y = omega (arith, ints) in
    let fits : SFits w64 (X -ℤ Y) = omega (arith, ints, lin) in
    (is_difference x y X Y e f fx fy, fits)
