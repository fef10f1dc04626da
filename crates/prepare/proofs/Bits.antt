-- numbers that pass through the machine's bits, and lists of 0
use Rattle.std.proofs.Common.{◌≡◌, ℕ, ◌+◌, ◌-◌, ◌<◌, ◌≤◌, List, ◌++◌, map, length, get_or, take, drop, replicate, ℤ, pos, ◌+ℤ◌, ◌-ℤ◌, ◌*ℤ◌, nat_abs, sym, ap, ◌∙◌, inl, inr, arith, w32, w64, SFits, to_z, of_z}
use Rattle.std.proofs.lemmas.List.{get_or_past, get_or-replicate, get_or-map, get_or-drop, get_or-take, get_or_append_left, get_or-append_right, map-append, drop-map, take-map, length-map, length-replicate}
use Rattle.std.proofs.lemmas.Int.{ints, to_z-of_z}
use Rattle.std.proofs.lemmas.Bool.{cases_lt}
use Rattle.span.specs.declared.span.Span.{Span}
use Rattle.span.specs.Intervals.{point}
use Rattle.span.specs.Spans.{ends}
use Rattle.method.specs.Sums.{int_sum}
use Rattle.method.proofs.Bounds.{integer_fits}
use Rattle.method.proofs.Sizes.{unsigned_abs_product}
use Rattle.system.specs.Figures.{spans}
use Rattle.prepare.proofs.Additions.{int_sum_more}

pub fits_as : (a b : ℤ) → a ≡ b → SFits w64 b → SFits w64 a
fits_as a b e h = rw e h

pub narrow_fits : (z : ℤ) → SFits w32 z → SFits w64 z
narrow_fits z h = omega (arith, ints)

pub read_narrow : (q y : ℤ) → SFits w32 y → q ≡ to_z w32 (of_z w32 y) → q ≡ y
read_narrow q y f e = e ∙ to_z-of_z w32 y f

pub is_product : (u q U y : ℤ) → u ≡ U → q ≡ y → SFits w64 U → SFits w64 y → to_z w64 (of_z w64 u) *ℤ to_z w64 (of_z w64 q) ≡ U *ℤ y
is_product u q U y e f h k = rw (e, f, to_z-of_z w64 U h, to_z-of_z w64 y k)

pub is_difference : (u q U y : ℤ) → u ≡ U → q ≡ y → SFits w64 U → SFits w64 y → to_z w64 (of_z w64 u) -ℤ to_z w64 (of_z w64 q) ≡ U -ℤ y
is_difference u q U y e f h k = rw (e, f, to_z-of_z w64 U h, to_z-of_z w64 y k)

pub narrow_product : (x y : ℤ) → SFits w32 x → SFits w32 y → SFits w64 (x *ℤ y)
narrow_product x y f g =
    let a : nat_abs x ≤ 2147483648 = omega (arith, ints) in
    let b : nat_abs y ≤ 2147483648 = omega (arith, ints) in
    integer_fits (x *ℤ y) (omega (arith, unsigned_abs_product x y a b))

pub product_read : (x y p q : ℤ) → SFits w32 x → SFits w32 y → p ≡ to_z w32 (of_z w32 x) → q ≡ to_z w32 (of_z w32 y) → to_z w64 (of_z w64 (to_z w64 (of_z w64 p) *ℤ to_z w64 (of_z w64 q))) ≡ x *ℤ y
product_read x y p q f g d e =
    let k : to_z w64 (of_z w64 p) *ℤ to_z w64 (of_z w64 q) ≡ x *ℤ y = is_product p q x y (read_narrow p x f d) (read_narrow q y g e) (narrow_fits x f) (narrow_fits y g) in
    to_z-of_z w64 _ (fits_as _ _ k (narrow_product x y f g)) ∙ k

-- one more product of a sum
pub sum_next : (f : ℕ → ℤ) (j : ℕ) (z r : ℤ) → z ≡ int_sum j f → r ≡ f j → z +ℤ r ≡ int_sum (j + 1) f
sum_next f j z r zs e = ap (λ t. z +ℤ t) e ∙ ap (λ t. t +ℤ f j) zs ∙ int_sum_more j f

-- the scale
pub scale_fits : (S : ℕ) → S ≤ 1048576 → SFits w64 (pos S)
scale_fits S h = omega (arith, ints)

-- an element of a list of spans, by its ends
pub spans_at : (xs : List Span) (i : ℕ) (d z : Span) → i < length xs → z ≡ get_or xs i d → ends z ≡ spans xs i
spans_at xs i d z h e = ap ends e ∙ sym (get_or-map ends xs i d (point (pos 0)) h)

pub zero_spans : (n : ℕ) (z : Span) → ends z ≡ point (pos 0) → (i : ℕ) → spans (replicate n z) i ≡ point (pos 0)
zero_spans n z e i =
    elim (cases_lt i n) [ inl h ↦ sym (spans_at (replicate n z) i z z (rw length-replicate h) (sym (get_or-replicate n i z z h))) ∙ e | inr h ↦ get_or_past (map ends (replicate n z)) i (point (pos 0)) (rw (length-map, length-replicate) h) ]

-- the spans of a part of a list
pub spans_part : (xs : List Span) (a n i : ℕ) → i < n → spans (take n (drop a xs)) i ≡ spans xs (a + i)
spans_part xs a n i h = rw (← take-map, ← drop-map) (get_or-take n (drop a (map ends xs)) i (point (pos 0)) h ∙ get_or-drop a (map ends xs) i (point (pos 0)))

pub spans_front : (xs : List Span) (n i : ℕ) → i < n → spans (take n xs) i ≡ spans xs i
spans_front xs n i h = rw (← take-map) (get_or-take n (map ends xs) i (point (pos 0)) h)

-- the spans of a part and of what comes after it, joined again
pub spans_before : (xs ys : List Span) (i : ℕ) → i < length xs → spans (xs ++ ys) i ≡ spans xs i
spans_before xs ys i h =
    let l : i < length (map ends xs) = rw length-map h in
    rw map-append (get_or_append_left (map ends xs) (map ends ys) (point (pos 0)) i l)

pub spans_behind : (xs ys : List Span) (k i : ℕ) → length xs ≡ k → k ≤ i → spans (xs ++ drop k ys) i ≡ spans ys i
spans_behind xs ys k i e h =
    let l : length (map ends xs) ≡ k = rw length-map e in
    let whole : k + (i - k) ≡ i = omega arith in
    rw (map-append, ← drop-map) (get_or-append_right (map ends xs) (drop k (map ends ys)) k i (point (pos 0)) l h ∙ get_or-drop k (map ends ys) (i - k) (point (pos 0)) ∙ ap (spans ys) whole)
