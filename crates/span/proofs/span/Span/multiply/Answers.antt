-- the least and the greatest are those of the four end products
use Rattle.std.proofs.Common.{◌≡◌, ℤ, ◌*ℤ◌, refl, ◌∙◌, w64, SFits, to_z, of_z, rules}
use Rattle.std.proofs.lemmas.Int.{to_z-of_z}
use Rattle.span.specs.Encloses.{Products}
use Rattle.span.specs.Intervals.{EndProducts, Interval, ◌*ᵢ◌, least, greatest}
use Rattle.span.specs.Spans.{ends}
use Rattle.span.proofs.Contains.{in_product, moved, product_ordered}
use Rattle.span.proofs.span.Span.multiply.Goals as goal

least_read : (s t : Interval) (a b c d r : ℤ) → SFits w64 a → SFits w64 b → SFits w64 c → SFits w64 d → SFits w64 r → EndProducts s t a b c d → r ≡ least (to_z w64 (of_z w64 a)) (to_z w64 (of_z w64 b)) (to_z w64 (of_z w64 c)) (to_z w64 (of_z w64 d)) → to_z w64 (of_z w64 r) ≡ least (s.low *ℤ t.low) (s.low *ℤ t.high) (s.high *ℤ t.low) (s.high *ℤ t.high)
least_read s t a b c d r fa fb fc fd fr h e = simp to_z-of_z ((simp to_z-of_z at e) ∙ simp (h.low_low, h.low_high, h.high_low, h.high_high))

greatest_read : (s t : Interval) (a b c d r : ℤ) → SFits w64 a → SFits w64 b → SFits w64 c → SFits w64 d → SFits w64 r → EndProducts s t a b c d → r ≡ greatest (to_z w64 (of_z w64 a)) (to_z w64 (of_z w64 b)) (to_z w64 (of_z w64 c)) (to_z w64 (of_z w64 d)) → to_z w64 (of_z w64 r) ≡ greatest (s.low *ℤ t.low) (s.low *ℤ t.high) (s.high *ℤ t.low) (s.high *ℤ t.high)
greatest_read s t a b c d r fa fb fc fd fr h e = simp to_z-of_z ((simp to_z-of_z at e) ∙ simp (h.low_low, h.low_high, h.high_low, h.high_high))

pub invariant_of-result : goal.invariant_of-result
unfolding ◌*ᵢ◌
invariant_of-result c =
    let s : Interval = ends c.args.self in
    let t : Interval = ends c.args.other in
    let h = c.in_ok-a.ensures in
    let lo : to_z w64 (of_z w64 c.least_of.result) ≡ least (s.low *ℤ t.low) (s.low *ℤ t.high) (s.high *ℤ t.low) (s.high *ℤ t.high) = least_read s t c.in_ok-a.a c.in_ok-a.b c.in_ok-a.c c.in_ok-a.d c.least_of.result (search rules) (search rules) (search rules) (search rules) (search rules) h c.least_of.ensures in
    let go : to_z w64 (of_z w64 c.greatest_of.result) ≡ greatest (s.low *ℤ t.low) (s.low *ℤ t.high) (s.high *ℤ t.low) (s.high *ℤ t.high) = greatest_read s t c.in_ok-a.a c.in_ok-a.b c.in_ok-a.c c.in_ok-a.d c.greatest_of.result (search rules) (search rules) (search rules) (search rules) (search rules) h c.greatest_of.ensures in
    record { ordered = rw (lo, go) (product_ordered s t) }

pub returns : goal.returns
unfolding ◌*ᵢ◌
returns c =
    let s : Interval = ends c.args.self in
    let t : Interval = ends c.args.other in
    let h = c.in_ok-a.ensures in
    let lo : to_z w64 (of_z w64 c.least_of.result) ≡ least (s.low *ℤ t.low) (s.low *ℤ t.high) (s.high *ℤ t.low) (s.high *ℤ t.high) = least_read s t c.in_ok-a.a c.in_ok-a.b c.in_ok-a.c c.in_ok-a.d c.least_of.result (search rules) (search rules) (search rules) (search rules) (search rules) h c.least_of.ensures in
    let go : to_z w64 (of_z w64 c.greatest_of.result) ≡ greatest (s.low *ℤ t.low) (s.low *ℤ t.high) (s.high *ℤ t.low) (s.high *ℤ t.high) = greatest_read s t c.in_ok-a.a c.in_ok-a.b c.in_ok-a.c c.in_ok-a.d c.greatest_of.result (search rules) (search rules) (search rules) (search rules) (search rules) h c.greatest_of.ensures in
    record {
      value = moved (λ i. i ≡ s *ᵢ t) _ _ _ _ refl lo go;
      ordered = rw (lo, go) (product_ordered s t);
      encloses = moved (Products s t) _ _ _ _ (in_product s t) lo go;
    }
