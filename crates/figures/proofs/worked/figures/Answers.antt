use Rattle.std.proofs.Common.{◌≡◌, pos, negsuc, sym, refl, ◌∙◌, subst, lit<}
use Rattle.span.specs.Intervals.{Interval, ◌*ᵢ◌, brought}
use Rattle.span.specs.Spans.{Fits, ends}
use Rattle.figures.specs.Worked.{Worked, from_to}
use Rattle.figures.proofs.worked.figures.Goals as goal

worked : Worked
unfolding ◌*ᵢ◌
worked = record { minus_one_lower = refl; minus_one_upper = refl; two_lower = refl; two_upper = refl; product = refl }

fits : Fits (from_to (negsuc 14) (pos 12))
fits = record { low = record { sfits = lit< tt }; high = record { sfits = lit< tt } }

minus_one : brought 1000000 (from_to (negsuc 0) (negsuc 0)) ≡ from_to (negsuc 0) (pos 0)
unfolding brought
minus_one = refl

two : brought 1000000 (from_to (pos 2000000) (pos 2000000)) ≡ from_to (pos 2) (pos 2)
unfolding brought
two = refl

product_is : (s t : Interval) → s ≡ from_to (negsuc 1) (pos 3) → t ≡ from_to (negsuc 4) (pos 4) → s *ᵢ t ≡ from_to (negsuc 14) (pos 12)
product_is s t e f = rw (e, f) worked.product

pub returns-in_err-product : goal.returns-in_err-product
returns-in_err-product c =
    let h = c.in_err-product.ensures.value in
    let never : ⊥ = h.1 (subst Fits (sym (product_is (ends c.in_ok-new.field-0) (ends c.in_ok-new-2.field-0) c.in_ok-new.ensures c.in_ok-new-2.ensures)) fits) in
    absurd never

pub returns : goal.returns
returns c = record {
  rules = worked;
  value = (
    c.bring_back-minus_one.ensures.value ∙ rw c.point.ensures minus_one,
    c.bring_back-two.ensures.value ∙ rw c.point-2.ensures two,
    c.in_ok-product.ensures.value ∙ product_is (ends c.in_ok-new.field-0) (ends c.in_ok-new-2.field-0) c.in_ok-new.ensures c.in_ok-new-2.ensures,
  );
}
