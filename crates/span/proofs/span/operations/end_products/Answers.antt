-- a product of ends that does not fit keeps the whole product from fitting
use Rattle.std.proofs.Common.{ℤ, ◌*ℤ◌, ◌≤ℤ◌, w64, SFits, to_z, of_z, rules}
use lib.Signed.{≤ℤ_refl}
use Rattle.std.proofs.lemmas.Result.{err_from_is_err_and}
use Rattle.std.proofs.lemmas.Int.{to_z-of_z}
use Rattle.span.specs.declared.span.Span.{Span}
use Rattle.span.specs.Intervals.{◌*ᵢ◌}
use Rattle.span.specs.Spans.{ends, Fits}
use Rattle.span.proofs.Contains.{product_unfit}
use Rattle.span.proofs.span.operations.end_products.Goals as goal

unfit : (s t : Span) (x y : ℤ) → SFits w64 x → SFits w64 y → s.low ≤ℤ x → x ≤ℤ s.high → t.low ≤ℤ y → y ≤ℤ t.high → (SFits w64 (to_z w64 (of_z w64 x) *ℤ to_z w64 (of_z w64 y)) → ⊥) → Fits (ends s *ᵢ ends t) → ⊥
unfit s t x y f g p q r w n = product_unfit (ends s) (ends t) x y p q r w (simp to_z-of_z at n)

pub returns-in_err-a : goal.returns-in_err-a
returns-in_err-a c =
    let p = err_from_is_err_and c.from_residual.result c.from_residual.ensures.1 in
    let h = c.in_err-a.ensures in
    rw (p.1, p.2) (h.0, unfit c.args.s c.args.t c.args.s.low c.args.t.low (search rules) (search rules) (≤ℤ_refl _) c.args.s.ordered (≤ℤ_refl _) c.args.t.ordered h.1)

pub returns-in_err-b : goal.returns-in_err-b
returns-in_err-b c =
    let p = err_from_is_err_and c.from_residual-in_err-b.result c.from_residual-in_err-b.ensures.1 in
    let h = c.in_err-b.ensures in
    rw (p.1, p.2) (h.0, unfit c.args.s c.args.t c.args.s.low c.args.t.high (search rules) (search rules) (≤ℤ_refl _) c.args.s.ordered c.args.t.ordered (≤ℤ_refl _) h.1)

pub returns-in_err-c : goal.returns-in_err-c
returns-in_err-c c =
    let p = err_from_is_err_and c.from_residual-in_err-c.result c.from_residual-in_err-c.ensures.1 in
    let h = c.in_err-c.ensures in
    rw (p.1, p.2) (h.0, unfit c.args.s c.args.t c.args.s.high c.args.t.low (search rules) (search rules) c.args.s.ordered (≤ℤ_refl _) (≤ℤ_refl _) c.args.t.ordered h.1)

pub returns-in_err-d : goal.returns-in_err-d
returns-in_err-d c =
    let p = err_from_is_err_and c.from_residual-in_err-d.result c.from_residual-in_err-d.ensures.1 in
    let h = c.in_err-d.ensures in
    rw (p.1, p.2) (h.0, unfit c.args.s c.args.t c.args.s.high c.args.t.high (search rules) (search rules) c.args.s.ordered (≤ℤ_refl _) c.args.t.ordered (≤ℤ_refl _) h.1)
