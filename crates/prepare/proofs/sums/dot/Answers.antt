use Rattle.std.proofs.Common.{ℕ, ◌+◌, ◌*◌, ◌^◌, ◌<◌, get_or, ℤ, pos, ◌*ℤ◌, nat_abs, ◌∙◌, arith, w32, w64, SFits, rules}
use Rattle.std.proofs.lemmas.Int.{to_z-of_z}
use Rattle.method.proofs.Bounds.{integer_fits}
use Rattle.prepare.proofs.Bits.{fits_as, product_read, sum_next}
use Rattle.prepare.proofs.sums.dot.Goals as goal

fits_next : (z : ℤ) → nat_abs z < 2 ^ 62 → SFits w64 z
fits_next z h = integer_fits z (omega arith)

pub overflow_add-sum : goal.overflow_add-sum
overflow_add-sum c =
    let f : ℕ → ℤ = λ j. get_or c.args.a.now j (pos 0) *ℤ get_or c.args.b.now (j * c.args.stride) (pos 0) in
    let fx : SFits w32 (get_or c.args.a.now c.loop-j.j (pos 0)) = search rules in
    let fy : SFits w32 (get_or c.args.b.now (c.loop-j.j * c.args.stride) (pos 0)) = search rules in
    let next = sum_next f c.loop-j.j _ _ c.loop-j.invariant (product_read _ _ _ _ fx fy c.from.ensures c.from-in-loop-j.ensures) in
    fits_as _ _ next (fits_next _ (c.requires.fits (c.loop-j.j + 1) (omega arith)))

pub loop-j-preserved : goal.loop-j-preserved
loop-j-preserved c =
    let f : ℕ → ℤ = λ j. get_or c.args.a.now j (pos 0) *ℤ get_or c.args.b.now (j * c.args.stride) (pos 0) in
    let fx : SFits w32 (get_or c.args.a.now c.loop-j.j (pos 0)) = search rules in
    let fy : SFits w32 (get_or c.args.b.now (c.loop-j.j * c.args.stride) (pos 0)) = search rules in
    let next = sum_next f c.loop-j.j _ _ c.loop-j.invariant (product_read _ _ _ _ fx fy c.from.ensures c.from-in-loop-j.ensures) in
    to_z-of_z w64 _ (fits_as _ _ next (fits_next _ (c.requires.fits (c.loop-j.j + 1) (omega arith)))) ∙ next
