use Rattle.std.proofs.Common.{◌≡◌, ℕ, ◌<◌, arith, w64, SFits, rules}
use lib.Signed.{≤ℤ_refl}
use Rattle.std.proofs.lemmas.Int.{to_z-of_z}
use Rattle.span.specs.Spans.{ends}
use Rattle.audit.specs.Rows.{due_row}
use Rattle.audit.proofs.Drops.{dropped_fits, end_is, found}
use Rattle.audit.proofs.audit.Goals as goal

pub dropped_end-dropped_low-requires : goal.dropped_end-dropped_low-requires
dropped_end-dropped_low-requires g c =
    let S : ℕ = g.T.Scale.unit in
    let some : 0 < S = omega (arith, g.met.T.Scale.least) in
    let guess : SFits w64 c.args.guess = search rules in
    let low : SFits w64 c.args.sums.low = search rules in
    let high : SFits w64 c.args.sums.high = search rules in
    let due : ends c.in_ok-due.due ≡ due_row S c.args.guess (ends c.args.sums) = simp to_z-of_z at c.in_ok-due.ensures in
    simp (c.low.ensures, to_z-of_z) (dropped_fits S c.args.guess c.args.sums.low (ends c.args.sums) c.in_ok-due.due some (≤ℤ_refl _) c.args.sums.ordered due (search rules) (search rules))

pub dropped_end-dropped_high-requires : goal.dropped_end-dropped_high-requires
dropped_end-dropped_high-requires g c =
    let S : ℕ = g.T.Scale.unit in
    let some : 0 < S = omega (arith, g.met.T.Scale.least) in
    let guess : SFits w64 c.args.guess = search rules in
    let low : SFits w64 c.args.sums.low = search rules in
    let high : SFits w64 c.args.sums.high = search rules in
    let due : ends c.in_ok-due.due ≡ due_row S c.args.guess (ends c.args.sums) = simp to_z-of_z at c.in_ok-due.ensures in
    simp (c.high.ensures, to_z-of_z) (dropped_fits S c.args.guess c.args.sums.high (ends c.args.sums) c.in_ok-due.due some c.args.sums.ordered (≤ℤ_refl _) due (search rules) (search rules))

pub returns : goal.returns
returns g c =
    let S : ℕ = g.T.Scale.unit in
    let some : 0 < S = omega (arith, g.met.T.Scale.least) in
    let guess : SFits w64 c.args.guess = search rules in
    let low : SFits w64 c.args.sums.low = search rules in
    let high : SFits w64 c.args.sums.high = search rules in
    let due : ends c.in_ok-due.due ≡ due_row S c.args.guess (ends c.args.sums) = simp to_z-of_z at c.in_ok-due.ensures in
    found S c.args.guess _ _ c.args.sums c.in_ok-due.due some due
    (end_is S c.args.guess c.args.sums.low c.low.result c.dropped_end-dropped_low.result guess low (search rules) c.low.ensures c.dropped_end-dropped_low.ensures)
    (end_is S c.args.guess c.args.sums.high c.high.result c.dropped_end-dropped_high.result guess high (search rules) c.high.ensures c.dropped_end-dropped_high.ensures)
