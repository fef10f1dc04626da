use Rattle.std.proofs.Common.{Err, ap, ◌∙◌, arith, w32, SFits, rules, ltb-false, ltb-true}
use Rattle.std.proofs.lemmas.Result.{err_from_is_err_and}
use Rattle.std.proofs.lemmas.Int.{to_z-of_z}
use Rattle.asking.proofs.Words.{amount, at_place, enough, no_amount, no_whole, whole, wrong_count}
use Rattle.asking.proofs.fixed.range.Goals as goal

pub returns-in_default : goal.returns-in_default
returns-in_default c = wrong_count c.args.words.now (search rules) c.miscounted.ensures

pub returns-in_err-part : goal.returns-in_err-part
returns-in_err-part c =
    let words = c.args.words.now in
    let p = err_from_is_err_and c.from_residual.result c.from_residual.ensures.1 in
    enough words (omega (arith, ltb-true, ltb-false))
    (no_whole (at_place words 0 _ (search rules)) c.in_err-part.field-0.0 c.in_err-part.ensures (p.1 ∙ ap (λ y. Err y) p.2))

pub returns-in_err-low : goal.returns-in_err-low
returns-in_err-low c =
    let words = c.args.words.now in
    let p = err_from_is_err_and c.from_residual-in_err-low.result c.from_residual-in_err-low.ensures.1 in
    enough words (omega (arith, ltb-true, ltb-false))
    (whole (at_place words 0 _ (search rules)) _ c.in_ok-part.ensures
    (no_amount (at_place words 1 _ (search rules)) c.in_err-low.field-0.0 c.in_err-low.ensures (p.1 ∙ ap (λ y. Err y) p.2)))

pub returns-in_err-high : goal.returns-in_err-high
returns-in_err-high c =
    let words = c.args.words.now in
    let p = err_from_is_err_and c.from_residual-in_err-high.result c.from_residual-in_err-high.ensures.1 in
    enough words (omega (arith, ltb-true, ltb-false))
    (whole (at_place words 0 _ (search rules)) _ c.in_ok-part.ensures
    (amount (at_place words 1 _ (search rules)) _ c.in_ok-low.ensures
    (no_amount (at_place words 2 _ (search rules)) c.in_err-high.field-0.0 c.in_err-high.ensures (p.1 ∙ ap (λ y. Err y) p.2))))

pub returns : goal.returns
returns c =
    let words = c.args.words.now in
    let fits_low : SFits w32 c.in_ok-low.low = search rules in
    let fits_high : SFits w32 c.in_ok-high.high = search rules in
    enough words (omega (arith, ltb-true, ltb-false))
    (whole (at_place words 0 _ (search rules)) _ c.in_ok-part.ensures
    (amount (at_place words 1 _ (search rules)) _ c.in_ok-low.ensures
    (amount (at_place words 2 _ (search rules)) _ c.in_ok-high.ensures (simp to_z-of_z))))
