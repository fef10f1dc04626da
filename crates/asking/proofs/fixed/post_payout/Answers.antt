use Rattle.std.proofs.Common.{Err, ap, ◌∙◌, w32, SFits, rules}
use Rattle.std.proofs.lemmas.Result.{err_from_is_err_and}
use Rattle.std.proofs.lemmas.Int.{to_z-of_z}
use Rattle.asking.proofs.Words.{amount, at_place, enough, no_amount, no_whole, whole, wrong_count}
use Rattle.asking.proofs.fixed.post_payout.Goals as goal

pub returns-in_default : goal.returns-in_default
returns-in_default c = wrong_count c.args.words.now (search rules) c.miscounted.ensures

pub returns-in_err-part : goal.returns-in_err-part
returns-in_err-part c =
    let words = c.args.words.now in
    let p = err_from_is_err_and c.from_residual.result c.from_residual.ensures.1 in
    enough words (search rules)
    (no_whole (at_place words 0 _ (search rules)) c.in_err-part.field-0.0 c.in_err-part.ensures (p.1 ∙ ap (λ y. Err y) p.2))

pub returns-in_err-row : goal.returns-in_err-row
returns-in_err-row c =
    let words = c.args.words.now in
    let p = err_from_is_err_and c.from_residual-in_err-row.result c.from_residual-in_err-row.ensures.1 in
    enough words (search rules)
    (whole (at_place words 0 _ (search rules)) _ c.in_ok-part.ensures
    (no_whole (at_place words 1 _ (search rules)) c.in_err-row.field-0.0 c.in_err-row.ensures (p.1 ∙ ap (λ y. Err y) p.2)))

pub returns-in_err-amount : goal.returns-in_err-amount
returns-in_err-amount c =
    let words = c.args.words.now in
    let p = err_from_is_err_and c.from_residual-in_err-amount.result c.from_residual-in_err-amount.ensures.1 in
    enough words (search rules)
    (whole (at_place words 0 _ (search rules)) _ c.in_ok-part.ensures
    (whole (at_place words 1 _ (search rules)) _ c.in_ok-row.ensures
    (no_amount (at_place words 2 _ (search rules)) c.in_err-amount.field-0.0 c.in_err-amount.ensures (p.1 ∙ ap (λ y. Err y) p.2))))

pub returns : goal.returns
returns c =
    let words = c.args.words.now in
    let fits_amount : SFits w32 c.in_ok-amount.amount = search rules in
    enough words (search rules)
    (whole (at_place words 0 _ (search rules)) _ c.in_ok-part.ensures
    (whole (at_place words 1 _ (search rules)) _ c.in_ok-row.ensures
    (amount (at_place words 2 _ (search rules)) _ c.in_ok-amount.ensures (simp to_z-of_z))))
