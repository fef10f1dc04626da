use Rattle.std.proofs.Common.{Err, refl, ap, ◌∙◌, rules}
use Rattle.std.proofs.lemmas.Result.{err_from_is_err_and}
use Rattle.asking.proofs.Words.{at_place, enough, no_whole, whole, wrong_count}
use Rattle.asking.proofs.fixed.open.Goals as goal

pub returns-in_default : goal.returns-in_default
returns-in_default c = wrong_count c.args.words.now (search rules) c.miscounted.ensures

pub returns-in_err-states : goal.returns-in_err-states
returns-in_err-states c =
    let words = c.args.words.now in
    let p = err_from_is_err_and c.from_residual.result c.from_residual.ensures.1 in
    enough words (search rules)
    (no_whole (at_place words 0 _ (search rules)) c.in_err-states.field-0.0 c.in_err-states.ensures (p.1 ∙ ap (λ y. Err y) p.2))

pub returns-in_err-settings : goal.returns-in_err-settings
returns-in_err-settings c =
    let words = c.args.words.now in
    let p = err_from_is_err_and c.from_residual-in_err-settings.result c.from_residual-in_err-settings.ensures.1 in
    enough words (search rules)
    (whole (at_place words 0 _ (search rules)) _ c.in_ok-states.ensures
    (no_whole (at_place words 1 _ (search rules)) c.in_err-settings.field-0.0 c.in_err-settings.ensures (p.1 ∙ ap (λ y. Err y) p.2)))

pub returns : goal.returns
returns c =
    let words = c.args.words.now in
    enough words (search rules)
    (whole (at_place words 0 _ (search rules)) _ c.in_ok-states.ensures
    (whole (at_place words 1 _ (search rules)) _ c.in_ok-settings.ensures refl))
