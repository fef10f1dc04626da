use Rattle.std.proofs.Common.{Err, refl, ap, ◌∙◌, rules}
use Rattle.std.proofs.lemmas.Result.{err_from_is_err_and}
use Rattle.asking.proofs.Words.{at_place, enough, no_whole, whole, wrong_count}
use Rattle.asking.proofs.fixed.run.Goals as goal

pub returns-in_default : goal.returns-in_default
returns-in_default c = wrong_count c.args.words.now (search rules) c.miscounted.ensures

pub returns-in_err-trials : goal.returns-in_err-trials
returns-in_err-trials c =
    let words = c.args.words.now in
    let p = err_from_is_err_and c.from_residual.result c.from_residual.ensures.1 in
    enough words (search rules)
    (no_whole (at_place words 0 _ (search rules)) c.in_err-trials.field-0.0 c.in_err-trials.ensures (p.1 ∙ ap (λ y. Err y) p.2))

pub returns : goal.returns
returns c =
    let words = c.args.words.now in
    enough words (search rules)
    (whole (at_place words 0 _ (search rules)) _ c.in_ok-trials.ensures refl)
