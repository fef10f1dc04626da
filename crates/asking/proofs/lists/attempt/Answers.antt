use Rattle.std.proofs.Common.{refl}
use Rattle.std.proofs.lemmas.Result.{err_from_is_err_and}
use Rattle.asking.specs.declared.asked.Asked.{Asked}
use Rattle.asking.specs.Lines.{SaysTry, texts}
use Rattle.asking.proofs.Amounts.{read_of, told_on, unheard}
use Rattle.asking.proofs.lists.attempt.Goals as goal

pub returns-in_err-numbers : goal.returns-in_err-numbers
returns-in_err-numbers c =
    let words = texts c.args.words.now in
    let p = err_from_is_err_and c.from_residual.result c.from_residual.ensures.1 in
    rw (p.1, p.2) (unheard (SaysTry words) words c.in_err-numbers.field-0.0 (λ e h. told_on Asked _ words e h) c.in_err-numbers.ensures)

pub returns : goal.returns
returns c = read_of (texts c.args.words.now) _ c.in_ok-numbers.ensures _ c.in_ok-numbers.numbers _ refl (c.in_ok-numbers.numbers, refl, refl)
