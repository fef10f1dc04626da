use Rattle.std.proofs.Common.{◌+◌, Ok, Err, refl, subst}
use Rattle.std.proofs.lemmas.Result.{err_from_is_err_and}
use Rattle.asking.specs.declared.asked.Asked.{Asked}
use Rattle.asking.specs.Lines.{FirstStroke, Heard, SaysPropose, Stroke, texts}
use Rattle.asking.proofs.Amounts.{ReadAs, back, front, parted, read_of, told_on, unheard}
use Rattle.asking.proofs.lists.propose.Goals as goal

pub returns-in_err-table : goal.returns-in_err-table
returns-in_err-table c =
    let words = c.args.words.now in
    let s = c.in_ok-stroke.stroke in
    let first : FirstStroke (texts words) s = subst (Stroke (texts words)) c.in_ok-stroke.ensures.ok_part c.first_stroke.ensures in
    let p = err_from_is_err_and c.from_residual-in_err-table.result c.from_residual-in_err-table.ensures.1 in
    let u = c.in_err-table.field-0.0 in
    let table = subst (λ ws. Heard (Err u) (ReadAs ws)) (front words s) c.in_err-table.ensures in
    rw (p.1, p.2) (unheard (SaysPropose (texts words)) _ u (λ e h. parted (texts words) s first (told_on Asked _ _ e h)) table)

pub returns-in_err-guesses : goal.returns-in_err-guesses
returns-in_err-guesses c =
    let words = c.args.words.now in
    let s = c.in_ok-stroke.stroke in
    let first : FirstStroke (texts words) s = subst (Stroke (texts words)) c.in_ok-stroke.ensures.ok_part c.first_stroke.ensures in
    let p = err_from_is_err_and c.from_residual-in_err-guesses.result c.from_residual-in_err-guesses.ensures.1 in
    let u = c.in_err-guesses.field-0.0 in
    let table = subst (λ ws. ReadAs ws (Ok c.in_ok-table.table)) (front words s) c.in_ok-table.ensures in
    let guesses = subst (λ ws. Heard (Err u) (ReadAs ws)) (back words (s + 1)) c.in_err-guesses.ensures in
    rw (p.1, p.2) (unheard (SaysPropose (texts words)) _ u (λ e h. parted (texts words) s first (read_of _ _ table _ c.in_ok-table.table _ refl (told_on Asked _ _ e h))) guesses)

pub returns : goal.returns
returns c =
    let words = c.args.words.now in
    let s = c.in_ok-stroke.stroke in
    let first : FirstStroke (texts words) s = subst (Stroke (texts words)) c.in_ok-stroke.ensures.ok_part c.first_stroke.ensures in
    let table = subst (λ ws. ReadAs ws (Ok c.in_ok-table.table)) (front words s) c.in_ok-table.ensures in
    let guesses = subst (λ ws. ReadAs ws (Ok c.in_ok-guesses.guesses)) (back words (s + 1)) c.in_ok-guesses.ensures in
    parted (texts words) s first
    (read_of _ _ table _ c.in_ok-table.table _ refl (read_of _ _ guesses _ c.in_ok-guesses.guesses _ refl (c.in_ok-table.table, c.in_ok-guesses.guesses, refl, refl, refl)))
