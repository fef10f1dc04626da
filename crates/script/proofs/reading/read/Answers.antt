use Rattle.std.proofs.Common.{Err, sym, ap, ◌∙◌, subst, rules}
use Rattle.std.proofs.lemmas.Result.{err_from_is_err_and}
use Rattle.script.specs.Reading.{Read, texts}
use Rattle.script.proofs.Places.{arranged, as_many, no_number}
use Rattle.script.proofs.reading.read.Goals as goal

pub returns-then-given-count : goal.returns-then-given-count
returns-then-given-count c = (c.in-Ok.ensures.value, sym (as_many c.args.words.now), λ e. c.if-given-count.true (e ∙ sym c.count.ensures))

pub returns-in_err-read : goal.returns-in_err-read
returns-in_err-read c =
    let p = err_from_is_err_and c.from_residual.result c.from_residual.ensures.1 in
    subst (Read c.args.name.now (texts c.args.words.now)) (sym (p.1 ∙ ap (λ y. Err y) p.2))
    (no_number _ _ c.in-Ok.kind c.in_err-read.field-0.0 c.in-Ok.ensures.value (as_many c.args.words.now ∙ c.if-given-count.false ∙ c.count.ensures) c.in_err-read.ensures)

pub returns : goal.returns
returns c =
    let read = c.in_ok-read.ensures in
    subst (Read c.args.name.now (texts c.args.words.now)) (sym c.ok_or.ensures.value)
    (arranged _ _ c.in-Ok.kind _ c.in_ok-read.read _ c.new.result c.in-Ok.ensures.value (sym (as_many c.args.words.now)) (as_many c.args.words.now ∙ c.if-given-count.false ∙ c.count.ensures) read.0 read.1 (search rules) c.new.ensures)
