use Rattle.std.proofs.Common.{Err, ap, ◌∙◌, rules}
use Rattle.std.proofs.lemmas.Result.{err_from_is_err_and}
use Rattle.script.proofs.Standing.{both_stand, second_turned}
use Rattle.script.proofs.answer.both.Goals as goal

pub returns-in_err-new-2 : goal.returns-in_err-new-2
returns-in_err-new-2 g c =
    let p = err_from_is_err_and c.from_residual-in_err-new-2.result c.from_residual-in_err-new-2.ensures.1 in
    second_turned c.args.a c.args.b c.args.c c.args.d c.in_ok-new.field-0 c.from_residual-in_err-new-2.result c.in_err-new-2.field-0.0 (search rules) (search rules) (search rules) (search rules) c.in_ok-new.ensures (p.1 ∙ ap (λ y. Err y) p.2) c.in_err-new-2.ensures

pub returns : goal.returns
returns g c = both_stand c.args.a c.args.b c.args.c c.args.d c.in_ok-new.field-0 c.in_ok-new-2.field-0 _ (search rules) (search rules) (search rules) (search rules) c.in_ok-new.ensures c.in_ok-new-2.ensures c.join.ensures
