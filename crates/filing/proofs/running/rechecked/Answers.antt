use Rattle.std.proofs.lemmas.Result.{err_from_is_err_and}
use Rattle.filing.proofs.Checking.{rechecked_turn, unframed_turn}
use Rattle.filing.proofs.running.rechecked.Goals as goal

pub returns : goal.returns
returns g c M h q = rechecked_turn _ M h _ _ c.in_ok-new.ensures.0 c.in_ok-new.field-0 _ _ _ _ c.in_ok-new.ensures.1 (c.recheck.ensures.rechecked M h q)

pub returns-in_err-new : goal.returns-in_err-new
returns-in_err-new g c M h q =
    let p = err_from_is_err_and c.from_residual.result c.from_residual.ensures.1 in
    rw (p.1, p.2) (unframed_turn _ M h _ _ c.in_err-new.field-0.0 _ _ _ c.in_err-new.ensures q)
