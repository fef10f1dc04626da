use Rattle.std.proofs.Common.{sym, ◌∙◌}
use Rattle.std.proofs.lemmas.List.{take_at}
use Rattle.filing.proofs.Turning.{written_as}
use Rattle.filing.proofs.running.wrote.Goals as goal

pub returns-in-Ok : goal.returns-in-Ok
returns-in-Ok g c M h q =
    let before = c.as_mut_slice.ensures.value ∙ c.in_ok-buffer.ensures in
    let long = c.in-Ok.ensures.long ∙ c.as_mut_slice.ensures.len in
    (c.in-Ok.field-0, written_as _ h _ _ _ _ _ before (take_at _ _ _ long) (c.in-Ok.ensures.written M h q))

pub returns-in-Err : goal.returns-in-Err
returns-in-Err g c M h q =
    let before = c.as_mut_slice.ensures.value ∙ c.in_ok-buffer.ensures in
    written_as _ h _ _ _ _ _ before (sym (c.in-Err.ensures.unchanged ∙ before)) (c.in-Err.ensures.written M h q)
