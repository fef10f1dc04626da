use Rattle.std.proofs.Common.{[], ◌∷◌, Err}
use Rattle.std.proofs.lemmas.Result.{err_from_is_err_and}
use Rattle.sheet.proofs.Making.{joined, stopped}
use Rattle.sheet.proofs.framed.Framed.remake.Goals as goal

pub returns-in_err-post_all : goal.returns-in_err-post_all
returns-in_err-post_all g c M h q =
    let p = err_from_is_err_and c.from_residual.result c.from_residual.ensures.1 in
    rw (p.1, p.2) (stopped _ M h _ _ _ _ _ _ (c.in_err-post_all.ensures M h q))

pub returns-in_err-set_ranges : goal.returns-in_err-set_ranges
returns-in_err-set_ranges g c M h q =
    let p = err_from_is_err_and c.from_residual-in_err-set_ranges.result c.from_residual-in_err-set_ranges.ensures.1 in
    let a = c.in_ok-post_all.ensures M h q in
    rw (p.1, p.2) (joined _ M h a.0 _ _ (Err _) _ _ _ a.1 (stopped _ M a.0 _ _ _ _ _ _ (c.in_err-set_ranges.ensures M a.0 a.2)))

pub returns-in_err-propose : goal.returns-in_err-propose
returns-in_err-propose g c M h q =
    let p = err_from_is_err_and c.from_residual-in_err-propose.result c.from_residual-in_err-propose.ensures.1 in
    let a = c.in_ok-post_all.ensures M h q in
    let b = c.in_ok-set_ranges.ensures M a.0 a.2 in
    rw (p.1, p.2) (joined _ M h a.0 _ _ (Err _) _ _ _ a.1 (joined _ M a.0 b.0 _ _ (Err _) _ _ _ b.1 (stopped _ M b.0 (_ ∷ []) _ _ _ _ _ (c.in_err-propose.ensures M b.0 b.2))))

pub returns-in_err-attempt : goal.returns-in_err-attempt
returns-in_err-attempt g c M h q =
    let p = err_from_is_err_and c.from_residual-in_err-attempt.result c.from_residual-in_err-attempt.ensures.1 in
    let a = c.in_ok-post_all.ensures M h q in
    let b = c.in_ok-set_ranges.ensures M a.0 a.2 in
    let d = c.in_ok-propose.ensures M b.0 b.2 in
    rw (p.1, p.2) (joined _ M h a.0 _ _ (Err _) _ _ _ a.1 (joined _ M a.0 b.0 _ _ (Err _) _ _ _ b.1 (joined _ M b.0 d.0 (_ ∷ []) _ (Err _) _ _ _ d.1 (stopped _ M d.0 (_ ∷ []) _ _ _ _ _ (c.in_err-attempt.ensures M d.0 d.2)))))

pub returns : goal.returns
returns g c M h q =
    let a = c.in_ok-post_all.ensures M h q in
    let b = c.in_ok-set_ranges.ensures M a.0 a.2 in
    let d = c.in_ok-propose.ensures M b.0 b.2 in
    let e = c.in_ok-attempt.ensures M d.0 d.2 in
    joined _ M h a.0 _ _ _ _ _ _ a.1 (joined _ M a.0 b.0 _ _ _ _ _ _ b.1 (joined _ M b.0 d.0 (_ ∷ []) _ _ _ _ _ d.1 (joined _ M d.0 e.0 (_ ∷ []) _ _ _ _ _ e.1 (c.narrow_all.ensures M e.0 e.2))))
