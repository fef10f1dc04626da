use Rattle.std.proofs.Common.{subst, w32, SFits, rules}
use Rattle.std.proofs.lemmas.Int.{to_z-of_z}
use Rattle.docket.specs.Reflects.{Staged}
use Rattle.docket.proofs.Calls.{as_asked, no_narrow, no_run, no_try, still_prepares}
use Rattle.docket.proofs.docket.Docket.call.Goals as goal

pub returns-in_default-Open-clause-replied : goal.returns-in_default-Open-clause-replied
returns-in_default-Open-clause-replied g c M h q =
    as_asked _ M h _ _ _ _ _ _ c.in_default-Open.is-1 (c.open.ensures.replied M h q)

pub returns-in_default-Post-clause-replied : goal.returns-in_default-Post-clause-replied
returns-in_default-Post-clause-replied g c M h q =
    let f : SFits w32 c.in_default-Post.amount = search rules in
    as_asked _ M h _ _ _ _ _ _ c.in_default-Post.is-1 (simp to_z-of_z at (c.post.ensures.replied M h q))

pub returns-in_default-Range-clause-replied : goal.returns-in_default-Range-clause-replied
returns-in_default-Range-clause-replied g c M h q =
    let f : SFits w32 c.in_default-Range.low = search rules in
    let k : SFits w32 c.in_default-Range.high = search rules in
    as_asked _ M h _ _ _ _ _ _ c.in_default-Range.is-1 (simp to_z-of_z at (c.set_range.ensures.replied M h q))

pub returns-in_default-Propose-clause-replied : goal.returns-in_default-Propose-clause-replied
returns-in_default-Propose-clause-replied g c M h q =
    as_asked _ M h _ _ _ _ _ _ c.in_default-Propose.is-1 (c.propose.ensures.replied M h q)

pub returns-in-Drafting-Try-clause-replied : goal.returns-in-Drafting-Try-clause-replied
returns-in-Drafting-Try-clause-replied g c M h q =
    let s = subst (Staged g.T.Scale.unit h) c.in-Drafting-Try.is-0 q.stage_is in
    as_asked _ M h _ _ _ _ _ _ c.in-Drafting-Try.is-1 (no_try _ M h _ _ _ q _ s.0)

pub returns-in-Prepared-Try-clause-replied : goal.returns-in-Prepared-Try-clause-replied
returns-in-Prepared-Try-clause-replied g c M h q =
    let s = subst (Staged g.T.Scale.unit h) c.in-Prepared-Try.is-0 q.stage_is in
    as_asked _ M h _ _ _ _ _ _ c.in-Prepared-Try.is-1 (c.attempt.ensures.replied M h s.0 q s.1)

pub returns-in-Holding-Try-clause-replied : goal.returns-in-Holding-Try-clause-replied
returns-in-Holding-Try-clause-replied g c M h q =
    let s = subst (Staged g.T.Scale.unit h) c.in-Holding-Try.is-0 q.stage_is in
    as_asked _ M h _ _ _ _ _ _ c.in-Holding-Try.is-1 (c.attempt-in-Holding-Try.ensures.replied M h s.0.offer q (still_prepares _ h s.0 _ _ c.prepared.ensures s.1))

pub returns-in-Drafting-Run-clause-replied : goal.returns-in-Drafting-Run-clause-replied
returns-in-Drafting-Run-clause-replied g c M h q =
    let s = subst (Staged g.T.Scale.unit h) c.in-Drafting-Run.is-0 q.stage_is in
    as_asked _ M h _ _ _ _ _ _ c.in-Drafting-Run.is-1 (no_run _ M h _ _ _ q _ s.0)

pub returns-in-Prepared-Run-clause-replied : goal.returns-in-Prepared-Run-clause-replied
returns-in-Prepared-Run-clause-replied g c M h q =
    let s = subst (Staged g.T.Scale.unit h) c.in-Prepared-Run.is-0 q.stage_is in
    as_asked _ M h _ _ _ _ _ _ c.in-Prepared-Run.is-1 (c.run.ensures.replied M h s.0 q s.1)

pub returns-in-Holding-Run-clause-replied : goal.returns-in-Holding-Run-clause-replied
returns-in-Holding-Run-clause-replied g c M h q =
    let s = subst (Staged g.T.Scale.unit h) c.in-Holding-Run.is-0 q.stage_is in
    as_asked _ M h _ _ _ _ _ _ c.in-Holding-Run.is-1 (c.run-in-Holding-Run.ensures.replied M h s.0.offer q (still_prepares _ h s.0 _ _ c.prepared-in-Holding-Run.ensures s.1))

pub returns-in-Holding-Narrow-clause-replied : goal.returns-in-Holding-Narrow-clause-replied
returns-in-Holding-Narrow-clause-replied g c M h q =
    let s = subst (Staged g.T.Scale.unit h) c.in-Holding-Narrow.is-0 q.stage_is in
    as_asked _ M h _ _ _ _ _ _ c.in-Holding-Narrow.is-1 (c.narrow.ensures.replied M h s.0 q s.1)

pub returns-in-Drafting-Narrow-clause-replied : goal.returns-in-Drafting-Narrow-clause-replied
returns-in-Drafting-Narrow-clause-replied g c M h q =
    let s = subst (Staged g.T.Scale.unit h) c.in-Drafting-Narrow.is-0 q.stage_is in
    as_asked _ M h _ _ _ _ _ _ c.in-Drafting-Narrow.is-1 (no_narrow _ M h _ _ _ q s.1)

pub returns-in-Prepared-Narrow-clause-replied : goal.returns-in-Prepared-Narrow-clause-replied
returns-in-Prepared-Narrow-clause-replied g c M h q =
    let s = subst (Staged g.T.Scale.unit h) c.in-Prepared-Narrow.is-0 q.stage_is in
    as_asked _ M h _ _ _ _ _ _ c.in-Prepared-Narrow.is-1 (no_narrow _ M h _ _ _ q s.2)
