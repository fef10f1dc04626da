use Rattle.std.proofs.Common.{◌≡◌, ◌<◌, Ok, le_antisymm, arith}
use Rattle.std.proofs.lemmas.Result.{err_from_is_err_and}
use Rattle.sheet.proofs.Making.{loop_first, loop_last, loop_next, loop_stopped}
use Rattle.sheet.proofs.framed.Framed.narrow_all.Goals as goal

pub loop-m-init : goal.loop-m-init
loop-m-init g c M h q = loop_first _ M h _ _ _ _ q

pub loop-m-preserved : goal.loop-m-preserved
loop-m-preserved g c M h q =
    let s = c.loop-m.invariant M h q in
    loop_next _ M h s.0 _ c.loop-m.m (Ok tt) _ _ _ s.1 (c.in_ok-narrow_one.ensures M s.0 s.2)

pub returns-in_err-narrow_one : goal.returns-in_err-narrow_one
returns-in_err-narrow_one g c M h q =
    let s = c.loop-m.invariant M h q in
    let p = err_from_is_err_and c.from_residual.result c.from_residual.ensures.1 in
    let e : c.from-m-end.result ≡ c.args.self.now.narrowings = c.from-m-end.ensures in
    let l : c.loop-m.m < c.args.self.now.narrowings = omega (arith, e, c.loop-m-test.true) in
    rw (p.1, p.2) (loop_stopped _ M h s.0 _ c.loop-m.m _ _ _ _ _ l s.1 (c.in_err-narrow_one.ensures M s.0 s.2))

pub returns : goal.returns
returns g c M h q =
    let e : c.from-m-end.result ≡ c.args.self.now.narrowings = c.from-m-end.ensures in
    let last : c.loop-m.m ≡ c.args.self.now.narrowings = le_antisymm (omega (arith, e, c.loop-m.auto.m-end)) (omega (arith, e, c.loop-m-test.false)) in
    loop_last _ M h _ _ _ _ _ _ last (c.loop-m.invariant M h q)
