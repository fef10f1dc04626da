use Rattle.std.proofs.Common.{◌≡◌, ◌<◌, Ok, le_antisymm, arith}
use Rattle.std.proofs.lemmas.Result.{err_from_is_err_and}
use Rattle.sheet.proofs.Making.{loop_first, loop_last, loop_next, loop_stopped}
use Rattle.sheet.proofs.framed.Framed.set_ranges.Goals as goal

pub loop-v-init : goal.loop-v-init
loop-v-init g c M h q = loop_first _ M h _ _ _ _ q

pub loop-v-preserved : goal.loop-v-preserved
loop-v-preserved g c M h q =
    let s = c.loop-v.invariant M h q in
    loop_next _ M h s.0 _ c.loop-v.v (Ok tt) _ _ _ s.1 (c.in_ok-set_one.ensures M s.0 s.2)

pub returns-in_err-set_one : goal.returns-in_err-set_one
returns-in_err-set_one g c M h q =
    let s = c.loop-v.invariant M h q in
    let p = err_from_is_err_and c.from_residual.result c.from_residual.ensures.1 in
    let e : c.from-v-end.result ≡ c.args.self.now.settings = c.from-v-end.ensures in
    let l : c.loop-v.v < c.args.self.now.settings = omega (arith, e, c.loop-v-test.true) in
    rw (p.1, p.2) (loop_stopped _ M h s.0 _ c.loop-v.v _ _ _ _ _ l s.1 (c.in_err-set_one.ensures M s.0 s.2))

pub returns : goal.returns
returns g c M h q =
    let e : c.from-v-end.result ≡ c.args.self.now.settings = c.from-v-end.ensures in
    let last : c.loop-v.v ≡ c.args.self.now.settings = le_antisymm (omega (arith, e, c.loop-v.auto.v-end)) (omega (arith, e, c.loop-v-test.false)) in
    loop_last _ M h _ _ _ _ _ _ last (c.loop-v.invariant M h q)
