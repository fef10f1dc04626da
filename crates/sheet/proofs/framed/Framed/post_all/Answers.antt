use Rattle.std.proofs.Common.{◌≡◌, ◌<◌, Ok, ap, ◌∙◌, le_antisymm, arith}
use Rattle.std.proofs.lemmas.Result.{err_from_is_err_and}
use Rattle.sheet.specs.Layout.{at_ranges}
use Rattle.sheet.proofs.Making.{loop_first, loop_last, loop_next, loop_stopped}
use Rattle.sheet.proofs.framed.Framed.post_all.Goals as goal

pub loop-t-init : goal.loop-t-init
loop-t-init g c M h q = loop_first _ M h _ _ _ _ q

pub loop-t-preserved : goal.loop-t-preserved
loop-t-preserved g c M h q =
    let s = c.loop-t.invariant M h q in
    loop_next _ M h s.0 _ c.loop-t.t (Ok tt) _ _ _ s.1 (c.in_ok-post_one.ensures M s.0 s.2)

pub returns-in_err-post_one : goal.returns-in_err-post_one
returns-in_err-post_one g c M h q =
    let s = c.loop-t.invariant M h q in
    let p = err_from_is_err_and c.from_residual.result c.from_residual.ensures.1 in
    let e : c.ranges-t-end.result ≡ at_ranges c.args.self.now.states c.args.self.now.settings = c.ranges-t-end.ensures.is ∙ ap (λ z. at_ranges z c.layout.result.settings) c.layout.ensures.0 ∙ ap (at_ranges c.args.self.now.states) c.layout.ensures.1 in
    let l : c.loop-t.t < at_ranges c.args.self.now.states c.args.self.now.settings = omega (arith, e, c.loop-t-test.true) in
    rw (p.1, p.2) (loop_stopped _ M h s.0 _ c.loop-t.t _ _ _ _ _ l s.1 (c.in_err-post_one.ensures M s.0 s.2))

pub returns : goal.returns
returns g c M h q =
    let e : c.ranges-t-end.result ≡ at_ranges c.args.self.now.states c.args.self.now.settings = c.ranges-t-end.ensures.is ∙ ap (λ z. at_ranges z c.layout.result.settings) c.layout.ensures.0 ∙ ap (at_ranges c.args.self.now.states) c.layout.ensures.1 in
    let last : c.loop-t.t ≡ at_ranges c.args.self.now.states c.args.self.now.settings = le_antisymm (omega (arith, e, c.loop-t.auto.t-end)) (omega (arith, e, c.loop-t-test.false)) in
    loop_last _ M h _ _ _ _ _ _ last (c.loop-t.invariant M h q)
