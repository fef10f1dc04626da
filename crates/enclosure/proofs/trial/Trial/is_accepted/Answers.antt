use Rattle.std.proofs.Common.{◌≡◌, ℕ, ◌+◌, ◌<◌, true, false, [], ◌∷◌, ◌++◌, length, take, sym, ap, ◌∙◌, arith, rules}
use Rattle.std.proofs.lemmas.List.{length-append, length-take}
use Rattle.std.proofs.lemmas.Slice.Zip.{zip_turn, zip_end}
use Rattle.method.specs.Trials.{is_inside}
use Rattle.system.specs.Figures.{spans}
use Rattle.prepare.proofs.Bits.{spans_at, spans_front}
use Rattle.enclosure.proofs.Verdict.{every_none, every_more, every_not, inside_read}
use Rattle.enclosure.proofs.trial.Trial.is_accepted.Goals as goal

pub loop-y-init : goal.loop-y-init
loop-y-init c = every_none _

pub returns-then-not-row_inside : goal.returns-then-not-row_inside
returns-then-not-row_inside c =
    let t = c.args.self.now in
    let n : ℕ = c.states-n.result in
    let j : ℕ = length c.loop-y.yielded in
    let first : c.into_iter-y-iterator.result.a.rest.now ≡ take n t.y = cc in
    let second : c.into_iter-y-iterator.result.b.rest.now ≡ take n t.v = cc in
    let turn = zip_turn (take n t.y) (take n t.v) c.loop-y.yielded c.into_iter-y-iterator.result c.loop-y.y-iterator c.next.new.self c.next.result first second c.loop-y.yielded_by (c.in-Some.y, c.in-Some.v) c.in-Some.is c.next.ensures.steps in
    let below : j < n = omega (arith, turn.0, length-take n t.y) in
    let y = spans_at (take n t.y) j c.in-Some.y.now c.in-Some.y.now turn.0 (turn.2 c.in-Some.y.now) ∙ spans_front t.y n j below in
    let v = spans_at (take n t.v) j c.in-Some.v.now c.in-Some.v.now turn.1 (turn.3 c.in-Some.v.now) ∙ spans_front t.v n j below in
    sym (every_not t.prepared.now.states j _ (omega (arith, c.states-n.ensures)) (inside_read c.in-Some.y.now c.in-Some.v.now (spans t.y j) (spans t.v j) false y v c.if-not-row_inside.ensures))

pub loop-y-preserved : goal.loop-y-preserved
loop-y-preserved c =
    let t = c.args.self.now in
    let n : ℕ = c.states-n.result in
    let j : ℕ = length c.loop-y.yielded in
    let first : c.into_iter-y-iterator.result.a.rest.now ≡ take n t.y = cc in
    let second : c.into_iter-y-iterator.result.b.rest.now ≡ take n t.v = cc in
    let turn = zip_turn (take n t.y) (take n t.v) c.loop-y.yielded c.into_iter-y-iterator.result c.loop-y.y-iterator c.next.new.self c.next.result first second c.loop-y.yielded_by (c.in-Some.y, c.in-Some.v) c.in-Some.is c.next.ensures.steps in
    let below : j < n = omega (arith, turn.0, length-take n t.y) in
    let y = spans_at (take n t.y) j c.in-Some.y.now c.in-Some.y.now turn.0 (turn.2 c.in-Some.y.now) ∙ spans_front t.y n j below in
    let v = spans_at (take n t.v) j c.in-Some.v.now c.in-Some.v.now turn.1 (turn.3 c.in-Some.v.now) ∙ spans_front t.v n j below in
    let next : length (c.loop-y.yielded ++ (c.in-Some.y, c.in-Some.v) ∷ []) ≡ j + 1 = simp length-append in
    ap (λ m. is_inside m (spans t.y) (spans t.v)) next ∙ every_more j _ c.loop-y.invariant (inside_read c.in-Some.y.now c.in-Some.v.now (spans t.y j) (spans t.v j) true y v c.if-not-row_inside.ensures)

pub returns : goal.returns
returns c =
    let t = c.args.self.now in
    let n : ℕ = c.states-n.result in
    let j : ℕ = length c.loop-y.yielded in
    let first : c.into_iter-y-iterator.result.a.rest.now ≡ take n t.y = cc in
    let second : c.into_iter-y-iterator.result.b.rest.now ≡ take n t.v = cc in
    let end = zip_end (take n t.y) (take n t.v) c.loop-y.yielded c.into_iter-y-iterator.result c.loop-y.y-iterator c.next.new.self c.next.result first second c.loop-y.yielded_by c.in-None.is c.next.ensures.steps in
    let ylong : length t.y ≡ 12 = search rules in
    let vlong : length t.v ≡ 12 = search rules in
    let all : j ≡ t.prepared.now.states = omega (arith, end, length-take n t.y, length-take n t.v, c.states-n.ensures, t.prepared.now.size.1) in
    sym (ap (λ m. is_inside m (spans t.y) (spans t.v)) (sym all) ∙ c.loop-y.invariant)
