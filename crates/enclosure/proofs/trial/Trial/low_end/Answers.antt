use Rattle.std.proofs.Common.{◌≡◌, ℕ, ◌^◌, ◌<◌, ◌≤◌, length, refl, ap, ◌∙◌, arith, rules, w64}
use Rattle.std.proofs.lemmas.Int.{to_z-of_z}
use Rattle.method.specs.Method.{size}
use Rattle.system.specs.Figures.{spans}
use Rattle.prepare.proofs.Bits.{fits_as, spans_at}
use Rattle.enclosure.specs.declared.fault.End.TheVariants.{Low}
use Rattle.enclosure.specs.declared.trial.judging.Overshoot.{Overshoot}
use Rattle.enclosure.proofs.Accepts.{reaches_more, step_reaches}
use Rattle.enclosure.proofs.Grows.{overshoot_is}
use Rattle.enclosure.proofs.trial.Trial.low_end.Goals as goal

pub overflow_sub-result : goal.overflow_sub-result
overflow_sub-result c =
    let t = c.args.self.now in
    let p = t.prepared.now in
    let row : ℕ = c.args.row in
    let ylong : length t.y ≡ 12 = search rules in
    let vlong : length t.v ≡ 12 = search rules in
    let y : size (spans t.y row) ≤ 2 ^ 59 = (reaches_more p.states p.units t.y p.scale.1 t.near).within row c.requires in
    let v : size (spans t.v row) ≤ 2 ^ 59 = (step_reaches p t.y t.v t.near t.stepped).within row c.requires in
    let a : row < length t.y = omega (arith, p.size.1, c.requires) in
    let b : row < length t.v = omega (arith, p.size.1, c.requires) in
    let q = overshoot_is _ _ (spans t.y row).low (spans t.v row).low (c.low.ensures ∙ ap (λ i. i.low) (spans_at t.y row _ _ a refl)) (c.low-2.ensures ∙ ap (λ i. i.low) (spans_at t.v row _ _ b refl)) (omega arith) (omega arith) in
    fits_as _ _ q.0 q.1

pub returns : goal.returns
returns c =
    let t = c.args.self.now in
    let p = t.prepared.now in
    let row : ℕ = c.args.row in
    let ylong : length t.y ≡ 12 = search rules in
    let vlong : length t.v ≡ 12 = search rules in
    let y : size (spans t.y row) ≤ 2 ^ 59 = (reaches_more p.states p.units t.y p.scale.1 t.near).within row c.requires in
    let v : size (spans t.v row) ≤ 2 ^ 59 = (step_reaches p t.y t.v t.near t.stepped).within row c.requires in
    let a : row < length t.y = omega (arith, p.size.1, c.requires) in
    let b : row < length t.v = omega (arith, p.size.1, c.requires) in
    let q = overshoot_is _ _ (spans t.y row).low (spans t.v row).low (c.low.ensures ∙ ap (λ i. i.low) (spans_at t.y row _ _ a refl)) (c.low-2.ensures ∙ ap (λ i. i.low) (spans_at t.v row _ _ b refl)) (omega arith) (omega arith) in
    ap (λ o. let e : Overshoot = record { row = row; side = Low; over = o } in e) (to_z-of_z w64 _ (fits_as _ _ q.0 q.1) ∙ q.0)
