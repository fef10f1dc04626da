use Rattle.std.proofs.Common.{◌≡◌, ℕ, ◌*◌, length, take, None, sym, ap, ◌∙◌, subst, arith, rules}
use Rattle.std.proofs.lemmas.Result.{err_from_is_err_and}
use Rattle.span.specs.Questions.{first_no}
use Rattle.system.specs.Figures.{spans}
use Rattle.enclosure.specs.Boxed.{Reaches, reach_questions}
use Rattle.enclosure.proofs.Accepts.{reached}
use Rattle.enclosure.proofs.Tells.{reach_front}
use Rattle.enclosure.proofs.trial.Trial.new.Goals as goal

pub returns-in_err-limited : goal.returns-in_err-limited
returns-in_err-limited g c =
    let p = c.args.prepared.now in
    let y = c.args.y in
    let S : ℕ = g.T.Scale.unit in
    let long : length y ≡ 12 = search rules in
    let asked : first_no (reach_questions S (length (take c.states.result y)) (spans (take c.states.result y))) ≡ first_no (reach_questions S p.states (spans y)) = reach_front S c.states.result y (omega (arith, p.size.1, c.states.ensures)) ∙ ap (λ n. first_no (reach_questions S n (spans y))) c.states.ensures in
    let e = err_from_is_err_and c.from_residual.result c.from_residual.ensures.1 in
    record { answer = rw (e.1, e.2) (sym asked ∙ c.in_err-limited.ensures); kept = rw e.1 tt }

pub step-v-requires-clause-near : goal.step-v-requires-clause-near
step-v-requires-clause-near g c =
    let p = c.args.prepared.now in
    let y = c.args.y in
    let S : ℕ = g.T.Scale.unit in
    let long : length y ≡ 12 = search rules in
    let asked : first_no (reach_questions S (length (take c.states.result y)) (spans (take c.states.result y))) ≡ first_no (reach_questions S p.states (spans y)) = reach_front S c.states.result y (omega (arith, p.size.1, c.states.ensures)) ∙ ap (λ n. first_no (reach_questions S n (spans y))) c.states.ensures in
    let none : first_no (reach_questions S p.states (spans y)) ≡ None = sym asked ∙ c.in_ok-limited.ensures in
    subst (λ u. Reaches p.states (100 * u) y) c.requires (reached S p.states y none)

pub invariant_of-result : goal.invariant_of-result
invariant_of-result g c =
    let p = c.args.prepared.now in
    let y = c.args.y in
    let S : ℕ = g.T.Scale.unit in
    let long : length y ≡ 12 = search rules in
    let asked : first_no (reach_questions S (length (take c.states.result y)) (spans (take c.states.result y))) ≡ first_no (reach_questions S p.states (spans y)) = reach_front S c.states.result y (omega (arith, p.size.1, c.states.ensures)) ∙ ap (λ n. first_no (reach_questions S n (spans y))) c.states.ensures in
    let none : first_no (reach_questions S p.states (spans y)) ≡ None = sym asked ∙ c.in_ok-limited.ensures in
    record { near = subst (λ u. Reaches p.states (100 * u) y) c.requires (reached S p.states y none); stepped = c.step-v.ensures }

pub returns-clause-answer : goal.returns-clause-answer
returns-clause-answer g c =
    let p = c.args.prepared.now in
    let y = c.args.y in
    let S : ℕ = g.T.Scale.unit in
    let long : length y ≡ 12 = search rules in
    let asked : first_no (reach_questions S (length (take c.states.result y)) (spans (take c.states.result y))) ≡ first_no (reach_questions S p.states (spans y)) = reach_front S c.states.result y (omega (arith, p.size.1, c.states.ensures)) ∙ ap (λ n. first_no (reach_questions S n (spans y))) c.states.ensures in
    let none : first_no (reach_questions S p.states (spans y)) ≡ None = sym asked ∙ c.in_ok-limited.ensures in
    none
