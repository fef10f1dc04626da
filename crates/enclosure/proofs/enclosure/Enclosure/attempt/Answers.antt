use Rattle.std.proofs.Common.{◌≡◌, ℕ, List, ◌∷◌, Some, None, sym, ap, ◌∙◌, subst}
use Rattle.std.proofs.lemmas.Result.{err_from_is_err_and}
use Rattle.span.specs.declared.span.Span.{Span}
use Rattle.span.specs.Questions.{first_no}
use Rattle.system.specs.Figures.{spans}
use Rattle.prepare.specs.declared.prepared.Prepared.{Prepared}
use Rattle.prepare.specs.Proposals.{PreparedFor}
use Rattle.enclosure.specs.Boxed.{Holds, box, count_question, order_questions, reach_questions}
use Rattle.enclosure.proofs.Tells.{no_box, no_size, no_acceptance, all_yes, trial_accepted_as}
use Rattle.enclosure.proofs.enclosure.Enclosure.attempt.Goals as goal

pub returns-in_err-y-clause-tried : goal.returns-in_err-y-clause-tried
returns-in_err-y-clause-tried g c G H q =
    let p = c.args.prepared.now in
    let ys = c.args.numbers.now in
    let e = err_from_is_err_and c.from_residual-in_err-y.result c.from_residual-in_err-y.ensures.1 in
    let h : first_no (count_question p.states ys ∷ order_questions p.states ys) ≡ Some c.in_err-y.field-0.0 = subst (λ n. first_no (count_question n ys ∷ order_questions n ys) ≡ Some c.in_err-y.field-0.0) c.states.ensures c.in_err-y.ensures in
    rw (e.1, e.2) (no_box g.T.Scale.unit G H p q ys c.in_err-y.field-0.0 h)

pub returns-in_err-trial-clause-tried : goal.returns-in_err-trial-clause-tried
returns-in_err-trial-clause-tried g c G H q =
    let p = c.args.prepared.now in
    let ys = c.args.numbers.now in
    let S : ℕ = g.T.Scale.unit in
    let y = c.in_ok-y.y in
    let boxed : (first_no (count_question p.states ys ∷ order_questions p.states ys) ≡ None) × Holds p.states y (box ys) = subst (λ n. (first_no (count_question n ys ∷ order_questions n ys) ≡ None) × Holds n y (box ys)) c.states.ensures c.in_ok-y.ensures in
    let e = err_from_is_err_and c.from_residual-in_err-trial.result c.from_residual-in_err-trial.ensures.1 in
    rw (e.1, e.2) (no_size S G H p q ys y y boxed.1 boxed.0 c.in_err-trial.field-0.0 c.in_err-trial.ensures.answer)

pub returns-then-not-is_accepted-clause-tried : goal.returns-then-not-is_accepted-clause-tried
returns-then-not-is_accepted-clause-tried g c G H q =
    let p = c.args.prepared.now in
    let ys = c.args.numbers.now in
    let S : ℕ = g.T.Scale.unit in
    let y = c.in_ok-y.y in
    let boxed : (first_no (count_question p.states ys ∷ order_questions p.states ys) ≡ None) × Holds p.states y (box ys) = subst (λ n. (first_no (count_question n ys ∷ order_questions n ys) ≡ None) × Holds n y (box ys)) c.states.ensures c.in_ok-y.ensures in
    let t = c.in_ok-trial.trial in
    let kept = c.in_ok-trial.ensures.kept in
    let moved = λ (P : Prepared → List Span → Type 0) (h : P p y). subst (λ (x : Prepared). P x t.y) (sym kept.0) (subst (λ (z : List Span). P p z) (sym kept.1) h) in
    let r = t.prepared.now in
    let held : Holds r.states t.y (box ys) = moved (λ x z. Holds x.states z (box ys)) boxed.1 in
    let opened : first_no (count_question r.states ys ∷ order_questions r.states ys) ≡ None = moved (λ x z. first_no (count_question x.states ys ∷ order_questions x.states ys) ≡ None) boxed.0 in
    let near : first_no (reach_questions S r.states (spans t.y)) ≡ None = moved (λ x z. first_no (reach_questions S x.states (spans z)) ≡ None) c.in_ok-trial.ensures.answer in
    let of : PreparedFor S G H r = subst (λ (x : Prepared). PreparedFor S G H x) (sym kept.0) q in
    no_acceptance S G H r of ys t.y t.v held opened t.stepped near (sym c.if-not-is_accepted.ensures) ∙ ap Some (sym c.worst.ensures)

pub returns-clause-tried : goal.returns-clause-tried
returns-clause-tried g c G H q =
    let p = c.args.prepared.now in
    let ys = c.args.numbers.now in
    let S : ℕ = g.T.Scale.unit in
    let y = c.in_ok-y.y in
    let boxed : (first_no (count_question p.states ys ∷ order_questions p.states ys) ≡ None) × Holds p.states y (box ys) = subst (λ n. (first_no (count_question n ys ∷ order_questions n ys) ≡ None) × Holds n y (box ys)) c.states.ensures c.in_ok-y.ensures in
    let t = c.in_ok-trial.trial in
    let kept = c.in_ok-trial.ensures.kept in
    let moved = λ (P : Prepared → List Span → Type 0) (h : P p y). subst (λ (x : Prepared). P x t.y) (sym kept.0) (subst (λ (z : List Span). P p z) (sym kept.1) h) in
    let r = t.prepared.now in
    let held : Holds r.states t.y (box ys) = moved (λ x z. Holds x.states z (box ys)) boxed.1 in
    let opened : first_no (count_question r.states ys ∷ order_questions r.states ys) ≡ None = moved (λ x z. first_no (count_question x.states ys ∷ order_questions x.states ys) ≡ None) boxed.0 in
    let near : first_no (reach_questions S r.states (spans t.y)) ≡ None = moved (λ x z. first_no (reach_questions S x.states (spans z)) ≡ None) c.in_ok-trial.ensures.answer in
    let of : PreparedFor S G H r = subst (λ (x : Prepared). PreparedFor S G H x) (sym kept.0) q in
    let a = sym c.if-not-is_accepted.ensures in
    (all_yes S G H r of ys t.y t.v held opened t.stepped near a, trial_accepted_as S G H (box ys) t _ c.of.ensures.prepared c.of.ensures.trial c.of.ensures.correction c.of.ensures.narrowings of held a)
