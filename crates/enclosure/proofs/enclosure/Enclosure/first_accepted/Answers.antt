use Rattle.std.proofs.Common.{◌≡◌, ℕ, pred, ◌<◌, ◌≤◌, List, None, Err, sym, ap, ◌∙◌, subst, arith, rules}
use Rattle.span.specs.declared.span.Span.{Span}
use Rattle.span.specs.Questions.{first_no}
use Rattle.method.specs.Method.{Game, Proposal}
use Rattle.method.specs.Trials.{boxes}
use Rattle.system.specs.Figures.{spans}
use Rattle.prepare.specs.declared.prepared.Prepared.{Prepared}
use Rattle.prepare.specs.Proposals.{PreparedFor}
use Rattle.enclosure.specs.Boxed.{reach_questions}
use Rattle.enclosure.specs.Enclosures.{Going}
use Rattle.enclosure.proofs.Runs.{going_first, going_next, trial_held, sizes_none, accepts_here, found_refused, found_accepted, found_worst}
use Rattle.enclosure.proofs.Tells.{trial_accepted_as}
use Rattle.enclosure.proofs.enclosure.Enclosure.first_accepted.Goals as goal

pub trials-init : goal.trials-init
trials-init g c =
    (omega arith, c.requires.some, c.first_box-y.ensures.long, λ G H q. going_first g.T.Scale.unit G H c.args.prepared.now c.args.trials c.first_box-y.result q c.requires.some c.first_box-y.ensures)

pub trials-preserved : goal.trials-preserved
trials-preserved g c =
    let S : ℕ = g.T.Scale.unit in
    let p = c.args.prepared.now in
    let t = c.in-Ok.trial in
    let kept = c.in-Ok.ensures.kept in
    let r = t.prepared.now in
    let near : first_no (reach_questions S r.states (spans t.y)) ≡ None = subst (λ (x : Prepared). first_no (reach_questions S x.states (spans t.y)) ≡ None) (sym kept.0) (subst (λ (z : List Span). first_no (reach_questions S p.states (spans z)) ≡ None) (sym kept.1) c.in-Ok.ensures.answer) in
    let of = λ (G : Game) (H : Proposal) (q : PreparedFor S G H p). subst (λ (x : Prepared). PreparedFor S G H x) (sym kept.0) q in
    let going = λ (G : Game) (H : Proposal) (q : PreparedFor S G H p). subst (λ (z : List Span). Going S G H c.args.trials c.trials.number z) (sym kept.1) (c.trials.invariant.3 G H q) in
    let some : 1 ≤ c.trials.number = c.trials.invariant.0 in
    let few : c.trials.number ≤ c.args.trials = c.trials.invariant.1 in
    let more : c.trials.number < c.args.trials = search rules in
    (omega arith, omega arith, c.grown-y.ensures.long, λ G H q. going_next S G H r c.args.trials c.trials.number t.y t.v c.grown-y.result (of G H q) (going G H q) some more t.stepped c.grown-y.ensures (sizes_none S G H r (of G H q) c.args.trials c.trials.number t.y t.v (going G H q) near t.stepped) (sym (accepts_here S G H r (of G H q) c.args.trials c.trials.number t.y t.v (going G H q) near t.stepped) ∙ sym c.if-is_accepted.ensures))

pub returns-in-Err-clause-found : goal.returns-in-Err-clause-found
returns-in-Err-clause-found g c G H q =
    let y = c.trials.y in
    found_refused g.T.Scale.unit G H c.args.prepared.now q c.args.trials c.trials.number y y (c.trials.invariant.3 G H q) c.in-Err.fault c.in-Err.ensures.answer

pub returns-then-is_accepted-clause-found : goal.returns-then-is_accepted-clause-found
returns-then-is_accepted-clause-found g c G H q =
    let S : ℕ = g.T.Scale.unit in
    let p = c.args.prepared.now in
    let t = c.in-Ok.trial in
    let kept = c.in-Ok.ensures.kept in
    let r = t.prepared.now in
    let near : first_no (reach_questions S r.states (spans t.y)) ≡ None = subst (λ (x : Prepared). first_no (reach_questions S x.states (spans t.y)) ≡ None) (sym kept.0) (subst (λ (z : List Span). first_no (reach_questions S p.states (spans z)) ≡ None) (sym kept.1) c.in-Ok.ensures.answer) in
    let of = λ (G : Game) (H : Proposal) (q : PreparedFor S G H p). subst (λ (x : Prepared). PreparedFor S G H x) (sym kept.0) q in
    let going = λ (G : Game) (H : Proposal) (q : PreparedFor S G H p). subst (λ (z : List Span). Going S G H c.args.trials c.trials.number z) (sym kept.1) (c.trials.invariant.3 G H q) in
    let a = sym c.if-is_accepted.ensures in (
      found_accepted S G H r (of G H q) c.args.trials c.trials.number t.y t.v (going G H q) near t.stepped c.trials.invariant.0 a,
      trial_accepted_as S G H (boxes S G H (pred c.trials.number)) t _ c.of.ensures.prepared c.of.ensures.trial c.of.ensures.correction c.of.ensures.narrowings (of G H q) (trial_held S G H r (of G H q) c.args.trials c.trials.number t.y t.v (going G H q)) a,
    )

pub returns-then-number-trials-clause-found : goal.returns-then-number-trials-clause-found
returns-then-number-trials-clause-found g c G H q =
    let S : ℕ = g.T.Scale.unit in
    let p = c.args.prepared.now in
    let t = c.in-Ok.trial in
    let kept = c.in-Ok.ensures.kept in
    let r = t.prepared.now in
    let near : first_no (reach_questions S r.states (spans t.y)) ≡ None = subst (λ (x : Prepared). first_no (reach_questions S x.states (spans t.y)) ≡ None) (sym kept.0) (subst (λ (z : List Span). first_no (reach_questions S p.states (spans z)) ≡ None) (sym kept.1) c.in-Ok.ensures.answer) in
    let of = λ (G : Game) (H : Proposal) (q : PreparedFor S G H p). subst (λ (x : Prepared). PreparedFor S G H x) (sym kept.0) q in
    let going = λ (G : Game) (H : Proposal) (q : PreparedFor S G H p). subst (λ (z : List Span). Going S G H c.args.trials c.trials.number z) (sym kept.1) (c.trials.invariant.3 G H q) in
    let e : c.trials.number ≡ c.args.trials = c.if-number-trials.true in
    found_worst S G H r (of G H q) c.args.trials c.trials.number t.y t.v (going G H q) near t.stepped e (sym c.if-is_accepted.ensures) ∙ ap Err (sym c.worst.ensures)
