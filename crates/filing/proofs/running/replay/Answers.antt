use Rattle.std.proofs.Common.{◌+◌, [], length, take, vec_items, ap, ◌∙◌, subst}
use Rattle.std.proofs.lemmas.List.{length_push, take_all}
use Rattle.filing.specs.Law.{Lawful, turns}
use Rattle.filing.proofs.Turning.{at_first, one_more, so_far_as, turns_taken}
use Rattle.filing.proofs.running.replay.Goals as goal

pub loop-step-init : goal.loop-step-init
loop-step-init g c =
    let none = c.new-outcomes.ensures.items in
    (ap length none, λ M q. so_far_as _ M _ [] _ _ _ (ap (λ rs. turns g.T.Scale.unit g.F.Scale.unit (take 0 c.args.steps.now) rs []) none) (at_first _ M _ _ _ q))

pub loop-step-preserved : goal.loop-step-preserved
loop-step-preserved g c =
    let rs = vec_items c.loop-step.outcomes in
    let grown = c.in_ok-push.ensures.items in
    let long = c.loop-step.invariant.0 in (
      ap length grown ∙ length_push rs _ ∙ ap (λ n. n + 1) long,
      λ M q.
          let s = c.loop-step.invariant.1 M q in
          let t = c.in_ok-taken.ensures M _ s.reflects in
          so_far_as _ M _ _ _ _ _ (turns_taken g.T.Scale.unit g.F.Scale.unit c.args.steps.now rs _ c.loop-step.step-index _ _ c.loop-step-test.true long grown) (one_more _ M _ _ _ _ _ s.lawful t),
    )

pub returns : goal.returns
returns g c =
    let s = c.loop-step.invariant.1 (g.C.Source.meaning c.args.source) c.new-docket.ensures in
    subst (λ xs. Lawful g.T.Scale.unit (g.C.Source.meaning c.args.source) (turns g.T.Scale.unit g.F.Scale.unit xs (vec_items c.loop-step.outcomes) [])) (take_all c.loop-step.step-index c.args.steps.now c.loop-step-test.false) s.lawful
