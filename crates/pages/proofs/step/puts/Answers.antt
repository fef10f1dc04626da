use Rattle.std.proofs.Common.{◌≡◌, [], ◌∷◌, ◌++◌, map, vec_items, sym, ap, ◌∙◌, append-nil, arith}
use mathlib.Core.List.{map-append}
use Rattle.pages.specs.Puts.{first_puts, posed_count, posed_puts, put}
use Rattle.pages.specs.Steps.{puts_of}
use Rattle.pages.proofs.Stepped.{all_put, no_puts, one_put, step_put}
use Rattle.pages.proofs.step.puts.Goals as goal
use Rattle.pages.proofs.step.puts.Goals.{in-Put+else-loop-number-test, in_default}

pub loop-number-init : goal.loop-number-init
loop-number-init c = sym (append-nil (map put (vec_items c.loop-step.puts)))

pub loop-number-preserved : goal.loop-number-preserved
loop-number-preserved c =
    let grown = ap (map put) c.in_ok-push.ensures.items ∙ map-append put (vec_items c.loop-number.puts) (c.step.result ∷ []) in
    one_put c.in-Put.posed c.loop-number.number _ (put c.step.result) c.loop-number.invariant grown c.step.ensures

pub loop-step-preserved : goal.loop-step-preserved
loop-step-preserved c =
    step_put c.args.steps.now c.loop-step.step-index _ c.loop-step.invariant c.step-item.result c.loop-step-test.true c.step-item.is
    (elim c.match-step.branch [
      | in-Put+else-loop-number-test w ↦
          let all : w.loop-number.number ≡ posed_count w.in-Put.posed = omega (arith, w.count-number-end.ensures) in
          ap (λ v. map put (vec_items v)) w.puts-is ∙ w.loop-number.invariant ∙ ap (λ n. map put (vec_items c.loop-step.puts) ++ first_puts n (posed_puts w.in-Put.posed)) all ∙ ap (λ s. map put (vec_items c.loop-step.puts) ++ puts_of s) (sym w.in-Put.is)
      | in_default w ↦
          ap (λ v. map put (vec_items v)) w.puts-is ∙ sym (append-nil (map put (vec_items c.loop-step.puts))) ∙ ap (λ l. map put (vec_items c.loop-step.puts) ++ l) (sym (no_puts c.step-item.result w.in_default.not-Put))
    ])

pub returns : goal.returns
returns c = all_put c.args.steps.now c.loop-step.step-index _ c.loop-step.invariant c.loop-step-test.false
