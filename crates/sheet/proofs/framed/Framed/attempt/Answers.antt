use Rattle.std.proofs.Common.{◌≡◌, ℕ, ◌+◌, ◌-◌, ◌*◌, ◌≤◌, length, take, ap, ◌∙◌, arith}
use Rattle.law.specs.Calls.Given.{attempt}
use Rattle.sheet.specs.Framing.{sheet_in}
use Rattle.sheet.specs.Layout.{at_box}
use Rattle.sheet.specs.Rechecks.{listed}
use Rattle.sheet.specs.Remakes.{as_made}
use Rattle.sheet.proofs.Listing.{is_taken}
use Rattle.sheet.proofs.Making.{made_given}
use Rattle.sheet.proofs.framed.Framed.attempt.Goals as goal

pub returns : goal.returns
returns g c M h q =
    let w = sheet_in c.args.self.now in
    let n : ℕ = c.layout-layout.result.states in
    let l = c.layout-layout.ensures in
    let few : n ≤ 12 = omega (arith, l.0, c.args.self.now.size) in
    let at : c.trial.result ≡ at_box w.states w.settings = c.trial.ensures.is ∙ ap (λ z. at_box z c.layout-layout.result.settings) l.0 ∙ ap (at_box w.states) l.1 in
    let at2 : c.trial-2.result ≡ at_box w.states w.settings = c.trial-2.ensures.is ∙ ap (λ z. at_box z c.layout-layout.result.settings) l.0 ∙ ap (at_box w.states) l.1 in
    let zero : 2 * n - 0 ≡ 2 * w.states = omega (arith, l.0) in
    let long : 2 * w.states ≤ length c.numbers-numbers.result = omega (arith, l.0, few, c.numbers-numbers.ensures.long) in
    let numbers : take (2 * n - 0) c.numbers-numbers.result ≡ listed (2 * w.states) (λ t. w.number (at_box w.states w.settings + t)) =
    ap (λ z. take z c.numbers-numbers.result) zero ∙ is_taken c.numbers-numbers.result _ (2 * w.states) long (λ t k. c.numbers-numbers.ensures.each t (omega (arith, k, l.0, few)) ∙ ap (λ z. w.number (z + t)) at) in
    made_given _ M h _ _ _ _ _ _ _ _ (ap attempt numbers) (c.made.ensures ∙ ap (λ z. as_made c.call.result (4 * z)) at2) (c.call.ensures.replied M h q)
