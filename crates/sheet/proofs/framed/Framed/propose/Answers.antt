use Rattle.std.proofs.Common.{◌≡◌, ℕ, ◌+◌, ◌-◌, ◌*◌, ◌≤◌, length, take, ap, ◌∙◌, mul-le-mul, arith, rules}
use Rattle.law.specs.Calls.Given.{propose}
use Rattle.sheet.specs.Framing.{sheet_in}
use Rattle.sheet.specs.Layout.{at_guesses, at_table}
use Rattle.sheet.specs.Rechecks.{listed}
use Rattle.sheet.specs.Remakes.{as_made}
use Rattle.sheet.proofs.Listing.{is_taken}
use Rattle.sheet.proofs.Making.{made_given}
use Rattle.sheet.proofs.framed.Framed.propose.Goals as goal

pub slice_bounds-call-end : goal.slice_bounds-call-end
slice_bounds-call-end g c =
    let n : ℕ = c.layout-layout.result.states in
    let few : n ≤ 12 = omega (arith, c.layout-layout.ensures.0, c.args.self.now.size) in
    let square : n * n ≤ 144 = mul-le-mul few few in
    search rules

pub returns : goal.returns
returns g c M h q =
    let w = sheet_in c.args.self.now in
    let n : ℕ = c.layout-layout.result.states in
    let l = c.layout-layout.ensures in
    let few : w.states ≤ 12 = omega (arith, c.args.self.now.size) in
    let square : w.states * w.states ≤ 144 = mul-le-mul few few in
    let at : c.table.result ≡ at_table w.states w.settings = c.table.ensures.is ∙ ap (λ z. at_table z c.layout-layout.result.settings) l.0 ∙ ap (at_table w.states) l.1 in
    let at2 : c.table-2.result ≡ at_table w.states w.settings = c.table-2.ensures.is ∙ ap (λ z. at_table z c.layout-layout.result.settings) l.0 ∙ ap (at_table w.states) l.1 in
    let at3 : c.guesses.result ≡ at_guesses w.states w.settings = c.guesses.ensures.is ∙ ap (λ z. at_guesses z c.layout-layout.result.settings) l.0 ∙ ap (at_guesses w.states) l.1 in
    let squares : n * n ≡ w.states * w.states = ap (λ z. z * z) l.0 in
    let zero : n * n - 0 ≡ w.states * w.states = omega (arith, squares) in
    let zero3 : n - 0 ≡ w.states = omega (arith, l.0) in
    let long : w.states * w.states ≤ length c.numbers-table.result = omega (arith, square, c.numbers-table.ensures.long) in
    let long3 : w.states ≤ length c.numbers-guesses.result = omega (arith, few, c.numbers-guesses.ensures.long) in
    let table : take (n * n - 0) c.numbers-table.result ≡ listed (w.states * w.states) (λ t. w.number (at_table w.states w.settings + t)) =
    ap (λ z. take z c.numbers-table.result) zero ∙ is_taken c.numbers-table.result _ (w.states * w.states) long (λ t k. c.numbers-table.ensures.each t (omega (arith, k, square)) ∙ ap (λ z. w.number (z + t)) at) in
    let guesses : take (n - 0) c.numbers-guesses.result ≡ listed w.states (λ t. w.number (at_guesses w.states w.settings + t)) =
    ap (λ z. take z c.numbers-guesses.result) zero3 ∙ is_taken c.numbers-guesses.result _ w.states long3 (λ t k. c.numbers-guesses.ensures.each t (omega (arith, k, few)) ∙ ap (λ z. w.number (z + t)) at3) in
    made_given _ M h _ _ _ _ _ _ _ _ (ap (λ z. propose z (take (n - 0) c.numbers-guesses.result)) table ∙ ap (propose (listed (w.states * w.states) (λ t. w.number (at_table w.states w.settings + t)))) guesses) (c.made.ensures ∙ ap (λ z. as_made c.call.result (4 * z)) at2) (c.call.ensures.replied M h q)
