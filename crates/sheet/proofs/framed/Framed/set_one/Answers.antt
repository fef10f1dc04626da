use Rattle.std.proofs.Common.{◌≡◌, suc, ◌+◌, ◌*◌, ap, ◌∙◌, add-one, w32, SFits, rules}
use Rattle.std.proofs.lemmas.Int.{to_z-of_z}
use Rattle.law.specs.Calls.{given}
use Rattle.law.specs.Calls.Given.{range}
use Rattle.sheet.specs.Framing.{sheet_in}
use Rattle.sheet.specs.Layout.{at_ranges}
use Rattle.sheet.specs.Remakes.{as_made}
use Rattle.sheet.proofs.Making.{made_as}
use Rattle.sheet.proofs.framed.Framed.set_one.Goals as goal

pub returns : goal.returns
returns g c M h q =
    let f : SFits w32 c.number.result = search rules in
    let k : SFits w32 c.number-2.result = search rules in
    let l = c.layout.ensures in
    let w = sheet_in c.args.self.now in
    let v = c.args.v in
    let a : c.ranges-2.result ≡ at_ranges w.states w.settings = c.ranges-2.ensures.is ∙ ap (λ z. at_ranges z c.layout.result.settings) l.0 ∙ ap (λ z. at_ranges w.states z) l.1 in
    let low : c.number.result ≡ w.number (at_ranges w.states w.settings + 2 * v) = c.number.ensures ∙ ap (λ z. w.number (z + 2 * v)) a in
    let high : c.number-2.result ≡ w.number (at_ranges w.states w.settings + 2 * v + 1) = c.number-2.ensures ∙ ap (λ z. w.number (z + 2 * v + 1)) a in
    let call : given c.setting-call.result ≡ range (v + 1) c.number.result c.number-2.result = simp to_z-of_z at c.setting-call.ensures in
    let asked : given c.setting-call.result ≡ range (suc v) (w.number (at_ranges w.states w.settings + 2 * v)) (w.number (at_ranges w.states w.settings + 2 * v + 1)) = call ∙ ap (λ z. range z c.number.result c.number-2.result) (add-one v) ∙ ap (λ z. range (suc v) z c.number-2.result) low ∙ ap (range (suc v) (w.number (at_ranges w.states w.settings + 2 * v))) high in
    made_as _ M h _ _ _ _ _ _ _ _ asked (c.made.ensures ∙ ap (λ z. as_made c.call.result (4 * (z + 2 * v))) a) (c.call.ensures.replied M h q)
