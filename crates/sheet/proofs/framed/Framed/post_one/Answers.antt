use Rattle.std.proofs.Common.{◌≡◌, pos, sym, ap, ◌∙◌, w32, SFits, to_z, of_z, rules}
use Rattle.std.proofs.lemmas.Int.{to_z-of_z}
use Rattle.law.specs.Calls.{given}
use Rattle.law.specs.Calls.Given.{post}
use Rattle.sheet.specs.Framing.{sheet_in}
use Rattle.sheet.specs.Layout.{place_of}
use Rattle.sheet.proofs.Making.{made_as, posted_none, posted_one}
use Rattle.sheet.proofs.framed.Framed.post_one.Goals as goal

pub returns-then-amount-eq0 : goal.returns-then-amount-eq0
returns-then-amount-eq0 g c M h q =
    let f : SFits w32 c.number-amount.result = search rules in
    let w = sheet_in c.args.self.now in
    let z : c.number-amount.result ≡ pos 0 = sym (to_z-of_z w32 c.number-amount.result f) ∙ ap (to_z w32) c.if-amount-eq0.true in
    posted_none _ M h w c.args.t _ _ _ (sym c.number-amount.ensures ∙ z) q

pub returns : goal.returns
returns g c M h q =
    let f : SFits w32 c.number-amount.result = search rules in
    let w = sheet_in c.args.self.now in
    let p : c.place_of.result ≡ place_of w.states c.args.t = c.place_of.ensures ∙ ap (λ n. place_of n c.args.t) c.from.ensures in
    let call : given c.posting-call.result ≡ post c.place_of.result c.number-amount.result = simp to_z-of_z at c.posting-call.ensures in
    let asked : given c.posting-call.result ≡ post (place_of w.states c.args.t) (w.number c.args.t) = call ∙ ap (λ x. post x c.number-amount.result) p ∙ ap (post (place_of w.states c.args.t)) c.number-amount.ensures in
    posted_one _ M h w c.args.t _ _ _ _ (λ z. c.if-amount-eq0.false (ap (of_z w32) (c.number-amount.ensures ∙ z))) (made_as _ M h _ _ _ _ _ _ _ _ asked c.made.ensures (c.call.ensures.replied M h q))
