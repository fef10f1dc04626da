use Rattle.std.proofs.Common.{◌≡◌, ◌+◌, ◌*◌, ◌/◌, ◌%◌, ◌<◌, true, false, Some, sym, ap, ◌∙◌, arith, w32, SFits, rules, below_more}
use Rattle.std.proofs.lemmas.Int.{to_z-of_z}
use Rattle.law.specs.Law.{told_ends}
use Rattle.prepare.proofs.Firsts.{all_yes, first_at}
use Rattle.sheet.specs.declared.fault.Fault.TheVariants.{OtherClaim}
use Rattle.sheet.specs.Framing.{sheet_in}
use Rattle.sheet.specs.Layout.{at_claims}
use Rattle.sheet.specs.Rechecks.{is_claimed}
use Rattle.sheet.proofs.framed.Framed.claimed.Goals as goal

pub loop-u-preserved : goal.loop-u-preserved
loop-u-preserved g c M h q =
    let w = sheet_in c.args.self.now in
    let f : SFits w32 c.number.result = search rules in
    let l = c.layout-layout.ensures in
    let at : c.claims.result ≡ at_claims w.states w.settings = c.claims.ensures.is ∙ ap (λ z. at_claims z c.layout-layout.result.settings) l.0 ∙ ap (at_claims w.states) l.1 in
    let e : true ≡ is_claimed (told_ends c.row.result) (c.loop-u.u % 2) c.number.result = simp to_z-of_z at c.if-not-is_claimed.ensures in
    below_more _ _ (c.loop-u.invariant M h q) (sym (e ∙ ap (λ z. is_claimed z (c.loop-u.u % 2) c.number.result) (c.row.ensures M h q) ∙ ap (is_claimed _ (c.loop-u.u % 2)) (c.number.ensures ∙ ap (λ z. w.number (z + c.loop-u.u)) at)))

pub returns-then-not-is_claimed : goal.returns-then-not-is_claimed
returns-then-not-is_claimed g c M h q =
    let w = sheet_in c.args.self.now in
    let f : SFits w32 c.number.result = search rules in
    let l = c.layout-layout.ensures in
    let at : c.claims.result ≡ at_claims w.states w.settings = c.claims.ensures.is ∙ ap (λ z. at_claims z c.layout-layout.result.settings) l.0 ∙ ap (at_claims w.states) l.1 in
    let e : false ≡ is_claimed (told_ends c.row.result) (c.loop-u.u % 2) c.number.result = simp to_z-of_z at c.if-not-is_claimed.ensures in
    let below : c.loop-u.u < 2 * w.states = omega (arith, c.loop-u-test.true, l.0) in
    first_at (2 * w.states) c.loop-u.u _ below (c.loop-u.invariant M h q) (sym (e ∙ ap (λ z. is_claimed z (c.loop-u.u % 2) c.number.result) (c.row.ensures M h q) ∙ ap (is_claimed _ (c.loop-u.u % 2)) (c.number.ensures ∙ ap (λ z. w.number (z + c.loop-u.u)) at)))
    ∙ ap (λ z. Some (OtherClaim (c.loop-u.u / 2) (4 * (z + c.loop-u.u)))) (sym at)

pub returns : goal.returns
returns g c M h q =
    let w = sheet_in c.args.self.now in
    all_yes (2 * w.states) _ (λ u l. c.loop-u.invariant M h q u (omega (arith, l, c.loop-u-test.false, c.layout-layout.ensures.0)))
