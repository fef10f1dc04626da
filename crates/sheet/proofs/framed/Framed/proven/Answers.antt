use Rattle.std.proofs.Common.{◌≡◌, ◌-◌, true, false, eqb, Err, sym, refl, ap, ◌∙◌}
use Rattle.std.proofs.lemmas.Result.{err_from_is_err_and}
use Rattle.std.proofs.lemmas.Bool.{eq-eqb, ne_eqb}
use Rattle.enclosure.proofs.Scales.{other_scale, same_scale}
use Rattle.sheet.specs.declared.fault.Fault.TheVariants.{OtherScale}
use Rattle.sheet.specs.Framing.{sheet_in}
use Rattle.sheet.specs.Layout.{sheet_length}
use Rattle.sheet.proofs.Proving.{all_yes, calls_no, claims_no, scale_no}
use Rattle.sheet.proofs.framed.Framed.proven.Goals as goal

pub returns-then-from-units : goal.returns-then-from-units
returns-then-from-units g c M h q =
    let w = sheet_in c.args.self.now in
    let l = c.layout.ensures in
    let n : c.length.result ≡ sheet_length w.states w.settings = c.length.ensures.is ∙ ap (λ z. sheet_length z c.layout.result.settings) l.0 ∙ ap (sheet_length w.states) l.1 in
    let no : eqb w.scale g.T.Scale.unit ≡ false = ne_eqb _ _ (λ e. other_scale c.units.result c.from.result g.T.Scale.unit w.scale w.scale c.units.ensures c.from.ensures refl (λ i. c.if-from-units.true (sym i)) (sym e)) in
    (h, scale_no _ M h w no ∙ ap (λ z. Err (OtherScale (z - 8))) (sym n), q)

pub returns-in_err-remake : goal.returns-in_err-remake
returns-in_err-remake g c M h q =
    let w = sheet_in c.args.self.now in
    let p = err_from_is_err_and c.from_residual.result c.from_residual.ensures.1 in
    let yes : eqb w.scale g.T.Scale.unit ≡ true = eq-eqb _ _ (sym (same_scale c.units.result c.from.result g.T.Scale.unit w.scale w.scale c.units.ensures c.from.ensures refl (sym c.if-from-units.false))) in
    let r = c.in_err-remake.ensures M h q in
    rw (p.1, p.2) (r.0, calls_no _ M h w yes _ r.1, r.2)

pub returns-in_err-claimed : goal.returns-in_err-claimed
returns-in_err-claimed g c M h q =
    let w = sheet_in c.args.self.now in
    let p = err_from_is_err_and c.from_residual-in_err-claimed.result c.from_residual-in_err-claimed.ensures.1 in
    let yes : eqb w.scale g.T.Scale.unit ≡ true = eq-eqb _ _ (sym (same_scale c.units.result c.from.result g.T.Scale.unit w.scale w.scale c.units.ensures c.from.ensures refl (sym c.if-from-units.false))) in
    let r = c.in_ok-remake.ensures M h q in
    rw (p.1, p.2) (r.0, claims_no _ M h w yes r.0 _ r.1 (c.in_err-claimed.ensures M r.0 r.2), r.2)

pub returns : goal.returns
returns g c M h q =
    let w = sheet_in c.args.self.now in
    let yes : eqb w.scale g.T.Scale.unit ≡ true = eq-eqb _ _ (sym (same_scale c.units.result c.from.result g.T.Scale.unit w.scale w.scale c.units.ensures c.from.ensures refl (sym c.if-from-units.false))) in
    let r = c.in_ok-remake.ensures M h q in
    (r.0, all_yes _ M h w yes r.0 r.1 (c.in_ok-claimed.ensures M r.0 r.2), r.2, c.kept.ensures M r.0 r.2)
