use Rattle.std.proofs.Common.{◌≡◌, ◌∷◌, sym, refl, ap, ◌∙◌, arith}
use Rattle.std.proofs.lemmas.Result.{err_from_is_err_and}
use Rattle.span.specs.Questions.{first_no}
use Rattle.enclosure.proofs.Scales as scales
use Rattle.sheet.specs.Framing.{distances_asked, length_asked, n_at}
use Rattle.sheet.proofs.Shaped.{head_sized}
use Rattle.sheet.proofs.Asking.{head_no, other_scale, rest_decides, too_short}
use Rattle.sheet.proofs.framed.Framed.new.Goals as goal

pub returns-then-length-lt28 : goal.returns-then-length-lt28
returns-then-length-lt28 g c = too_short _ _ c.if-length-lt28.true

pub returns-then-from-units : goal.returns-then-from-units
returns-then-from-units g c =
    other_scale _ _ c.if-length-lt28.false
    (λ e. scales.other_scale c.units.result c.from.result g.T.Scale.unit c.unsigned_at-units.result c.unsigned_at-units.result c.units.ensures c.from.ensures refl (λ i. c.if-from-units.true (sym i)) (sym (c.unsigned_at-units.ensures ∙ e)))

pub returns-in_err-states : goal.returns-in_err-states
returns-in_err-states g c =
    let p = err_from_is_err_and c.from_residual.result c.from_residual.ensures.1 in
    let u : g.T.Scale.unit ≡ c.unsigned_at-units.result = scales.same_scale c.units.result c.from.result g.T.Scale.unit c.unsigned_at-units.result _ c.units.ensures c.from.ensures refl (sym c.if-from-units.false) in
    rw (p.1, p.2) (head_no _ _ c.if-length-lt28.false (sym (u ∙ c.unsigned_at-units.ensures)) _ c.in_err-states.ensures)

pub returns-in_err-measured : goal.returns-in_err-measured
returns-in_err-measured g c =
    let bs = c.args.bytes.now in
    let p = err_from_is_err_and c.from_residual-in_err-measured.result c.from_residual-in_err-measured.ensures.1 in
    let u : g.T.Scale.unit ≡ c.unsigned_at-units.result = scales.same_scale c.units.result c.from.result g.T.Scale.unit c.unsigned_at-units.result _ c.units.ensures c.from.ensures refl (sym c.if-from-units.false) in
    let y = c.in_ok-states.ensures in
    let n = c.new.ensures.0 ∙ y.1 in
    let k = c.new.ensures.1 ∙ y.2 in
    let x = ap (λ z. first_no (length_asked bs z c.new.result.settings ∷ distances_asked bs z c.new.result.settings)) (sym n) in
    rw (p.1, p.2) (rest_decides _ _ c.if-length-lt28.false (sym (u ∙ c.unsigned_at-units.ensures)) y.0 ∙ ap (λ z. first_no (length_asked bs (n_at 0 bs) z ∷ distances_asked bs (n_at 0 bs) z)) (sym k) ∙ x ∙ c.in_err-measured.ensures)

pub invariant_of-result : goal.invariant_of-result
invariant_of-result g c =
    let y = c.in_ok-states.ensures in
    let size = head_sized 0 c.args.bytes.now y.0 in
    record { size = (omega (arith, size.0, y.1), omega (arith, size.1, y.1), omega (arith, size.2, y.2)) }

pub returns : goal.returns
returns g c =
    let bs = c.args.bytes.now in
    let u : g.T.Scale.unit ≡ c.unsigned_at-units.result = scales.same_scale c.units.result c.from.result g.T.Scale.unit c.unsigned_at-units.result _ c.units.ensures c.from.ensures refl (sym c.if-from-units.false) in
    let y = c.in_ok-states.ensures in
    let n = c.new.ensures.0 ∙ y.1 in
    let k = c.new.ensures.1 ∙ y.2 in
    let x = ap (λ z. first_no (length_asked bs z c.new.result.settings ∷ distances_asked bs z c.new.result.settings)) (sym n) in (
      rest_decides _ _ c.if-length-lt28.false (sym (u ∙ c.unsigned_at-units.ensures)) y.0 ∙ ap (λ z. first_no (length_asked bs (n_at 0 bs) z ∷ distances_asked bs (n_at 0 bs) z)) (sym k) ∙ x ∙ c.in_ok-measured.ensures,
      record { bytes_is = refl; scale_is = sym u; states_is = y.1; settings_is = y.2; narrowings_is = y.3 },
    )
