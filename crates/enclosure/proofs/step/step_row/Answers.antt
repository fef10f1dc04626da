use Rattle.std.proofs.Common.{◌<◌, List, length, ap, ◌∙◌, arith}
use Rattle.span.specs.declared.span.Span.{Span}
use Rattle.span.specs.Intervals.{brought, point}
use Rattle.span.specs.Spans.{ends}
use Rattle.system.specs.Figures.{spans}
use Rattle.prepare.proofs.Additions.{fits_same, plus_same, times_same}
use Rattle.prepare.proofs.Bits.{spans_at}
use Rattle.prepare.proofs.Exact.{exact, fits_ok}
use Rattle.enclosure.specs.Stepped.{stepped}
use Rattle.enclosure.proofs.Reach.{fixed_fits, whole_fits, scale_read}
use Rattle.enclosure.proofs.step.step_row.Goals as goal

pub unwrap-fixed-requires : goal.unwrap-fixed-requires
unwrap-fixed-requires g c =
    let p = c.args.prepared.now in
    let u = scale_read c.units.result g.T.Scale.unit p.units g.met.T.Scale.most c.units.ensures c.requires.scale in
    let there : c.args.row < length c.residual.result.now = omega (arith, c.residual.ensures.long, p.size.1, c.requires.below) in
    let z = spans_at c.residual.result.now c.args.row _ _ there c.index-residual-row.is ∙ ap (λ (xs : List Span). spans xs c.args.row) c.residual.ensures.value in
    let product = times_same (c.point.ensures ∙ ap point u) z in
    fits_ok _ _ _ c.multiply.ensures.value (fits_same product (fixed_fits p c.args.row))

pub unwrap-whole-requires : goal.unwrap-whole-requires
unwrap-whole-requires g c =
    let p = c.args.prepared.now in
    let u = scale_read c.units.result g.T.Scale.unit p.units g.met.T.Scale.most c.units.ensures c.requires.scale in
    let there : c.args.row < length c.residual.result.now = omega (arith, c.residual.ensures.long, p.size.1, c.requires.below) in
    let z = spans_at c.residual.result.now c.args.row _ _ there c.index-residual-row.is ∙ ap (λ (xs : List Span). spans xs c.args.row) c.residual.ensures.value in
    let product = times_same (c.point.ensures ∙ ap point u) z in
    let fixed = exact _ _ _ _ c.multiply.ensures.value c.unwrap-fixed.ensures ∙ product in
    fits_ok _ _ _ c.add.ensures.value (fits_same (plus_same fixed c.products.ensures) (whole_fits p (spans c.args.y.now) c.requires.near.within c.args.row))

pub returns : goal.returns
unfolding stepped
returns g c =
    let p = c.args.prepared.now in
    let u = scale_read c.units.result g.T.Scale.unit p.units g.met.T.Scale.most c.units.ensures c.requires.scale in
    let there : c.args.row < length c.residual.result.now = omega (arith, c.residual.ensures.long, p.size.1, c.requires.below) in
    let z = spans_at c.residual.result.now c.args.row _ _ there c.index-residual-row.is ∙ ap (λ (xs : List Span). spans xs c.args.row) c.residual.ensures.value in
    let product = times_same (c.point.ensures ∙ ap point u) z in
    let fixed = exact _ _ _ _ c.multiply.ensures.value c.unwrap-fixed.ensures ∙ product in
    let whole = exact _ _ _ _ c.add.ensures.value c.unwrap-whole.ensures ∙ plus_same fixed c.products.ensures in
    c.bring_back.ensures.value ∙ ap (λ S. brought S (ends c.unwrap-whole.result)) c.requires.scale ∙ ap (brought p.units) whole
