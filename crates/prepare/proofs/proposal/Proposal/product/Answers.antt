use Rattle.std.proofs.Common.{◌≡◌, ℕ, ◌+◌, ◌-◌, ◌*◌, length, take, drop, ◌*ℤ◌, ap, ◌∙◌, le_refl, arith, w64}
use Rattle.std.proofs.lemmas.Int.{to_z-of_z}
use Rattle.span.specs.Intervals.{brought, point}
use Rattle.method.specs.Method as method
use Rattle.method.specs.Sums.{int_sum}
use Rattle.prepare.specs.Dots.{dotted}
use Rattle.prepare.specs.Numbers.{offered}
use Rattle.prepare.specs.Proposals.{game}
use Rattle.prepare.proofs.Bits.{fits_as}
use Rattle.prepare.proofs.Dotting.{product_dotted, product_small}
use Rattle.prepare.proofs.Limits.{product_sum}
use Rattle.prepare.proofs.proposal.Proposal.product.Goals as goal

pub dot-requires-clause-fits : goal.dot-requires-clause-fits
dot-requires-clause-fits g c m h =
    let p = c.args.self.now in
    product_small p c.matrix.result.now _ c.args.part c.args.row c.args.column m c.matrix.ensures.value (omega (arith, c.row.ensures.long)) c.row.ensures.numbers g.met.T.Scale.least g.met.T.Scale.most

pub returns : goal.returns
unfolding method.product
returns g c =
    let p = c.args.self.now in
    let n : ℕ = p.system.now.states in
    let d : c.dot.result ≡ int_sum n (λ l. (offered p).table c.args.row l *ℤ (game p.system.now).matrix c.args.part l c.args.column) = c.dot.ensures ∙ ap (λ m. dotted c.row.result.now (take (length c.matrix.result.now - (c.args.part * 144 + c.args.column)) (drop (c.args.part * 144 + c.args.column) c.matrix.result.now)) 12 m) c.row.ensures.long ∙ product_dotted p c.matrix.result.now _ c.args.part c.args.row c.args.column n c.matrix.ensures.value (le_refl n) c.row.ensures.numbers in
    let fits = product_sum g.met.T.Scale.least g.met.T.Scale.most p c.args.part c.args.row c.args.column n (le_refl n) in
    c.bring_back.ensures.value ∙ ap (brought g.T.Scale.unit) (c.point.ensures ∙ ap point (to_z-of_z w64 _ (fits_as _ _ d fits) ∙ d))
