use Rattle.std.proofs.Common.{◌-◌, ap, ◌∙◌}
use Rattle.sheet.specs.Layout.{sheet_length}
use Rattle.sheet.specs.Remakes.{as_made}
use Rattle.sheet.proofs.Making.{made_as}
use Rattle.sheet.proofs.framed.Framed.narrow_one.Goals as goal

pub returns : goal.returns
returns g c M h q =
    let l = c.layout.ensures in
    let n = c.length.ensures.is ∙ ap (λ z. sheet_length z c.layout.result.settings) l.0 ∙ ap (λ z. sheet_length c.args.self.now.states z) l.1 in
    made_as _ M h _ _ _ _ _ _ _ _ c.narrowing-call.ensures (c.made.ensures ∙ ap (λ z. as_made c.call.result (z - 2)) n) (c.call.ensures.replied M h q)
