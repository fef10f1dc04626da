use Rattle.std.proofs.Common.{sym, ◌∙◌}
use Rattle.std.proofs.lemmas.Bool.{eq-eqb, ne_eqb}
use Rattle.span.proofs.Verdicts.{no_here}
use Rattle.sheet.proofs.Asking.{passes_after}
use Rattle.sheet.proofs.framed.framing.measured.Goals as goal

pub returns-then-bytes-length : goal.returns-then-bytes-length
returns-then-bytes-length c = no_here _ _ _ (ne_eqb _ _ (λ e. c.if-bytes-length.true (e ∙ sym c.length.ensures.is)))

pub returns : goal.returns
returns c = passes_after _ _ _ _ (eq-eqb _ _ (c.if-bytes-length.false ∙ c.length.ensures.is)) c.distances.ensures
